-- Which tokens a state of the reading lets pass, and which states let the same tokens pass.
use Rattle.std.proofs.Common.{◌≡◌, ℕ, ◌+◌, Bool, true, false, cond, List, [], ◌∷◌, length, Some, None, Option, sym, refl, ap, ◌∙◌}
use Rattle.lexer.specs.Readers.{text_of, place_of, language_of, tokens_from, next_of, next_place, past_next, Moved}
use Rattle.lexer.specs.Tokens.{Lexeme, name, number, sign, equals, end, bad, Tokens, token, then, tokens, is_the_sign, reason_at}
use Rattle.lexer.specs.declared.reader.Reader.{Reader}
use Rattle.lexer.specs.declared.refusal.Reason.{Reason}
use Rattle.lexer.proofs.Moves.{moved_tokens}
use Rattle.lexer.proofs.Rows.{tokens_step}
use Rattle.expression.specs.Expressions.{Expr, alternative, sequence}
use Rattle.expression.specs.Reading.{Level, blank, Here, opened, wanting, holding, starred, State, state, advance, finish, passes, weight, step, read, refused}

-- a choice between equals
cond_same : {A : Type 0} (b : Bool) (x : A) → cond b x x ≡ x
cond_same true x = refl
cond_same false x = refl

-- reading on from a reader is reading its next token, and then those after it
pub next_first : (r : Reader) (n : ℕ) (s : State) → read n s (tokens_from r) ≡ read n s (then (next_of r) (next_place r) (tokens (language_of r) (text_of r) (past_next r)))
next_first r n s = ap (read n s) (tokens_step (language_of r) (text_of r) (place_of r) r.within)

-- what comes of the next token, where it is one
module _ (r : Reader) (n : ℕ) (s : State) (t : Lexeme) (is : next_of r ≡ t) (proper : (at : ℕ) (ts : Tokens) → then t at ts ≡ token t at ts) where
  at_token : read n s (tokens_from r) ≡ step (advance t s) (passes t (length s.outer) n) (next_place r) (λ next. read (n + weight t) next (tokens (language_of r) (text_of r) (past_next r)))
  unfolding read
  at_token =
      next_first r n s ∙ ap (λ u. read n s (then u (next_place r) (tokens (language_of r) (text_of r) (past_next r)))) is
      ∙ ap (read n s) (proper (next_place r) (tokens (language_of r) (text_of r) (past_next r)))

  -- it is passed
  pub passed : (q : Reader) (s2 : State) → advance t s ≡ Some s2 → passes t (length s.outer) n ≡ None → Moved r q (past_next r) → read n s (tokens_from r) ≡ read (n + weight t) s2 (tokens_from q)
  passed q s2 a p m = at_token ∙ rw (a, p) (ap (read (n + weight t) s2) (sym (moved_tokens m)))

  -- it passes a limit
  pub limited : (s2 : State) (reason : Reason) → advance t s ≡ Some s2 → passes t (length s.outer) n ≡ Some reason → read n s (tokens_from r) ≡ refused reason (next_place r)
  limited s2 reason a p = at_token ∙ rw (a, p)

-- what follows the next token is refused where that cannot come and the text cannot end
stuck : (t : Lexeme) (n at : ℕ) (s : State) (ts : Tokens) → advance t s ≡ None → finish s s.outer s.here ≡ None → read n s (then t at ts) ≡ refused (reason_at t) at
unfolding read
stuck (name w) n at s ts a f = rw a
stuck (number v) n at s ts a f = rw a
stuck (sign b) n at s ts a f = rw a
stuck equals n at s ts a f = rw a
stuck end n at s ts a f = rw f
stuck bad n at s ts a f = refl

pub refuses : (r : Reader) (n : ℕ) (s : State) → advance (next_of r) s ≡ None → finish s s.outer s.here ≡ None → read n s (tokens_from r) ≡ refused (reason_at (next_of r)) (next_place r)
refuses r n s a f = next_first r n s ∙ stuck (next_of r) n (next_place r) s _ a f

-- a text cannot end where an operand must come, nor in a bracket
pub no_end_wanting : (outer : List Level) (l : Level) → finish (state outer l wanting) outer wanting ≡ None
no_end_wanting [] l = refl
no_end_wanting (m ∷ ms) l = refl

-- where an operand must come, no other token passes
pub stuck_wanting : (t : Lexeme) (outer : List Level) (l : Level) → ((w : List ℕ) → t ≡ name w → ⊥) → is_the_sign 63 t ≡ false → is_the_sign 40 t ≡ false → advance t (state outer l wanting) ≡ None
unfolding advance
stuck_wanting (name w) outer l no_name a b = absurd (no_name w refl)
stuck_wanting (number v) outer l no_name a b = refl
stuck_wanting (sign c) outer l no_name a b = rw (a, b) (simp cond_same)
stuck_wanting equals outer l no_name a b = refl
stuck_wanting end outer l no_name a b = refl
stuck_wanting bad outer l no_name a b = refl

-- after a `*`, nothing passes but `)`, `.` and `|`
pub stuck_starred : (t : Lexeme) (outer : List Level) (l : Level) (e : Expr) → is_the_sign 41 t ≡ false → is_the_sign 46 t ≡ false → is_the_sign 124 t ≡ false → advance t (state outer l (starred e)) ≡ None
unfolding advance
stuck_starred (name w) outer l e a b c = refl
stuck_starred (number v) outer l e a b c = refl
stuck_starred (sign d) outer l e a b c = rw (a, b, c) (simp cond_same)
stuck_starred equals outer l e a b c = refl
stuck_starred end outer l e a b c = refl
stuck_starred bad outer l e a b c = refl

-- after `*` outside of brackets, `)` does not pass either
pub stuck_outside : (t : Lexeme) (l : Level) (e : Expr) → is_the_sign 46 t ≡ false → is_the_sign 124 t ≡ false → advance t (state [] l (starred e)) ≡ None
unfolding advance
stuck_outside (name w) l e b c = refl
stuck_outside (number v) l e b c = refl
stuck_outside (sign d) l e b c = rw (b, c) (simp cond_same)
stuck_outside equals l e b c = refl
stuck_outside end l e b c = refl
stuck_outside bad l e b c = refl

-- two states that let the same tokens pass, and the text end alike, read on alike
module _ (outer : List Level) (k l : Level) (g h : Here) (f : finish (state outer k g) outer g ≡ finish (state outer l h) outer h) where
  alike : (t : Lexeme) → advance t (state outer k g) ≡ advance t (state outer l h) → (n at : ℕ) (ts : Tokens) → read n (state outer k g) (then t at ts) ≡ read n (state outer l h) (then t at ts)
  unfolding read
  alike (name w) e n at ts = rw e
  alike (number v) e n at ts = rw e
  alike (sign b) e n at ts = rw e
  alike equals e n at ts = rw e
  alike end e n at ts = rw f
  alike bad e n at ts = refl

  reads_alike : (r : Reader) (n : ℕ) → advance (next_of r) (state outer k g) ≡ advance (next_of r) (state outer l h) → read n (state outer k g) (tokens_from r) ≡ read n (state outer l h) (tokens_from r)
  reads_alike r n e = next_first r n (state outer k g) ∙ alike (next_of r) e n (next_place r) _ ∙ sym (next_first r n (state outer l h))

-- after an operand that no `*` follows
pub settled : (r : Reader) (n : ℕ) (outer : List Level) (l : Level) (e : Expr) → is_the_sign 42 (next_of r) ≡ false → read n (state outer l (holding e)) (tokens_from r) ≡ read n (state outer l (starred e)) (tokens_from r)
unfolding advance
settled r n outer l e no_star = reads_alike outer l l (holding e) (starred e) (ends outer) r n (by (next_of r) no_star)
  where
    ends : (outer : List Level) → finish (state outer l (holding e)) outer (holding e) ≡ finish (state outer l (starred e)) outer (starred e)
    ends [] = refl
    ends (m ∷ ms) = refl

    by : (t : Lexeme) → is_the_sign 42 t ≡ false → advance t (state outer l (holding e)) ≡ advance t (state outer l (starred e))
    by (name w) a = refl
    by (number v) a = refl
    by (sign b) a = rw a
    by equals a = refl
    by end a = refl
    by bad a = refl

-- after an opening bracket that `)` does not follow
pub entered : (r : Reader) (n : ℕ) (outer : List Level) → is_the_sign 41 (next_of r) ≡ false → read n (state outer blank opened) (tokens_from r) ≡ read n (state outer blank wanting) (tokens_from r)
unfolding advance
entered r n outer no-close = reads_alike outer blank blank opened wanting (ends outer) r n (by (next_of r) no-close)
  where
    ends : (outer : List Level) → finish (state outer blank opened) outer opened ≡ finish (state outer blank wanting) outer wanting
    ends [] = refl
    ends (m ∷ ms) = refl

    by : (t : Lexeme) → is_the_sign 41 t ≡ false → advance t (state outer blank opened) ≡ advance t (state outer blank wanting)
    by (name w) a = refl
    by (number v) a = refl
    by (sign b) a = rw a
    by equals a = refl
    by end a = refl
    by bad a = refl

-- after the last item of a sequence
pub joins_up : (r : Reader) (n : ℕ) (outer : List Level) (a : Option Expr) (d e : Expr) → read n (state outer (record { alternatives = a; items = Some d }) (starred e)) (tokens_from r) ≡ read n (state outer (record { alternatives = a; items = None }) (starred (sequence d e))) (tokens_from r)
unfolding advance
joins_up r n outer a d e = reads_alike outer _ _ (starred e) (starred (sequence d e)) (ends outer) r n (by (next_of r))
  where
    ends : (outer : List Level) → finish (state outer (record { alternatives = a; items = Some d }) (starred e)) outer (starred e) ≡ finish (state outer (record { alternatives = a; items = None }) (starred (sequence d e))) outer (starred (sequence d e))
    ends [] = refl
    ends (m ∷ ms) = refl

    by : (t : Lexeme) → advance t (state outer (record { alternatives = a; items = Some d }) (starred e)) ≡ advance t (state outer (record { alternatives = a; items = None }) (starred (sequence d e)))
    by (name w) = refl
    by (number v) = refl
    by (sign b) = refl
    by equals = refl
    by end = refl
    by bad = refl

-- after the last sequence of an alternative, which no `.` follows
pub unites : (r : Reader) (n : ℕ) (outer : List Level) (d e : Expr) → is_the_sign 46 (next_of r) ≡ false → read n (state outer (record { alternatives = Some d; items = None }) (starred e)) (tokens_from r) ≡ read n (state outer blank (starred (alternative d e))) (tokens_from r)
unfolding advance
unites r n outer d e no_dot = reads_alike outer _ _ (starred e) (starred (alternative d e)) (ends outer) r n (by (next_of r) no_dot)
  where
    ends : (outer : List Level) → finish (state outer (record { alternatives = Some d; items = None }) (starred e)) outer (starred e) ≡ finish (state outer blank (starred (alternative d e))) outer (starred (alternative d e))
    ends [] = refl
    ends (m ∷ ms) = refl

    by : (t : Lexeme) → is_the_sign 46 t ≡ false → advance t (state outer (record { alternatives = Some d; items = None }) (starred e)) ≡ advance t (state outer blank (starred (alternative d e)))
    by (name w) a = refl
    by (number v) a = refl
    by (sign b) a = rw a
    by equals a = refl
    by end a = refl
    by bad a = refl
