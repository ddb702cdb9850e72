-- What becomes of the next token of a reader: it is passed, it passes a limit, or it is refused.
use Rattle.std.proofs.Common.{◌≡◌, ℕ, ◌<◌, ◌≤◌, Bool, true, false, cond, ◌&&◌, leb, List, length, Some, None, sym, refl, ap, ◌∙◌, arith}
use Rattle.std.proofs.lemmas.Bool.{lt-leb, le-leb}
use Rattle.lexer.specs.Names.{Name}
use Rattle.lexer.specs.Readers.{text_of, place_of, language_of, tokens_from, next_of, next_place, past_next, Moved}
use Rattle.lexer.specs.Tokens.{Lexeme, name, number, sign, equals, end, bad, is_the_sign, reason_at, Tokens, token, then, tokens}
use Rattle.lexer.specs.declared.reader.Reader.{Reader}
use Rattle.lexer.specs.declared.refusal.Reason.{Reason}
use Rattle.lexer.specs.declared.refusal.Reason.TheVariants.{Deep, Many}
use Rattle.lexer.proofs.Moves.{moved_tokens, sign_is}
use Rattle.lexer.proofs.Rows.{tokens_step}
use Rattle.script.specs.Reading.{State, advance, finish, depth, opens, after_dot, if_plain, with_variable, variables_after, passes, carry_on, read, refused}
use Rattle.parser.specs.Parsing.{NamePassed}

-- reading on from a reader is reading its next token, and then those after it
next_first : (r : Reader) (vs : List Name) (s : State) → read vs s (tokens_from r) ≡ read vs s (then (next_of r) (next_place r) (tokens (language_of r) (text_of r) (past_next r)))
next_first r vs s = ap (read vs s) (tokens_step (language_of r) (text_of r) (place_of r) r.within)

-- what comes of the next token, where it is one
module _ (r : Reader) (vs : List Name) (s : State) (t : Lexeme) (is : next_of r ≡ t) (proper : (at : ℕ) (ts : Tokens) → then t at ts ≡ token t at ts) where
  at_token : read vs s (tokens_from r) ≡ carry_on (advance t (next_place r) s) (passes t (depth s) (length (variables_after vs s.stand t))) (next_place r) (λ n. read (variables_after vs s.stand t) n (tokens (language_of r) (text_of r) (past_next r)))
  unfolding read
  at_token =
      next_first r vs s ∙ ap (λ u. read vs s (then u (next_place r) (tokens (language_of r) (text_of r) (past_next r)))) is
      ∙ ap (read vs s) (proper (next_place r) (tokens (language_of r) (text_of r) (past_next r)))

  -- it is passed
  pub passed : (q : Reader) (s2 : State) → advance t (next_place r) s ≡ Some s2 → passes t (depth s) (length (variables_after vs s.stand t)) ≡ None → Moved r q (past_next r) → read vs s (tokens_from r) ≡ read (variables_after vs s.stand t) s2 (tokens_from q)
  passed q s2 a p m = at_token ∙ rw (a, p) (ap (read (variables_after vs s.stand t) s2) (sym (moved_tokens m)))

  -- it passes a limit
  pub limited : (s2 : State) (reason : Reason) → advance t (next_place r) s ≡ Some s2 → passes t (depth s) (length (variables_after vs s.stand t)) ≡ Some reason → read vs s (tokens_from r) ≡ refused reason (next_place r)
  limited s2 reason a p = at_token ∙ rw (a, p)

-- a token that opens nothing passes no limit, where there are no more than 16 variables
pub free : (t : Lexeme) (deep many : ℕ) → opens t ≡ false → many ≤ 16 → passes t deep many ≡ None
unfolding passes
free t deep many closed few =
    ap (λ b. cond (b && leb 16 deep) (Some Deep) (cond (leb 17 many) (Some Many) None)) closed ∙ ap (λ b. cond b (Some Many) None) (lt-leb 17 many (omega arith))

-- one that opens a bracket or a brace passes none where fewer than 16 are open
pub shallow : (t : Lexeme) (deep many : ℕ) → opens t ≡ true → deep < 16 → many ≤ 16 → passes t deep many ≡ None
unfolding passes
shallow t deep many bracket low few =
    ap (λ b. cond (b && leb 16 deep) (Some Deep) (cond (leb 17 many) (Some Many) None)) bracket
    ∙ ap (λ b. cond b (Some Deep) (cond (leb 17 many) (Some Many) None)) (lt-leb 16 deep (omega arith))
    ∙ ap (λ b. cond b (Some Many) None) (lt-leb 17 many (omega arith))

-- and otherwise it would be the seventeenth
pub seventeenth : (t : Lexeme) (deep many : ℕ) → opens t ≡ true → 16 ≤ deep → passes t deep many ≡ Some Deep
unfolding passes
seventeenth t deep many bracket high =
    ap (λ b. cond (b && leb 16 deep) (Some Deep) (cond (leb 17 many) (Some Many) None)) bracket
    ∙ ap (λ b. cond b (Some Deep) (cond (leb 17 many) (Some Many) None)) (le-leb 16 deep high)

-- a sign is passed
pub sign_passed : (b : ℕ) {r q : Reader} (vs : List Name) (s s2 : State) → is_the_sign b (next_of r) ≡ true → advance (sign b) (next_place r) s ≡ Some s2 → opens (sign b) ≡ false → length vs ≤ 16 → Moved r q (past_next r) → read vs s (tokens_from r) ≡ read vs s2 (tokens_from q)
sign_passed b {r} {q} vs s s2 is a closed few m =
    passed r vs s (sign b) (sign_is b (next_of r) is) (λ _ _. refl) q s2 a (free (sign b) (depth s) (length vs) closed few) m

-- a name that is no keyword
module _ {r q : Reader} {n : Name} (p : NamePassed r q n) (vs : List Name) (s s2 : State) (dot : Bool) (after : after_dot s.stand ≡ dot) (a : advance (name n) (next_place r) s ≡ Some s2) where
  with_name : variables_after vs s.stand (name n) ≡ with_variable vs dot (Some n)
  with_name = (λ i. with_variable vs (after i) (if_plain (p.word i) n))

  pub name_read : length (with_variable vs dot (Some n)) ≤ 16 → read vs s (tokens_from r) ≡ read (with_variable vs dot (Some n)) s2 (tokens_from q)
  name_read few =
      passed r vs s (name n) p.is (λ _ _. refl) q s2 a (free (name n) (depth s) (length (variables_after vs s.stand (name n))) refl (omega (arith, ap length with_name))) p.moved
      ∙ ap (λ ws. read ws s2 (tokens_from q)) with_name

  pub name_many : 16 < length (with_variable vs dot (Some n)) → read vs s (tokens_from r) ≡ refused Many (next_place r)
  unfolding passes
  name_many many =
      limited r vs s (name n) p.is (λ _ _. refl) s2 Many a (ap (λ b. cond b (Some Many) None) (le-leb 17 (length (variables_after vs s.stand (name n))) (omega (arith, ap length with_name))))

-- a token is refused where it cannot come and the text cannot end
stuck : (t : Lexeme) (vs : List Name) (at : ℕ) (s : State) (ts : Tokens) → advance t at s ≡ None → finish s s.frames s.stand ≡ None → read vs s (then t at ts) ≡ refused (reason_at t) at
unfolding read
stuck (name w) vs at s ts a f = rw a
stuck (number v) vs at s ts a f = rw a
stuck (sign b) vs at s ts a f = rw a
stuck equals vs at s ts a f = rw a
stuck end vs at s ts a f = rw f
stuck bad vs at s ts a f = refl

pub refuses : (r : Reader) (vs : List Name) (s : State) → advance (next_of r) (next_place r) s ≡ None → finish s s.frames s.stand ≡ None → read vs s (tokens_from r) ≡ refused (reason_at (next_of r)) (next_place r)
refuses r vs s a f = next_first r vs s ∙ stuck (next_of r) vs (next_place r) s _ a f

-- two states that let the same token pass, and the text end alike, read on alike
module _ (k l : State) (f : finish k k.frames k.stand ≡ finish l l.frames l.stand) (d : depth k ≡ depth l) (after : after_dot k.stand ≡ after_dot l.stand) where
  alike : (t : Lexeme) (at : ℕ) → advance t at k ≡ advance t at l → (vs : List Name) (ts : Tokens) → read vs k (then t at ts) ≡ read vs l (then t at ts)
  unfolding read
  alike (name w) at e vs ts = rw (e, d, after)
  alike (number v) at e vs ts = rw (e, d)
  alike (sign b) at e vs ts = rw (e, d)
  alike equals at e vs ts = rw (e, d)
  alike end at e vs ts = rw f
  alike bad at e vs ts = refl

  pub reads_alike : (r : Reader) (vs : List Name) → advance (next_of r) (next_place r) k ≡ advance (next_of r) (next_place r) l → read vs k (tokens_from r) ≡ read vs l (tokens_from r)
  reads_alike r vs e = next_first r vs k ∙ alike (next_of r) (next_place r) e vs _ ∙ sym (next_first r vs l)
