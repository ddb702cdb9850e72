-- Where the reading of a text stops, and why.
use Rattle.std.proofs.Common.{◌≡◌, ℕ, ◌+◌, ◌≤◌, true, ltb, List, [], ◌∷◌, length, Some, None, Option, refl, ap, arith}
use Rattle.std.proofs.lemmas.Bool.{false≢true, and_parts, and_from, ltb-true, lt-ltb}
use Rattle.lexer.specs.Tokens.{Lexeme, Tokens, token, ended, broken}
use Rattle.lexer.specs.declared.refusal.Reason.{Reason}
use Rattle.lexer.specs.declared.refusal.Reason.TheVariants.{Token, Grammar}
use Rattle.expression.specs.Expressions.{Expr}
use Rattle.expression.specs.Reading.{State, advance, finish, weight, passes, Outcome, accepted, refused, step, conclude, read}
use Rattle.expression.specs.Derivations.{letters_in, deeper, shallow, lexemes_in, unbroken, Splits, here, past}
use Rattle.expression.proofs.Moves.{Move, advance_moves, move_advances, Ends, finish_ends, end_finishes, Goes, stays, goes}
use Rattle.expression.proofs.Limits.{move_depth, Limit, Passing, passing, passes_none}

-- why the reading goes no further in a state, with so many letters read
pub data Stops : ℕ → State → Tokens → Outcome → Type 0 where
  finishes : {n at : ℕ} {s : State} {e : Expr} → Ends s e → Stops n s (ended at) (accepted e n)
  unfinished : {n at : ℕ} {s : State} → ((e : Expr) → Ends s e → ⊥) → Stops n s (ended at) (refused Grammar at)
  breaks : {n at : ℕ} {s : State} → Stops n s (broken at) (refused Token at)
  blocked : {n at : ℕ} {s : State} {t : Lexeme} {ts : Tokens} → ((next : State) → Move t s next → ⊥) → Stops n s (token t at ts) (refused Grammar at)
  limited : {n at : ℕ} {s next : State} {t : Lexeme} {ts : Tokens} {reason : Reason} → Move t s next → Limit t (length s.outer) n reason → Stops n s (token t at ts) (refused reason at)

-- a run over lexemes within the limits, from a state and so many letters on to another and their total
pub record Trail (letters : ℕ) (s : State) (ws : List Lexeme) (to : State) (total : ℕ) : Type 0 where
  pub run : Goes s ws to
  pub brackets : shallow (length s.outer) ws ≡ true
  pub count : letters + letters_in ws ≡ total
  pub few : total ≤ 62

-- the lexemes of a text that are read, and where the reading stops
pub record Walk (letters : ℕ) (s : State) (ts : Tokens) (o : Outcome) : Type 0 where
  pub ws : List Lexeme
  pub rest : Tokens
  pub to : State
  pub total : ℕ
  pub split : Splits ts ws rest
  pub trail : Trail letters s ws to total
  pub stop : Stops total to rest o

-- a reading that stops at once
halts : {letters : ℕ} {s : State} {ts : Tokens} {o : Outcome} → letters ≤ 62 → Stops letters s ts o → Walk letters s ts o
unfolding letters_in shallow
halts {letters} {s} {ts} l stop =
    record {
      ws = [];
      rest = ts;
      to = s;
      total = letters;
      split = here ts;
      trail = record { run = stays; brackets = refl; count = omega arith; few = l };
      stop = stop;
    }

-- a reading with a token more in front
further : {letters at : ℕ} {t : Lexeme} {s next : State} {ts : Tokens} {o : Outcome} → Move t s next → deeper (length s.outer) t ≤ 16 → Walk (letters + weight t) next ts o → Walk letters s (token t at ts) o
unfolding letters_in shallow
further {letters} {at} {t} {s} {ts = ts} m d w =
    record {
      ws = t ∷ w.ws;
      rest = w.rest;
      to = w.to;
      total = w.total;
      split = past t at ts w.rest w.ws w.split;
      trail = record {
        run = goes m w.trail.run;
        brackets = and_from _ _ (lt-ltb _ _ (omega arith)) (rw (move_depth m) at w.trail.brackets);
        count = omega arith;
        few = w.trail.few;
      };
      stop = w.stop;
    }

-- what is not there is nothing
never : {A : Type 0} {o : Option A} {x : A} → o ≡ None → o ≡ Some x → ⊥
never p q = let z : ◌≡◌ {A = ℕ} 0 1 = cc in omega arith

-- the reading stops at the end of the tokens
at_end : {letters at : ℕ} {s : State} (o : Option Expr) → finish s s.outer s.here ≡ o → Stops letters s (ended at) (conclude o letters at)
at_end {s = s} (Some e) is = finishes (finish_ends s e is)
at_end None is = unfinished (λ e x. never is (end_finishes x))

-- at a token the reading stops, or goes on as it does after it
at_token : {letters at : ℕ} {t : Lexeme} {s : State} {ts : Tokens} (o : Option State) (p : Option Reason) (f : State → Outcome) → letters ≤ 62 → advance t s ≡ o → Passing t (length s.outer) letters p → ((next : State) → length next.outer ≤ 16 → letters + weight t ≤ 62 → Walk (letters + weight t) next ts (f next)) → Walk letters s (token t at ts) (step o p at f)
at_token None p f l is limit on = halts l (blocked (λ next m. never is (move_advances m)))
at_token {t = t} {s = s} (Some next) (Some reason) f l is limit on = halts l (limited (advance_moves t s next is) limit)
at_token {t = t} {s = s} (Some next) None f l is (low, few) on =
    let m = advance_moves t s next is in
    further m low (on next (rw (move_depth m) low) few)

-- each reading is a walk
pub walk : (ts : Tokens) (letters : ℕ) (s : State) → length s.outer ≤ 16 → letters ≤ 62 → Walk letters s ts (read letters s ts)
unfolding read
walk (token t at ts) letters s d l =
    at_token (advance t s) (passes t (length s.outer) letters) _ l refl (passing t (length s.outer) letters d l) (λ next. walk ts (letters + weight t) next)
walk (ended at) letters s d l = halts l (at_end (finish s s.outer s.here) refl)
walk (broken at) letters s d l = halts l breaks

-- a text is read as a tree that a run over its lexemes accepts within the limits
pub accepts : (ts : Tokens) (letters total : ℕ) (s to : State) (e : Expr) → Goes s (lexemes_in ts) to → Ends to e → unbroken ts ≡ true → shallow (length s.outer) (lexemes_in ts) ≡ true → letters + letters_in (lexemes_in ts) ≡ total → total ≤ 62 → read letters s ts ≡ accepted e total
unfolding read lexemes_in unbroken shallow letters_in
accepts (token t at ts) letters total s to e (goes {next = next} m run) x u b c f =
    let (now, later) = and_parts (ltb (deeper (length s.outer) t) 17) _ b in
    rw (move_advances m, passes_none t (length s.outer) letters (omega (arith, ltb-true _ 17 now)) (omega arith))
    (accepts ts (letters + weight t) total next to e run x u (rw (move_depth m) later) (omega arith) f)
accepts (ended at) letters total s to e stays x u b c f = rw (end_finishes x) (ap (accepted e) (omega arith))
accepts (broken at) letters total s to e stays x u b c f = absurd (false≢true u)
