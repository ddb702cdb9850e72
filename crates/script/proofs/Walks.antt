-- Where the reading of a text stops, and why.
use Rattle.std.proofs.Common.{◌≡◌, ℕ, ◌≤◌, true, ltb, List, [], ◌∷◌, length, Some, None, Option, refl, ap, arith}
use Rattle.std.proofs.lemmas.Bool.{false≢true, and_parts, and_from, ltb-true, lt-ltb}
use Rattle.lexer.specs.Names.{Name}
use Rattle.lexer.specs.Tokens.{Lexeme, Tokens, token, ended, broken, is_the_sign}
use Rattle.lexer.specs.declared.refusal.Reason.{Reason}
use Rattle.lexer.specs.declared.refusal.Reason.TheVariants.{Token, Grammar}
use Rattle.script.specs.Trees.{Block}
use Rattle.script.specs.Reading.{State, advance, finish, depth, after_dot, variables_after, passes, Outcome, accepted, refused, carry_on, conclude, read}
use Rattle.script.specs.Derivations.{Placed, at, deeper, shallow, variables_in, placed_in, unbroken, Splits, here, past}
use Rattle.script.proofs.Moves.{Move, move_advances, Ends, end_finishes, Goes, stays, goes}
use Rattle.script.proofs.Advances.{advance_moves, finish_ends}
use Rattle.script.proofs.Limits.{move_depth, more_variables, Limit, Passing, passing, passes_none}

-- why the reading goes no further in a state, with these variables
pub data Stops : List Name → State → Tokens → Outcome → Type 0 where
  finishes : {vs : List Name} {p : ℕ} {s : State} {b : Block} → Ends s b → Stops vs s (ended p) (accepted b vs)
  unfinished : {vs : List Name} {p : ℕ} {s : State} → ((b : Block) → Ends s b → ⊥) → Stops vs s (ended p) (refused Grammar p)
  breaks : {vs : List Name} {p : ℕ} {s : State} → Stops vs s (broken p) (refused Token p)
  blocked : {vs : List Name} {p : ℕ} {s : State} {t : Lexeme} {ts : Tokens} → ((to : State) → Move t p s to → ⊥) → Stops vs s (token t p ts) (refused Grammar p)
  limited : {vs : List Name} {p : ℕ} {s to : State} {t : Lexeme} {ts : Tokens} {reason : Reason} → Move t p s to → Limit t (depth s) (length (variables_after vs s.stand t)) reason → Stops vs s (token t p ts) (refused reason p)

-- a run over tokens within the limits, from a state and variables on to others
pub record Trail (vs : List Name) (s : State) (ws : List Placed) (to : State) (us : List Name) : Type 0 where
  pub run : Goes s ws to
  pub brackets : shallow (depth s) ws ≡ true
  pub variables : variables_in (after_dot s.stand) vs ws ≡ us
  pub few : length us ≤ 16

-- the tokens of a text that are read, and where the reading stops
pub record Walk (vs : List Name) (s : State) (ts : Tokens) (o : Outcome) : Type 0 where
  pub ws : List Placed
  pub rest : Tokens
  pub to : State
  pub us : List Name
  pub split : Splits ts ws rest
  pub trail : Trail vs s ws to us
  pub stop : Stops us to rest o

-- a reading that stops at once
halts : {vs : List Name} {s : State} {ts : Tokens} {o : Outcome} → length vs ≤ 16 → Stops vs s ts o → Walk vs s ts o
unfolding variables_in shallow
halts {vs} {s} {ts} l stop =
    record {
      ws = [];
      rest = ts;
      to = s;
      us = vs;
      split = here ts;
      trail = record { run = stays; brackets = refl; variables = refl; few = l };
      stop = stop;
    }

-- a reading with a token more in front
further : {vs : List Name} {p : ℕ} {t : Lexeme} {s to : State} {ts : Tokens} {o : Outcome} → Move t p s to → deeper (depth s) t ≤ 16 → Walk (variables_after vs s.stand t) to ts o → Walk vs s (token t p ts) o
unfolding variables_in shallow
further {vs} {p} {t} {s} {ts = ts} m d w =
    record {
      ws = at p t ∷ w.ws;
      rest = w.rest;
      to = w.to;
      us = w.us;
      split = past t p ts w.rest w.ws w.split;
      trail = record {
        run = goes m w.trail.run;
        brackets = and_from _ _ (lt-ltb _ _ (omega arith)) (rw (move_depth m).0 at w.trail.brackets);
        variables = rw (move_depth m).1 at w.trail.variables;
        few = w.trail.few;
      };
      stop = w.stop;
    }

-- what is not there is nothing
never : {A : Type 0} {o : Option A} {x : A} → o ≡ None → o ≡ Some x → ⊥
never p q = let z : ◌≡◌ {A = ℕ} 0 1 = cc in omega arith

-- the reading stops at the end of the tokens
at_end : {vs : List Name} {s : State} (p : ℕ) (o : Option Block) → finish s s.frames s.stand ≡ o → Stops vs s (ended p) (conclude o vs p)
at_end {s = s} p (Some b) is = finishes (finish_ends s b is)
at_end p None is = unfinished (λ b x. never is (end_finishes x))

-- at a token the reading stops, or goes on as it does after it
at_token : {vs : List Name} {p : ℕ} {t : Lexeme} {s : State} {ts : Tokens} (o : Option State) (limit : Option Reason) (f : State → Outcome) → length vs ≤ 16 → advance t p s ≡ o → Passing t (depth s) (length (variables_after vs s.stand t)) limit → ((to : State) → depth to ≤ 16 → length (variables_after vs s.stand t) ≤ 16 → Walk (variables_after vs s.stand t) to ts (f to)) → Walk vs s (token t p ts) (carry_on o limit p f)
at_token None limit f l is passed on = halts l (blocked (λ to m. never is (move_advances m)))
at_token {p = p} {t} {s} (Some to) (Some reason) f l is passed on = halts l (limited (advance_moves t p s to is) passed)
at_token {p = p} {t} {s} (Some to) None f l is (low, few) on =
    let m = advance_moves t p s to is in
    further m low (on to (rw (move_depth m).0 low) few)

-- each reading is a walk
pub walk : (ts : Tokens) (vs : List Name) (s : State) → depth s ≤ 16 → length vs ≤ 16 → Walk vs s ts (read vs s ts)
unfolding read
walk (token t p ts) vs s d l =
    at_token (advance t p s) (passes t (depth s) (length (variables_after vs s.stand t))) _ l refl (passing t (depth s) _ d) (λ to. walk ts (variables_after vs s.stand t) to)
walk (ended p) vs s d l = halts l (at_end p (finish s s.frames s.stand) refl)
walk (broken p) vs s d l = halts l breaks

-- a text is read as a tree that a run over its tokens accepts within the limits
pub accepts : (ts : Tokens) (vs us : List Name) (s to : State) (b : Block) → Goes s (placed_in ts) to → Ends to b → unbroken ts ≡ true → shallow (depth s) (placed_in ts) ≡ true → variables_in (after_dot s.stand) vs (placed_in ts) ≡ us → length us ≤ 16 → read vs s ts ≡ accepted b us
unfolding read placed_in unbroken shallow variables_in
accepts (token t p ts) vs us s to b (goes {next = next} m run) x u c v f =
    let (now, later) = and_parts (ltb (deeper (depth s) t) 17) _ c in
    let more : length (variables_after vs s.stand t) ≤ length us = rw (← v) (more_variables (placed_in ts) (is_the_sign 46 t) (variables_after vs s.stand t)) in
    rw (move_advances m, passes_none t (depth s) (length (variables_after vs s.stand t)) (omega (arith, ltb-true _ 17 now)) (omega arith))
    (accepts ts (variables_after vs s.stand t) us next to b run x u (rw (move_depth m).0 later) (rw (move_depth m).1 v) f)
accepts (ended p) vs us s to b stays x u c v f = rw (end_finishes x) (ap (accepted b) v)
accepts (broken p) vs us s to b stays x u c v f = absurd (false≢true u)
