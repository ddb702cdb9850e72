-- The limits that a token passes: the brackets and braces open after a run, and its variables.
use Rattle.std.proofs.Common.{◌≡◌, ℕ, ◌+◌, ◌≤◌, Bool, true, false, ◌&&◌, ltb, leb, List, [], ◌∷◌, ◌++◌, length, Some, None, Option, refl, ap, ◌∙◌, arith, length-append}
use Rattle.std.proofs.lemmas.Bool.{cond_both, and_parts, leb-true, ltb-true}
use Rattle.std.proofs.lemmas.Bool.Decides.{nat_tests}
use Rattle.lexer.specs.Names.{Name}
use Rattle.lexer.specs.Tokens.{Lexeme, is_the_sign}
use Rattle.lexer.specs.declared.refusal.Reason.{Reason}
use Rattle.lexer.specs.declared.refusal.Reason.TheVariants.{Deep, Many}
use Rattle.script.specs.Reading.{Inner, then_block, else_block, while_block, spot_dotted, State, depth, opens, name_in, after_dot, among, with_variable, passes}
use Rattle.script.specs.Derivations.{Placed, at, deeper, open_after, shallow, variables_in}
use Rattle.script.proofs.Steps.{by_plus, by_minus, by_less, by_same, Steps, path_begins, path_grows, dot_comes, has_comes, number_comes, bracket_opens, bracket_closes, times_comes, term_comes, side_comes}
use Rattle.script.proofs.Moves.{begins_then, begins_while, Move, head_comes, cut_comes, target_begins, brace_closes, else_comes, if_ends, else_opens, target_dots, target_grows, target_sets, cut_begins, cut_dots, cut_grows, cut_ends, goes_on, expression_ends, condition_ends, Goes, stays, goes}

-- a step opens and closes the brackets that its token does, and leaves a dot last if its token is one
step_depth : {t : Lexeme} {p : ℕ} {i j : Inner} (n : ℕ) → Steps t p i j → (n + length j.outer ≡ deeper (n + length i.outer) t) × (spot_dotted j.spot ≡ is_the_sign 46 t)
step_depth n (path_begins h w) = (refl, refl)
step_depth n (path_grows w) = (refl, refl)
step_depth n dot_comes = (refl, refl)
step_depth n (has_comes w) = (refl, refl)
step_depth n number_comes = (refl, refl)
step_depth n bracket_opens = (omega arith, refl)
step_depth n (bracket_closes h) = (omega arith, refl)
step_depth n (times_comes h) = (refl, refl)
step_depth n (term_comes by_plus h) = (refl, refl)
step_depth n (term_comes by_minus h) = (refl, refl)
step_depth n (side_comes by_less h) = (refl, refl)
step_depth n (side_comes by_same h) = (refl, refl)

-- so does a move
pub move_depth : {t : Lexeme} {p : ℕ} {s to : State} → Move t p s to → (depth to ≡ deeper (depth s) t) × (after_dot to.stand ≡ is_the_sign 46 t)
move_depth (head_comes w h) = (refl, refl)
move_depth (cut_comes w) = (refl, refl)
move_depth (target_begins w) = (refl, refl)
move_depth (brace_closes {o = then_block p e}) = (omega arith, refl)
move_depth (brace_closes {o = else_block p e c}) = (omega arith, refl)
move_depth (brace_closes {o = while_block p e}) = (omega arith, refl)
move_depth (else_comes w) = (refl, refl)
move_depth (if_ends m) = move_depth m
move_depth else_opens = (omega arith, refl)
move_depth target_dots = (refl, refl)
move_depth (target_grows w) = (refl, refl)
move_depth target_sets = (refl, refl)
move_depth (cut_begins w) = (refl, refl)
move_depth cut_dots = (refl, refl)
move_depth (cut_grows w) = (refl, refl)
move_depth cut_ends = (refl, refl)
move_depth (goes_on {fs = fs} x) = step_depth (length fs) x
move_depth (expression_ends h g) = (refl, refl)
move_depth (condition_ends h begins_then) = (omega arith, refl)
move_depth (condition_ends h begins_while) = (omega arith, refl)

-- the depth after a run
pub run_depth : {ws : List Placed} {s to : State} → Goes s ws to → depth to ≡ open_after (depth s) ws
unfolding open_after
run_depth stays = refl
run_depth (goes {ts = ts} m run) = run_depth run ∙ ap (λ d. open_after d ts) (move_depth m).0

-- tokens that are shallow leave at most 16 open
pub shallow_after : (ws : List Placed) (deep : ℕ) → deep ≤ 16 → shallow deep ws ≡ true → open_after deep ws ≤ 16
unfolding shallow open_after
shallow_after [] deep d is = d
shallow_after (t ∷ ws) deep d is =
    let (now, later) = and_parts (ltb (deeper deep t.lexeme) 17) _ is in
    shallow_after ws (deeper deep t.lexeme) (omega (arith, ltb-true (deeper deep t.lexeme) 17 now)) later

-- the variables after a run and one more token
pub run_variables : {ws : List Placed} {s to : State} (t : Lexeme) (p : ℕ) (vs : List Name) → Goes s ws to → variables_in (after_dot s.stand) vs (ws ++ (at p t ∷ [])) ≡ with_variable (variables_in (after_dot s.stand) vs ws) (after_dot to.stand) (name_in t)
unfolding variables_in
run_variables t p vs stays = refl
run_variables t p vs (goes {t = x} {s = s} m run) = rw (move_depth m).1 at (run_variables t p (with_variable vs (after_dot s.stand) (name_in x)) run)

-- one variable more at most
pub one_variable : (vs : List Name) (dot : Bool) (o : Option Name) → length (with_variable vs dot o) ≤ length vs + 1
one_variable vs dot None = omega arith
one_variable vs true (Some n) = omega arith
one_variable vs false (Some n) = cond_both (among vs n) vs (vs ++ (n ∷ [])) (λ us. length us ≤ length vs + 1) (λ _. omega arith) (λ _. omega (arith, length-append vs (n ∷ [])))

-- and none less
no_fewer : (vs : List Name) (dot : Bool) (o : Option Name) → length vs ≤ length (with_variable vs dot o)
no_fewer vs dot None = omega arith
no_fewer vs true (Some n) = omega arith
no_fewer vs false (Some n) = cond_both (among vs n) vs (vs ++ (n ∷ [])) (λ us. length vs ≤ length us) (λ _. omega arith) (λ _. omega (arith, length-append vs (n ∷ [])))

-- so no variable is lost
pub more_variables : (ts : List Placed) (dot : Bool) (vs : List Name) → length vs ≤ length (variables_in dot vs ts)
unfolding variables_in
more_variables [] dot vs = omega arith
more_variables (t ∷ ts) dot vs = omega (arith, no_fewer vs dot (name_in t.lexeme), more_variables ts (is_the_sign 46 t.lexeme) (with_variable vs dot (name_in t.lexeme)))

-- the limit that a token passes
pub data Limit (t : Lexeme) (deep many : ℕ) : Reason → Type 0 where
  too_deep : opens t ≡ true → 16 ≤ deep → Limit t deep many Deep
  too_many : 17 ≤ many → Limit t deep many Many

-- a token is within the limits, or passes one
abbrev pub Passing : Lexeme → ℕ → ℕ → Option Reason → Type 0
Passing t deep many (Some reason) = Limit t deep many reason
Passing t deep many None = (deeper deep t ≤ 16) × (many ≤ 16)

-- what `passes` finds
pub passing : (t : Lexeme) (deep many : ℕ) → deep ≤ 16 → Passing t deep many (passes t deep many)
unfolding passes
passing t deep many d =
    cond_both (opens t && leb 16 deep) _ _ (Passing t deep many)
    (λ is. let (o, far) = and_parts (opens t) (leb 16 deep) is in too_deep o (leb-true 16 deep far))
    (λ low. cond_both (leb 17 many) _ _ (Passing t deep many) (λ is. too_many (leb-true 17 many is)) (λ few. (grind (arith, nat_tests), grind (arith, nat_tests))))

-- a token within the limits passes none
pub passes_none : (t : Lexeme) (deep many : ℕ) → deeper deep t ≤ 16 → many ≤ 16 → passes t deep many ≡ None
unfolding passes
passes_none t deep many d l = grind (arith, nat_tests)
