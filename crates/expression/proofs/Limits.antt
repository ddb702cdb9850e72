-- The limits that a token passes, and the depth of a run.
use Rattle.std.proofs.Common.{◌≡◌, ℕ, ◌+◌, ◌≤◌, true, ◌&&◌, eqb, ltb, leb, List, [], ◌∷◌, length, Some, None, Option, refl, ap, ◌∙◌, arith}
use Rattle.std.proofs.lemmas.Bool.{cond_both, and_parts, leb-true, ltb-true}
use Rattle.std.proofs.lemmas.Bool.Decides.{nat_tests}
use Rattle.lexer.specs.Tokens.{Lexeme, name, number, sign, equals, end, bad}
use Rattle.lexer.specs.declared.refusal.Reason.{Reason}
use Rattle.lexer.specs.declared.refusal.Reason.TheVariants.{Deep, Many}
use Rattle.expression.specs.Reading.{State, weight, opens, passes}
use Rattle.expression.specs.Derivations.{deeper, open_after, shallow}
use Rattle.expression.proofs.Moves.{Move, name_comes, any_comes, bracket_opens, nothing_closes, bracket_closes, star_comes, dot_comes, bar_comes, Goes, stays, goes}

-- a move opens and closes the brackets that its token does
pub move_depth : {t : Lexeme} {s to : State} → Move t s to → length to.outer ≡ deeper (length s.outer) t
move_depth (name_comes w) = refl
move_depth (any_comes w) = refl
move_depth (bracket_opens w) = omega arith
move_depth nothing_closes = omega arith
move_depth (bracket_closes h) = omega arith
move_depth star_comes = refl
move_depth (dot_comes h) = refl
move_depth (bar_comes h) = refl

-- so does a run
pub run_depth : {ws : List Lexeme} {s to : State} → Goes s ws to → length to.outer ≡ open_after (length s.outer) ws
unfolding open_after
run_depth stays = refl
run_depth (goes {ts = ts} m run) = run_depth run ∙ ap (λ d. open_after d ts) (move_depth m)

-- tokens that are shallow leave at most 16 brackets open
pub shallow_after : (ws : List Lexeme) (depth : ℕ) → depth ≤ 16 → shallow depth ws ≡ true → open_after depth ws ≤ 16
unfolding shallow open_after
shallow_after [] depth d is = d
shallow_after (t ∷ ws) depth d is =
    let (now, later) = and_parts (ltb (deeper depth t) 17) _ is in
    shallow_after ws (deeper depth t) (omega (arith, ltb-true (deeper depth t) 17 now)) later

-- the limit that a token passes
pub data Limit (t : Lexeme) (depth letters : ℕ) : Reason → Type 0 where
  deep : opens t ≡ true → 16 ≤ depth → Limit t depth letters Deep
  many : weight t ≡ 1 → 62 ≤ letters → Limit t depth letters Many

-- a token is within the limits, or passes one
abbrev pub Passing : Lexeme → ℕ → ℕ → Option Reason → Type 0
Passing t depth letters (Some reason) = Limit t depth letters reason
Passing t depth letters None = (deeper depth t ≤ 16) × (letters + weight t ≤ 62)

-- no token counts more than one letter
light : (t : Lexeme) → weight t ≤ 1
light (name n) = omega arith
light (number n) = omega arith
light (sign b) = cond_both (eqb b 63) 1 0 (λ w. w ≤ 1) (λ _. omega arith) (λ _. omega arith)
light equals = omega arith
light end = omega arith
light bad = omega arith

-- what `passes` finds
pub passing : (t : Lexeme) (depth letters : ℕ) → depth ≤ 16 → letters ≤ 62 → Passing t depth letters (passes t depth letters)
unfolding passes
passing t depth letters d l =
    cond_both (opens t && leb 16 depth) _ _ (Passing t depth letters)
    (λ is. let (o, far) = and_parts (opens t) (leb 16 depth) is in deep o (leb-true 16 depth far))
    (λ low. cond_both (leb 1 (weight t) && leb 62 letters) _ _ (Passing t depth letters)
    (λ is. let (one, far) = and_parts (leb 1 (weight t)) (leb 62 letters) is in
    many (omega (arith, light t, leb-true 1 (weight t) one)) (leb-true 62 letters far))
    (λ few. let w = light t in (grind (arith, nat_tests), grind (arith, nat_tests))))

-- a token within the limits passes none
pub passes_none : (t : Lexeme) (depth letters : ℕ) → deeper depth t ≤ 16 → letters + weight t ≤ 62 → passes t depth letters ≡ None
unfolding passes
passes_none t depth letters d l = grind (arith, nat_tests)
