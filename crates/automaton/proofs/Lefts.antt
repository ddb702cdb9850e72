-- What a set of positions leaves.
use Rattle.std.proofs.Common.{◌≡◌, ℕ, ◌<◌, Bool, true, ◌&&◌, ◌⊎◌, [], ◌∷◌, ◌++◌, is_some, Some, None, Decides, Option, sym, refl, ap, ◌∙◌}
use mathlib.Core.Logic.Iff
use Rattle.lexer.specs.Names.{Path}
use Rattle.std.proofs.lemmas.Bool.{false≢true}
use Rattle.std.proofs.lemmas.Bool.Decides.{Decides-and, Decides-or}
use Rattle.expression.specs.Expressions.{Expr}
use Rattle.expression.specs.Languages.{derivative, remaining}
use Rattle.automaton.specs.Positions.{rest, some, left_by, beginning}
use Rattle.automaton.proofs.Sums.{some_below}

-- a path is left after a marked position, or from the marked start
abbrev pub Leaves : (Option Expr → Path → Bool) → Expr → ℕ → (ℕ → Bool) → Bool → Path → Type 0
Leaves tells e i marked start q =
    ((x : ℕ) × (x < 62) × ((marked x ≡ true) × (tells (rest e i x) q ≡ true))) ⊎ ((start ≡ true) × (tells (Some e) q ≡ true))

pub left_decides : (tells : Option Expr → Path → Bool) (e : Expr) (i : ℕ) (marked : ℕ → Bool) (start : Bool) (q : Path)
    → Decides (left_by tells e i marked start q) (Leaves tells e i marked start q)
left_decides tells e i marked start q =
    Decides-or (some 62 (λ x. marked x && tells (rest e i x) q)) _
    (some_below _ _ (λ x. Decides-and (marked x) (tells (rest e i x) q) Iff.rfl Iff.rfl) 62)
    (Decides-and start (tells (Some e) q) Iff.rfl Iff.rfl)

-- nothing remains of nothing
pub nothing_remains : (q : Path) → remaining None q ≡ None
unfolding remaining
nothing_remains [] = refl
nothing_remains (p ∷ q) = refl

-- the beginning of a beginning is one
pub front_begins : (x : Option Expr) (p q : Path) → beginning x (p ++ q) ≡ true → beginning x p ≡ true
unfolding remaining
front_begins None [] q h = absurd (false≢true (sym (ap is_some (nothing_remains q)) ∙ h))
front_begins (Some e) [] q h = refl
front_begins None (n ∷ p) q h = h
front_begins (Some e) (n ∷ p) q h = front_begins (derivative n e) p q h
