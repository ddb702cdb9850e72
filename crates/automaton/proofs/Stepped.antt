-- One step of a residue, by the masks.
use Rattle.std.proofs.Common.{◌≡◌, ℕ, ◌+◌, ◌<◌, ◌≤◌, Bool, true, false, ◌&&◌, ◌||◌, ◌∷◌, is_some, Some, None, Option, refl, ap, ◌∙◌, arith}
use mathlib.Core.Bool.{and_comm}
use Rattle.lexer.specs.Names.{Name, Path}
use Rattle.expression.specs.Expressions.{Letter, Expr, fits}
use Rattle.expression.specs.Languages.{ends}
use Rattle.automaton.specs.Positions.{size, first, follow, rest, Labelled, some, left_by, beginning, whole_path, reached}
use Rattle.automaton.proofs.Lefts.{nothing_remains}
use Rattle.automaton.proofs.Rests.{first_some, follow_some}
use Rattle.automaton.proofs.Quotients.{steps_are_quotients}
use Rattle.automaton.proofs.Sums.{some_same}

-- what is no position of the tree comes neither first nor after another
pub not_first : (e : Expr) (i y : ℕ) → is_some (rest e i y) ≡ false → first e i y ≡ false
not_first e i y h = grind (arith, first_some e i y)

pub not_follow : (e : Expr) (i x y : ℕ) → is_some (rest e i y) ≡ false → follow e i x y ≡ false
not_follow e i x y h = grind (arith, follow_some e i x y)

module _ (e : Expr) (i : ℕ) (f : ℕ → Letter) (marked : ℕ → Bool) (start : Bool) (p : Name) where
  -- masks that tell which positions follow and come first tell which are reached
  pub reached_by : (y : ℕ) (links : ℕ → Bool) (starts fit : Bool) → ((x : ℕ) → x < 62 → links x ≡ follow e i x y)
      → starts ≡ (start && first e i y) → fit ≡ fits (f y) p
      → ((some 62 (λ x. marked x && links x) || starts) && fit) ≡ reached f e i marked start p y
  reached_by y links starts fit linked started fitted =
      let a = some_same 62 (λ x. marked x && links x) (λ x. marked x && follow e i x y) (λ x l. ap (λ b. marked x && b) (linked x l)) in
      and_comm (some 62 (λ x. marked x && links x) || starts) fit ∙ (λ k. fitted k && (a k || started k))

  -- positions that are marked now just when they are reached
  module _ (now : ℕ → Bool) (agrees : (y : ℕ) → is_some (rest e i y) ≡ true → now y ≡ reached f e i marked start p y) where
    -- sets that agree on the positions of the tree leave the same
    same_left : (told : Option Expr → Path → Bool) → ((q : Path) → told None q ≡ false) → (q : Path)
        → left_by told e i now false q ≡ left_by told e i (reached f e i marked start p) false q
    same_left told none q =
        ap (λ b. b || false) (some_same 62 (λ y. now y && told (rest e i y) q) (λ y. reached f e i marked start p y && told (rest e i y) q)
        (λ y l. here y (rest e i y) refl))
      where
        here : (y : ℕ) (x : Option Expr) → rest e i y ≡ x → (now y && told x q) ≡ (reached f e i marked start p y && told x q)
        here y None h = let n = none q in grind arith
        here y (Some s) h = ap (λ b. b && told (Some s) q) (agrees y (ap is_some h))

    pub whole_step : Labelled f e i → i + size e ≤ 62 → (q : Path) → left_by whole_path e i now false q ≡ left_by whole_path e i marked start (p ∷ q)
    whole_step labelled room q =
        same_left whole_path (λ w. ap ends (nothing_remains w)) q ∙ (steps_are_quotients f e i labelled room marked start p q).whole

    pub begun_step : Labelled f e i → i + size e ≤ 62 → (q : Path) → left_by beginning e i now false q ≡ left_by beginning e i marked start (p ∷ q)
    begun_step labelled room q =
        same_left beginning (λ w. ap is_some (nothing_remains w)) q ∙ (steps_are_quotients f e i labelled room marked start p q).begun
