-- One step of the position automaton is the left quotient.
use Rattle.std.proofs.Common.{◌≡◌, ℕ, ◌+◌, ◌<◌, ◌≤◌, Bool, true, false, ◌&&◌, ◌⊎◌, [], ◌∷◌, ◌++◌, is_some, Some, Decides, Option, refl, subst, inl, inr, arith}
use mathlib.Core.Logic.Iff
use Rattle.lexer.specs.Names.{Name, Path}
use Rattle.std.proofs.lemmas.Bool.{false≢true}
use Rattle.std.proofs.lemmas.Bool.Decides.{nat_tests, same_from_decides, Decides-like, Decides-and, Decides-or}
use Rattle.expression.specs.Expressions.{Letter, Expr, fits}
use Rattle.expression.specs.Languages.{remaining, ends}
use Rattle.automaton.specs.Positions.{size, first, follow, rest, Labelled, some, left_by, reached, StepsAreQuotients}
use Rattle.expression.proofs.Languages.{Within, ends_in, remaining_in, some_in}
use Rattle.automaton.proofs.Rests.{rest_some, first_some, follow_some}
use Rattle.automaton.proofs.Sums.{some_below}
use Rattle.automaton.proofs.Steps.{first_step, follow_step}

-- the positions of a tree lie below its end
below_end : (e : Expr) (i x : ℕ) → is_some (rest e i x) ≡ true → x < i + size e
below_end e i x h = let k = rest_some e i x in grind (arith, nat_tests)

-- the name p leads to the position y from a marked position, or from the marked start
abbrev From : (ℕ → Letter) → Expr → ℕ → (ℕ → Bool) → Bool → Name → ℕ → Type 0
From f e i marked start p y =
    (fits (f y) p ≡ true)
    × (((x : ℕ) × (x < 62) × ((marked x ≡ true) × (follow e i x y ≡ true))) ⊎ ((start ≡ true) × (first e i y ≡ true)))

-- the positions reached are those
reached_from : (f : ℕ → Letter) (e : Expr) (i : ℕ) (marked : ℕ → Bool) (start : Bool) (p : Name) (y : ℕ)
    → Decides (reached f e i marked start p y) (From f e i marked start p y)
reached_from f e i marked start p y =
    Decides-and (fits (f y) p) _ Iff.rfl
    (Decides-or (some 62 (λ x. marked x && follow e i x y)) _
    (some_below _ _ (λ x. Decides-and (marked x) (follow e i x y) Iff.rfl Iff.rfl) 62) (Decides-and start (first e i y) Iff.rfl Iff.rfl))

-- for any test of what remains that tells whether a path of K is in its language
module _ (test : Option Expr → Bool) (K : Path → Type 0) (told : (x : Option Expr) → Decides (test x) ((v : Path) × K v × Within x v)) where
  -- the path w, then one of K, is in the language
  abbrev More : Option Expr → Path → Type 0
  More x w = (v : Path) × K v × Within x (w ++ v)

  -- the test tells that after the path w
  told_more : (x : Option Expr) (w : Path) → Decides (test (remaining x w)) (More x w)
  told_more x w =
      Iff.trans (told (remaining x w))
      (λ (v, k, h). (v, k, (remaining_in x w v).0 h), λ (v, k, h). (v, k, (remaining_in x w v).1 h))

  module _ (e : Expr) (i : ℕ) where
    -- the paths that the positions of M leave, and the start where it is marked
    abbrev Left : (ℕ → Type 0) → Bool → Path → Type 0
    Left M start w = ((x : ℕ) × (x < 62) × (M x × More (rest e i x) w)) ⊎ ((start ≡ true) × More (Some e) w)

    -- `left_by` tells them
    left_told : (marked : ℕ → Bool) (M : ℕ → Type 0) → ((x : ℕ) → Decides (marked x) (M x)) → (start : Bool) (w : Path)
        → Decides (left_by (λ x v. test (remaining x v)) e i marked start w) (Left M start w)
    left_told marked M each start w =
        Decides-or (some 62 (λ x. marked x && test (remaining (rest e i x) w))) _
        (some_below _ _ (λ x. Decides-and (marked x) _ (each x) (told_more (rest e i x) w)) 62)
        (Decides-and start _ Iff.rfl (told_more (Some e) w))

    module _ (f : ℕ → Letter) (labelled : Labelled f e i) (marked : ℕ → Bool) (start : Bool) (p : Name) (q : Path) where
      -- what is left after a step was left, with the name before it, before the step
      from_step : Left (From f e i marked start p) false q → Left (λ x. marked x ≡ true) start (p ∷ q)
      from_step (inl (y, _, ((h, inl (x, b, (m, s))), (v, k, r)))) =
          inl (x, b, (m, (v, k, (follow_step f p e i labelled x (q ++ v)).1 (y, s, h, r))))
      from_step (inl (y, _, ((h, inr (m, s)), (v, k, r)))) =
          inr (m, (v, k, (first_step f p e i labelled (q ++ v)).1 (y, s, h, r)))
      from_step (inr h) = absurd (false≢true h.0)

      -- and what was left so is left after it
      to_step : i + size e ≤ 62 → Left (λ x. marked x ≡ true) start (p ∷ q) → Left (From f e i marked start p) false q
      to_step n (inl (x, b, (m, (v, k, h)))) =
          let (y, s, t, r) = (follow_step f p e i labelled x (q ++ v)).0 h in
          let l = below_end e i y (follow_some e i x y s) in
          inl (y, omega arith, ((t, inl (x, b, (m, s))), (v, k, r)))
      to_step n (inr (m, (v, k, h))) =
          let (y, s, t, r) = (first_step f p e i labelled (q ++ v)).0 h in
          let l = below_end e i y (first_some e i y s) in
          inl (y, omega arith, ((t, inr (m, s)), (v, k, r)))

      -- one step is the left quotient, as the test tells it
      quotient : i + size e ≤ 62
          → left_by (λ x v. test (remaining x v)) e i (reached f e i marked start p) false q
          ≡ left_by (λ x v. test (remaining x v)) e i marked start (p ∷ q)
      quotient n =
          same_from_decides _ _ (left_told (reached f e i marked start p) _ (reached_from f e i marked start p) false q)
          (Decides-like _ (to_step n) from_step (left_told marked _ (λ x. Iff.rfl) start (p ∷ q)))

-- what remains ends where an empty path is in its language
ends_told : (x : Option Expr) → Decides (ends x) ((v : Path) × (v ≡ []) × Within x v)
ends_told x = Iff.trans (ends_in x) (λ h. ([], refl, h), λ (v, k, h). subst (Within x) k h)

-- it is something where any path is
some_told : (x : Option Expr) → Decides (is_some x) ((v : Path) × Unit {0} × Within x v)
some_told x = Iff.trans (some_in x) (λ (v, h). (v, tt, h), λ (v, k, h). (v, h))

-- one step is the left quotient, of whole paths and of beginnings
pub steps_are_quotients : StepsAreQuotients
steps_are_quotients f e i l n marked start p q =
    record {
      whole = quotient ends (λ v. v ≡ []) ends_told e i f l marked start p q n;
      begun = quotient is_some (λ v. Unit {0}) some_told e i f l marked start p q n;
    }
