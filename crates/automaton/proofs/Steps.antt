-- The first name of a path leads to a position that can come first, and the next one to a position that can follow.
use Rattle.std.proofs.Common.{◌≡◌, ℕ, ◌+◌, Bool, true, ◌&&◌, ◌||◌, eqb, ◌⊎◌, ◌↔◌, [], ◌∷◌, is_some, Some, Option, sym, refl, ap, ◌∙◌, subst, inl, inr, ⊎_elim, arith}
use mathlib.Core.List.{cons≢nil, head-eq_of_cons-eq, tail-eq_of_cons-eq}
use mathlib.Core.Logic.Iff
use mathlib.Core.Logic.{⊎_map}
use Rattle.lexer.specs.Names.{Name, Path}
use Rattle.std.proofs.lemmas.Bool.{false≢true, and_parts, and_from, or_cases, or_left, or_right, eqb-true, eq-eqb}
use Rattle.expression.specs.Expressions.{Letter, Expr, empty, letter, alternative, sequence, star, fits}
use Rattle.expression.specs.Languages.{Repeated, more, In, nullable, union, before}
use Rattle.automaton.specs.Positions.{size, first, last, follow, rest, Labelled}
use Rattle.expression.proofs.Languages.{Within, Joined, nullable_in, in_nullable, ends_in, union_in, before_in, cond_in, joined_next, repeated_next, some_in}
use Rattle.automaton.proofs.Rests.{before_some, rest_ends, apart, first_some, follow_some}

-- ---- sums, and the first name of joined paths

-- sums of equivalent parts are equivalent
sums : {A B C D : Type 0} → A ↔ C → B ↔ D → (A ⊎ B) ↔ (C ⊎ D)
sums h k = (⊎_map h.0 k.0, ⊎_map h.1 k.1)

-- the middle of three parts moved to the end
middle_last : {A B C : Type 0} → ((A ⊎ B) ⊎ C) ↔ (A ⊎ (C ⊎ B))
middle_last =
    (⊎_elim (⊎_map (λ a. a) inr) (λ c. inr (inl c)), ⊎_elim (λ a. inl (inl a)) (⊎_elim inr (λ b. inl (inr b))))

-- the first name of two parts begins the first, or the first is empty and it begins the second
joined_first : (P Q : Path → Type 0) (p : Name) (w : Path)
    → Joined P Q (p ∷ w) ↔ (Joined (λ u. P (p ∷ u)) Q w ⊎ (P [] × Q (p ∷ w)))
joined_first P Q p w = (
  λ (u, v, e, h, k). ⊎_elim inr inl (joined_next P Q p w u v e h k),
  ⊎_elim (λ (u, v, e, h, k). (p ∷ u, v, ap (λ (t : Path). p ∷ t) e, h, k)) (λ (h, k). ([], p ∷ w, refl, h, k)),
)

-- the first name of repeated parts begins one of them
repeated_first : (P : Path → Type 0) (p : Name) (w : Path) → Repeated P (p ∷ w) ↔ Joined (λ u. P (p ∷ u)) (Repeated P) w
repeated_first P p w =
    (λ h. repeated_next P p w h refl, λ (u, v, e, h, k). more (p ∷ u) v (ap (λ (t : Path). p ∷ t) e) h k)

-- where the second part of a union is nothing, its paths are those of the first
union_left : (x y : Option Expr) (w : Path) → (is_some y ≡ true → ⊥) → Within x w ↔ Within (union x y) w
union_left x y w n =
    (λ h. (union_in x y w).1 (inl h), λ h. ⊎_elim (λ k. k) (λ k. absurd (n ((some_in y).1 (w, k)))) ((union_in x y w).0 h))

-- where the first part is nothing, they are those of the second
union_right : (x y : Option Expr) (w : Path) → (is_some x ≡ true → ⊥) → Within y w ↔ Within (union x y) w
union_right x y w n =
    (λ h. (union_in x y w).1 (inr h), λ h. ⊎_elim (λ k. absurd (n ((some_in x).1 (w, k)))) (λ k. k) ((union_in x y w).0 h))

-- the empty path may come after just the last positions
last_in : (e : Expr) (i x : ℕ) → (last e i x ≡ true) ↔ Within (rest e i x) []
last_in e i x = subst (λ t. (t ≡ true) ↔ Within (rest e i x) []) (rest_ends e i x) (ends_in (rest e i x))

-- ---- steps to a position

module _ (f : ℕ → Letter) (p : Name) where
  -- the name p leads to a position of S, after which the path is one of X there
  abbrev pub Step : (ℕ → Bool) → (ℕ → Option Expr) → Path → Type 0
  Step S X w = (y : ℕ) × (S y ≡ true) × (fits (f y) p ≡ true) × Within (X y) w

  -- a step made only if a test holds
  step_and : (t : Bool) (S : ℕ → Bool) (X : ℕ → Option Expr) (w : Path) → ((t ≡ true) × Step S X w) ↔ Step (λ y. t && S y) X w
  step_and t S X w = (
    λ (h, s). (s.0, and_from t (S s.0) h s.1, s.2, s.3),
    λ (y, h, k, r). let a = and_parts t (S y) h in (a.0, (y, a.1, k, r)),
  )

  -- a step to one of two sets of positions is one to their union, where the same may come after each position
  step_or : (S T : ℕ → Bool) (X Y Z : ℕ → Option Expr) (w : Path)
      → ((y : ℕ) → S y ≡ true → Within (X y) w ↔ Within (Z y) w) → ((y : ℕ) → T y ≡ true → Within (Y y) w ↔ Within (Z y) w)
      → (Step S X w ⊎ Step T Y w) ↔ Step (λ y. S y || T y) Z w
  step_or S T X Y Z w l r = (
    ⊎_elim (λ (y, h, k, x). (y, or_left (S y) (T y) h, k, (l y h).0 x)) (λ (y, h, k, x). (y, or_right (S y) (T y) h, k, (r y h).0 x)),
    λ (y, h, k, x). ⊎_elim (λ m. inl (y, m, k, (l y m).1 x)) (λ m. inr (y, m, k, (r y m).1 x)) (or_cases (S y) (T y) h),
  )

  -- a step into one of the two parts of a tree is one into the tree
  step_parts : (a b : Expr) (i : ℕ) (S T : ℕ → Bool) (X : ℕ → Option Expr) (w : Path)
      → ((y : ℕ) → S y ≡ true → is_some (rest a i y) ≡ true) → ((y : ℕ) → T y ≡ true → is_some (rest b (i + size a) y) ≡ true)
      → ((y : ℕ) → is_some (X y) ≡ is_some (rest a i y))
      → (Step S X w ⊎ Step T (rest b (i + size a)) w) ↔ Step (λ y. S y || T y) (λ y. union (X y) (rest b (i + size a) y)) w
  step_parts a b i S T X w l r same =
      let Y = rest b (i + size a) in
      step_or S T X Y (λ y. union (X y) (Y y)) w
      (λ y h. union_left (X y) (Y y) w (apart a b i y (l y h)))
      (λ y h. union_right (X y) (Y y) w (λ k. apart a b i y (sym (same y) ∙ k) (r y h)))

  -- a step with a path of b after what it leaves
  step_before : (P : Path → Type 0) (b : Expr) (S : ℕ → Bool) (X : ℕ → Option Expr) (w : Path) → ((u : Path) → P u ↔ Step S X u)
      → Joined P (In b) w ↔ Step S (λ y. before (X y) b) w
  step_before P b S X w each = (
    λ (u, v, e, h, k). let s = (each u).0 h in (s.0, s.1, s.2, (before_in (X s.0) b w).1 (u, v, e, s.3, k)),
    λ (y, h, k, r). let j = (before_in (X y) b w).0 r in (j.0, j.1, j.2, (each j.0).1 (y, h, k, j.3), j.4),
  )

  -- a step into the first of two parts, or, where the first is empty, into the second
  step_joined : (P : Path → Type 0) (b : Expr) (t : Bool) (S T : ℕ → Bool) (X Y : ℕ → Option Expr) (w : Path)
      → ((u : Path) → P (p ∷ u) ↔ Step S X u) → (t ≡ true) ↔ P [] → In b (p ∷ w) ↔ Step T Y w
      → Joined P (In b) (p ∷ w) ↔ (Step S (λ y. before (X y) b) w ⊎ Step (λ y. t && T y) Y w)
  step_joined P b t S T X Y w each void next =
      Iff.trans (joined_first P (In b) p w)
      (sums (step_before (λ u. P (p ∷ u)) b S X w each)
      (Iff.trans (λ (h, k). (void.1 h, next.0 k), λ (h, k). (void.0 h, next.1 k)) (step_and t T Y w)))

  -- the first name of a path leads to a position that can come first
  pub first_step : (e : Expr) (i : ℕ) → Labelled f e i → (w : Path) → In e (p ∷ w) ↔ Step (first e i) (rest e i) w
  unfolding first rest
  first_step empty i l w = (λ h. absurd (cons≢nil h), λ s. absurd (false≢true s.1))
  first_step (letter n) i l w = (
    λ (q, e, h). let t = eq-eqb i i refl in let k : fits (f i) p ≡ true = cc (head-eq_of_cons-eq e) in
        (i, t, k, (cond_in (eqb i i) (Some empty) w).1 (t, tail-eq_of_cons-eq e)),
    λ (y, t, h, k). let e = eqb-true y i t in
        (p, ap (λ (v : Path). p ∷ v) ((cond_in (eqb y i) (Some empty) w).0 k).1, cc),
  )
  first_step (alternative a b) i l w =
      let j = i + size a in
      Iff.trans (sums (first_step a i l.0 w) (first_step b j l.1 w))
      (step_parts a b i (first a i) (first b j) (rest a i) w (first_some a i) (first_some b j) (λ y. refl))
  first_step (sequence a b) i l w =
      let j = i + size a in
      let split = step_joined (In a) b (nullable a) (first a i) (first b j) (rest a i) (rest b j) w
      (first_step a i l.0) (nullable_in a, in_nullable a) (first_step b j l.1 w) in
      let whole = step_parts a b i (first a i) (λ y. nullable a && first b j y) (λ y. before (rest a i y) b) w
      (first_some a i) (λ y h. grind (arith, first_some b j y)) (λ y. before_some (rest a i y) b) in
      Iff.trans split whole
  first_step (star a) i l w =
      Iff.trans (repeated_first (In a) p w) (step_before (λ u. In a (p ∷ u)) (star a) (first a i) (rest a i) w (first_step a i l))

  -- the next name of a path leads to a position that can follow
  pub follow_step : (e : Expr) (i : ℕ) → Labelled f e i → (x : ℕ) (w : Path)
      → Within (rest e i x) (p ∷ w) ↔ Step (follow e i x) (rest e i) w
  unfolding first follow rest
  follow_step empty i l x w = (absurd, λ s. absurd (false≢true s.1))
  follow_step (letter n) i l x w =
      (λ h. absurd (cons≢nil ((cond_in (eqb x i) (Some empty) (p ∷ w)).0 h).1), λ s. absurd (false≢true s.1))
  follow_step (alternative a b) i l x w =
      let j = i + size a in
      Iff.trans (union_in (rest a i x) (rest b j x) (p ∷ w))
      (Iff.trans (sums (follow_step a i l.0 x w) (follow_step b j l.1 x w))
      (step_parts a b i (follow a i x) (follow b j x) (rest a i) w (follow_some a i x) (follow_some b j x) (λ y. refl)))
  follow_step (sequence a b) i l x w =
      let j = i + size a in
      let T : ℕ → Bool = λ y. last a i x && first b j y in
      let split = step_joined (Within (rest a i x)) b (last a i x) (follow a i x) (first b j) (rest a i) (rest b j) w
      (follow_step a i l.0 x) (last_in a i x) (first_step b j l.1 w) in
      let second = step_or (follow b j x) T (rest b j) (rest b j) (rest b j) w (λ y h. Iff.rfl) (λ y h. Iff.rfl) in
      let whole = step_parts a b i (follow a i x) (λ y. follow b j x y || T y) (λ y. before (rest a i y) b) w
      (follow_some a i x) (λ y h. grind (arith, follow_some b j x y, first_some b j y)) (λ y. before_some (rest a i y) b) in
      Iff.trans (union_in (before (rest a i x) b) (rest b j x) (p ∷ w))
      (Iff.trans (sums (Iff.trans (before_in (rest a i x) b (p ∷ w)) split) (follow_step b j l.1 x w))
      (Iff.trans middle_last (Iff.trans (sums Iff.rfl second) whole)))
  follow_step (star a) i l x w =
      let X : ℕ → Option Expr = λ y. before (rest a i y) (star a) in
      let split = step_joined (Within (rest a i x)) (star a) (last a i x) (follow a i x) (first a i) (rest a i) X w
      (follow_step a i l x) (last_in a i x) (first_step (star a) i l w) in
      Iff.trans (before_in (rest a i x) (star a) (p ∷ w))
      (Iff.trans split (step_or (follow a i x) (λ y. last a i x && first a i y) X X X w (λ y h. Iff.rfl) (λ y h. Iff.rfl)))
