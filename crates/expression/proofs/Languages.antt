-- Derivatives tell exactly the language of a path expression, and exactly the beginnings of its paths.
use Rattle.std.proofs.Common.{◌≡◌, Bool, true, false, cond, ◌⊎◌, ◌↔◌, [], ◌∷◌, ◌++◌, is_some, Some, None, Option, refl, ap, ◌∙◌, subst, inl, inr, ⊎_elim, append-nil}
use mathlib.Core.List.{nil≢cons, cons≢nil, head-eq_of_cons-eq, tail-eq_of_cons-eq}
use mathlib.Core.Logic.Iff
use Rattle.lexer.specs.Classes.{class_of}
use Rattle.lexer.specs.Names.{Name, Path}
use Rattle.std.proofs.lemmas.Slice.Eq.{bytes_eq-Decides}
use Rattle.std.proofs.lemmas.Bool.{false≢true, and_parts, and_from, or_cases, or_left, or_right}
use Rattle.expression.specs.Expressions.{Letter, any, named, Expr, empty, letter, alternative, sequence, star, fits}
use Rattle.expression.specs.Languages.{Repeated, none, more, In, nullable, union, before, derivative, remaining, ends, DerivativesDecide, DerivativesDecideBeginnings}

-- the language of what remains, where `None` is the empty one
abbrev pub Within : Option Expr → Path → Type 0
Within None w = ⊥
Within (Some e) w = In e w

-- the path is one of P, then one of Q
abbrev pub Joined : (Path → Type 0) → (Path → Type 0) → Path → Type 0
Joined P Q w = (u : Path) × (v : Path) × (u ++ v ≡ w) × P u × Q v

-- ---- the empty path

-- the two parts of the empty path are empty
empty_parts : (u v : Path) → u ++ v ≡ [] → (u ≡ []) × (v ≡ [])
empty_parts [] v h = (refl, h)
empty_parts (p ∷ u) v h = absurd (cons≢nil h)

-- the empty path is in the language of a nullable expression
pub nullable_in : (e : Expr) → nullable e ≡ true → In e []
nullable_in empty h = refl
nullable_in (letter l) h = absurd (false≢true h)
nullable_in (alternative a b) h = ⊎_elim (λ k. inl (nullable_in a k)) (λ k. inr (nullable_in b k)) (or_cases (nullable a) (nullable b) h)
nullable_in (sequence a b) h = let k = and_parts (nullable a) (nullable b) h in ([], [], refl, nullable_in a k.0, nullable_in b k.1)
nullable_in (star a) h = none

-- and in no other
pub in_nullable : (e : Expr) → In e [] → nullable e ≡ true
in_nullable empty h = refl
in_nullable (letter l) h = absurd (nil≢cons h.1)
in_nullable (alternative a b) (inl h) = or_left (nullable a) (nullable b) (in_nullable a h)
in_nullable (alternative a b) (inr h) = or_right (nullable a) (nullable b) (in_nullable b h)
in_nullable (sequence a b) h =
    let n = empty_parts h.0 h.1 h.2 in
    and_from (nullable a) (nullable b) (in_nullable a (subst (In a) n.0 h.3)) (in_nullable b (subst (In b) n.1 h.4))
in_nullable (star a) h = refl

-- what remains ends where the empty path is in its language
pub ends_in : (x : Option Expr) → (ends x ≡ true) ↔ Within x []
ends_in None = (false≢true, absurd)
ends_in (Some e) = (nullable_in e, in_nullable e)

-- ---- the languages of the operations

-- a path of a union is one of either
pub union_in : (x y : Option Expr) (w : Path) → Within (union x y) w ↔ (Within x w ⊎ Within y w)
union_in None y w = (inr, ⊎_elim absurd (λ h. h))
union_in (Some a) None w = (inl, ⊎_elim (λ h. h) absurd)
union_in (Some a) (Some b) w = Iff.rfl

-- a path of a joining is one of the first, then one of the second
pub before_in : (x : Option Expr) (b : Expr) (w : Path) → Within (before x b) w ↔ Joined (Within x) (In b) w
before_in None b w = (absurd, λ h. h.3)
before_in (Some a) b w = Iff.rfl

-- where a test may leave nothing, the paths are those of the language when the test holds
pub cond_in : (t : Bool) (x : Option Expr) (w : Path) → Within (cond t x None) w ↔ ((t ≡ true) × Within x w)
cond_in true x w = (λ h. (refl, h), λ h. h.1)
cond_in false x w = (absurd, λ h. false≢true h.0)

-- ---- the first name of a path

-- equal paths have equal rests, and their first names stand for each other
same_first : (P : Path → Type 0) {p q : Name} {u v w : Path} → q ∷ v ≡ p ∷ w → P (q ∷ u) → (v ≡ w) × P (p ∷ u)
same_first P {u = u} e h = (tail-eq_of_cons-eq e, subst (λ r. P (r ∷ u)) (head-eq_of_cons-eq e) h)

-- the first name of two parts is in the second, or begins the first
pub joined_next : (P Q : Path → Type 0) (p : Name) (w u v : Path) → u ++ v ≡ p ∷ w → P u → Q v
    → (P [] × Q (p ∷ w)) ⊎ Joined (λ t. P (p ∷ t)) Q w
joined_next P Q p w [] v e h k = inl (h, subst Q e k)
joined_next P Q p w (q ∷ u) v e h k = let r = same_first P e h in inr (u, v, r.0, r.1, k)

-- the first name of repeated parts begins one of them, after empty ones
pub repeated_next : (P : Path → Type 0) (p : Name) (w : Path) {t : Path} → Repeated P t → t ≡ p ∷ w → Joined (λ u. P (p ∷ u)) (Repeated P) w
repeated_next P p w none e = absurd (nil≢cons e)
repeated_next P p w (more [] v j h s) e = repeated_next P p w s (j ∙ e)
repeated_next P p w (more (q ∷ u) v j h s) e = let r = same_first P (j ∙ e) h in (u, v, r.0, r.1, s)

-- a path of the derivative, after the name, is in the language
derivative_in : (p : Name) (e : Expr) (w : Path) → Within (derivative p e) w → In e (p ∷ w)
unfolding derivative
derivative_in p empty w h = absurd h
derivative_in p (letter l) w h = let k = (cond_in (fits l p) (Some empty) w).0 h in (p, ap (λ (t : Path). p ∷ t) k.1, k.0)
derivative_in p (alternative a b) w h =
    ⊎_elim (λ k. inl (derivative_in p a w k)) (λ k. inr (derivative_in p b w k)) ((union_in (derivative p a) (derivative p b) w).0 h)
derivative_in p (sequence a b) w h =
    elim ((union_in (before (derivative p a) b) (cond (nullable a) (derivative p b) None) w).0 h) [
      | inl k ↦ let r = (before_in (derivative p a) b w).0 k in (p ∷ r.0, r.1, ap (λ (t : Path). p ∷ t) r.2, derivative_in p a r.0 r.3, r.4)
      | inr k ↦ let r = (cond_in (nullable a) (derivative p b) w).0 k in ([], p ∷ w, refl, nullable_in a r.0, derivative_in p b w r.1)
    ]
derivative_in p (star a) w h =
    let r = (before_in (derivative p a) (star a) w).0 h in
    more (p ∷ r.0) r.1 (ap (λ (t : Path). p ∷ t) r.2) (derivative_in p a r.0 r.3) r.4

-- and there are no others
in_derivative : (p : Name) (e : Expr) (w : Path) → In e (p ∷ w) → Within (derivative p e) w
unfolding derivative
in_derivative p empty w h = cons≢nil h
in_derivative p (letter l) w h =
    (cond_in (fits l p) (Some empty) w).1 (ap (fits l) (head-eq_of_cons-eq h.1) ∙ h.2, tail-eq_of_cons-eq h.1)
in_derivative p (alternative a b) w (inl h) = (union_in (derivative p a) (derivative p b) w).1 (inl (in_derivative p a w h))
in_derivative p (alternative a b) w (inr h) = (union_in (derivative p a) (derivative p b) w).1 (inr (in_derivative p b w h))
in_derivative p (sequence a b) w h =
    (union_in (before (derivative p a) b) (cond (nullable a) (derivative p b) None) w).1
    (elim (joined_next (In a) (In b) p w h.0 h.1 h.2 h.3 h.4) [
      | inl k ↦ inr ((cond_in (nullable a) (derivative p b) w).1 (in_nullable a k.0, in_derivative p b w k.1))
      | inr k ↦ inl ((before_in (derivative p a) b w).1 (k.0, k.1, k.2, in_derivative p a k.0 k.3, k.4))
    ])
in_derivative p (star a) w h =
    let k = repeated_next (In a) p w h refl in
    (before_in (derivative p a) (star a) w).1 (k.0, k.1, k.2, in_derivative p a k.0 k.3, k.4)

-- ---- what remains after a path

-- the paths of what remains are those that may follow
pub remaining_in : (x : Option Expr) (w v : Path) → Within (remaining x w) v ↔ Within x (w ++ v)
unfolding remaining
remaining_in x [] v = Iff.rfl
remaining_in None (p ∷ w) v = Iff.rfl
remaining_in (Some e) (p ∷ w) v =
    Iff.trans (remaining_in (derivative p e) w v) (derivative_in p e (w ++ v), in_derivative p e (w ++ v))

-- the path is in the language just when what remains after it is nullable
pub derivatives_decide : DerivativesDecide
derivatives_decide e w =
    Iff.trans (ends_in (remaining (Some e) w))
    (subst (λ t. Within (remaining (Some e) w) [] ↔ In e t) (append-nil w) (remaining_in (Some e) w []))

-- ---- beginnings

-- a letter stands for some name
some_name : (l : Letter) → (p : Name) × (fits l p ≡ true)
unfolding fits class_of
some_name any = (97 ∷ [], refl)
some_name (named n) = (n, (bytes_eq-Decides n n).1 refl)

-- an expression stands for some path
some_path : (e : Expr) → (v : Path) × In e v
some_path empty = ([], refl)
some_path (letter l) = let n = some_name l in (n.0 ∷ [], (n.0, refl, n.1))
some_path (alternative a b) = let r = some_path a in (r.0, inl r.1)
some_path (sequence a b) = let r = some_path a in let s = some_path b in (r.0 ++ s.0, (r.0, s.0, refl, r.1, s.1))
some_path (star a) = ([], none)

-- something remains where some path is in the language
pub some_in : (x : Option Expr) → (is_some x ≡ true) ↔ ((v : Path) × Within x v)
some_in None = (λ h. absurd (false≢true h), λ h. absurd h.1)
some_in (Some e) = (λ h. some_path e, λ h. refl)

-- the path begins one of the language just when something remains after it
pub derivatives_decide_beginnings : DerivativesDecideBeginnings
derivatives_decide_beginnings e w =
    Iff.trans (some_in (remaining (Some e) w))
    (λ h. (h.0, (remaining_in (Some e) w h.0).0 h.1), λ h. (h.0, (remaining_in (Some e) w h.0).1 h.1))
