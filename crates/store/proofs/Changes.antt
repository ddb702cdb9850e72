-- What a new record, and a change of one in its place, do to the latest value of each property.
use Rattle.std.proofs.Common.{◌≡◌, ℕ, cond, List, [], ◌∷◌, ◌++◌, get_or, set, Some, sym, ap, ◌∙◌, inl, inr, arith}
use Rattle.std.proofs.lemmas.List.{length-set, get_or-set_same, get_or-set_other}
use Rattle.std.proofs.lemmas.Bool.{cases_Bool}
use Rattle.lexer.specs.Names.{Name}
use Rattle.store.specs.Records.{same, fits, last_place, latest}
use Rattle.store.proofs.Latest.{place_within, place_passes, past_fails, place_from, latest_push, latest_place, latest_set_other}
use Rattle.store.proofs.Properties.{same_object, same_name}

module _ {R : Type 0} (owner : R → ℕ) (called : R → Name) where
  -- a test of a record of the property (o, n) is a test of that
  pub fits_as : (r : R) (o : ℕ) (n : Name) (p : ℕ) (q : Name) → owner r ≡ o → called r ≡ n → fits owner called p q r ≡ same o n p q
  fits_as r o n p q e f = ap (λ a. same a (called r) p q) e ∙ ap (λ a. same o a p q) f

  -- one property under two names
  pub place_at : (xs : List R) (o : ℕ) (n : Name) (p : ℕ) (q : Name) → o ≡ p → n ≡ q → last_place (fits owner called o n) xs ≡ last_place (fits owner called p q) xs
  place_at xs o n p q e f = ap (λ a. last_place (fits owner called a n) xs) e ∙ ap (λ a. last_place (fits owner called p a) xs) f

  -- the latest value of each property (p, q), where the record of one property (o, m) is added or changed
  module _ {V : Type 0} (value : R → V) (o : ℕ) (m : Name) (p : ℕ) (q : Name) where
    -- the latest value of (p, q)
    abbrev now_at : List R → V → V
    now_at xs d = latest value (fits owner called p q) xs d

    pub latest_pushed : (xs : List R) (y : R) (d : V) → owner y ≡ o → called y ≡ m → now_at (xs ++ y ∷ []) d ≡ cond (same o m p q) (value y) (now_at xs d)
    latest_pushed xs y d e f =
        latest_push value (fits owner called p q) xs y d ∙ ap (λ b. cond b (value y) (now_at xs d)) (fits_as y o m p q e f)

    pub latest_changed : (xs : List R) (i : ℕ) (y : R) (d : V) → last_place (fits owner called o m) xs ≡ Some i → owner y ≡ o → called y ≡ m → now_at (set xs i y) d ≡ cond (same o m p q) (value y) (now_at xs d)
    latest_changed xs i y d at e f =
        let within = place_within (fits owner called o m) xs i at in
        elim (cases_Bool (same o m p q)) [
          | inl t ↦
              let at' = sym (place_at xs o m p q (same_object o p m q t) (same_name o p m q t)) ∙ at in
              let here = fits_as y o m p q e f ∙ t in
              let placed =
              place_from (fits owner called p q) (set xs i y) i (simp length-set within)
              (λ r. ap (fits owner called p q) (get_or-set_same xs i y r within) ∙ here)
              (λ k r l h. ap (fits owner called p q) (get_or-set_other xs i k y r (omega arith)) ∙ past_fails (fits owner called p q) xs i at' k r l (simp length-set at h)) in
              latest_place value (fits owner called p q) (set xs i y) i y d placed
              ∙ ap value (get_or-set_same xs i y y within)
              ∙ sym (ap (λ b. cond b (value y) (now_at xs d)) t)
          | inr g ↦
              latest_set_other value (fits owner called p q) xs i y d
              (λ r _. let x = get_or xs i r in let passes = place_passes (fits owner called o m) xs i r at in fits_as x o m p q (same_object (owner x) o (called x) m passes) (same_name (owner x) o (called x) m passes) ∙ g)
              (fits_as y o m p q e f ∙ g)
              ∙ sym (ap (λ b. cond b (value y) (now_at xs d)) g)
        ]
