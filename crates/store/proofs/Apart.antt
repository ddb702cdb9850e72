-- When no two records are of one property, and what keeps them so.
use Rattle.std.proofs.Common.{◌≡◌, ℕ, ◌+◌, ◌<◌, ◌≤◌, true, false, List, length, get_or, take, set, Some, None, sym, ap, ◌∙◌, inl, inr, arith}
use Rattle.std.proofs.lemmas.List.{length-take-le, get_or-take, get_or-set_other, get_or_default}
use Rattle.std.proofs.lemmas.Bool.{both_ways, cases_eq, false_from_ne_true}
use Rattle.std.proofs.lemmas.Grind.{get_or-set_at}
use Rattle.lexer.specs.Names.{Name}
use Rattle.store.specs.Records.{fits, last_place, Apart}
use Rattle.store.proofs.Latest.{place_passes, none_passes}
use Rattle.store.proofs.Properties.{same_from, same_object, same_name}

module _ {R : Type 0} (owner : R → ℕ) (called : R → Name) (xs : List R) (n : ℕ) where
  -- the record that a search finds is of the property
  module _ (o : ℕ) (m : Name) (i : ℕ) (d : R) (within : i < n) (at : last_place (fits owner called o m) (take n xs) ≡ Some i) where
    pub fits-found : fits owner called o m (get_or xs i d) ≡ true
    fits-found = sym (ap (fits owner called o m) (get_or-take n xs i d within)) ∙ place_passes (fits owner called o m) (take n xs) i d at

    pub owner-found : owner (get_or xs i d) ≡ o
    owner-found = let x = get_or xs i d in same_object (owner x) o (called x) m fits-found

    pub called-found : called (get_or xs i d) ≡ m
    called-found = let x = get_or xs i d in same_name (owner x) o (called x) m fits-found

  module _ (apart : Apart owner called xs n) where
    -- where one record is of a property, no other is
    pub alone : (o : ℕ) (q : Name) (j l : ℕ) (d : R) → j < n → l < n → (l ≡ j → ⊥) → fits owner called o q (get_or xs j d) ≡ true → fits owner called o q (get_or xs l d) ≡ false
    alone o q j l d jn ln ne t =
        let x = get_or xs j d in
        let y = get_or xs l d in
        false_from_ne_true (fits owner called o q y)
        (λ s. ne (apart l j d ln jn (same_object (owner y) o (called y) q s ∙ sym (same_object (owner x) o (called x) q t)) (same_name (owner y) o (called y) q s ∙ sym (same_name (owner x) o (called x) q t))))

    -- a record y is written, and of its property is no other of the first m
    apart_set : (m i : ℕ) (y : R) → i < length xs → ((k : ℕ) → k < m → (k ≡ i → ⊥) → k < n) → ((k : ℕ) (d : R) → k < m → (k ≡ i → ⊥) → owner (get_or xs k d) ≡ owner y → called (get_or xs k d) ≡ called y → ⊥) → Apart owner called (set xs i y) m
    apart_set m i y within others none j k d jm km e f =
        let new = set xs i y in
        let here : (a : ℕ) → a ≡ i → get_or new a d ≡ y = λ a h. get_or-set_at xs i a y d h within in
        let there : (a : ℕ) → (a ≡ i → ⊥) → get_or new a d ≡ get_or xs a d = λ a h. get_or-set_other xs i a y d h in
        elim (cases_eq j i) [
          | inl ji ↦
              elim (cases_eq k i) [
                | inl ki ↦ ji ∙ sym ki
                | inr ki ↦ absurd (none k d km ki (sym (ap owner (there k ki)) ∙ sym e ∙ ap owner (here j ji)) (sym (ap called (there k ki)) ∙ sym f ∙ ap called (here j ji)))
              ]
          | inr ji ↦
              elim (cases_eq k i) [
                | inl ki ↦ absurd (none j d jm ji (sym (ap owner (there j ji)) ∙ e ∙ ap owner (here k ki)) (sym (ap called (there j ji)) ∙ f ∙ ap called (here k ki)))
                | inr ki ↦ apart j k d (others j jm ji) (others k km ki) (sym (ap owner (there j ji)) ∙ e ∙ ap owner (there k ki)) (sym (ap called (there j ji)) ∙ f ∙ ap called (there k ki))
              ]
        ]

    -- a record y of a property is written over the one of that property, or past the others
    module _ (o : ℕ) (m : Name) (y : R) (owned : owner y ≡ o) (named : called y ≡ m) where
      pub apart_over : (i : ℕ) → n ≤ length xs → i < n → last_place (fits owner called o m) (take n xs) ≡ Some i → Apart owner called (set xs i y) n
      apart_over i long within at =
          apart_set n i y (omega arith) (λ k h _. h)
          (λ k d h ne e f. ne (apart k i d h within (e ∙ owned ∙ sym (owner-found o m i d within at)) (f ∙ named ∙ sym (called-found o m i d within at))))

      pub apart_past : n < length xs → last_place (fits owner called o m) (take n xs) ≡ None → Apart owner called (set xs n y) (n + 1)
      apart_past room at =
          apart_set (n + 1) n y room (λ k h ne. omega arith)
          (λ k d h ne e f.
          let len = length-take-le n xs (omega arith) in
          let x = get_or xs k d in
          both_ways (fits owner called o m x)
          (sym (ap (fits owner called o m) (get_or-take n xs k d (omega arith))) ∙ none_passes (fits owner called o m) (take n xs) at k d (omega arith))
          (same_from (owner x) o (called x) m (e ∙ owned) (f ∙ named)))

-- the last record goes to the place of another
pub apart_removed : {R : Type 0} (owner : R → ℕ) (called : R → Name) (xs : List R) (n i : ℕ) (z : R) → n < length xs → i < n + 1 → z ≡ get_or xs n z → Apart owner called xs (n + 1) → Apart owner called (set xs i z) n
apart_removed owner called xs n i z long within last apart =
    apart_set owner called xs (n + 1) apart n i z (omega arith) (λ k h _. omega arith)
    (λ k d h ne e f.
    let z_is : z ≡ get_or xs n d = last ∙ get_or_default xs n z d long in
    let same_place : k ≡ n = apart k n d (omega arith) (omega arith) (e ∙ ap owner z_is) (f ∙ ap called z_is) in
    omega arith)
