-- What the place and the value of the last record that passes say of the other records.
use Rattle.std.proofs.Common.{◌≡◌, ℕ, zero, suc, ◌<◌, Bool, true, false, cond, List, [], ◌∷◌, ◌++◌, length, get_or, set, Some, None, Option, sym, refl, ap, ◌∙◌, arith}
use Rattle.store.specs.Records.{next_place, last_place, latest, Absent, Found}

impossible : {X : Type 0} → ◌≡◌ {A = ℕ} 0 1 → X
impossible e = let no_way : ⊥ = omega arith in absurd no_way

-- what `next_place` came from
next_zero : (o : Option ℕ) (b : Bool) → next_place o b ≡ Some 0 → (o ≡ None) × (b ≡ true)
next_zero (Some i) b e = impossible (cc)
next_zero None true e = (refl, refl)
next_zero None false e = impossible (cc)

next_suc : (o : Option ℕ) (b : Bool) (i : ℕ) → next_place o b ≡ Some (suc i) → o ≡ Some i
next_suc (Some j) b i e = ap Some (cc)
next_suc None true i e = impossible (cc)
next_suc None false i e = impossible (cc)

next_none : (o : Option ℕ) (b : Bool) → next_place o b ≡ None → (o ≡ None) × (b ≡ false)
next_none (Some j) b e = impossible (cc)
next_none None true e = impossible (cc)
next_none None false e = (refl, refl)

module _ {R : Type 0} (p : R → Bool) where
  pub place_within : (xs : List R) (i : ℕ) → last_place p xs ≡ Some i → i < length xs
  place_within [] i e = impossible (cc)
  place_within (x ∷ xs) zero e = omega arith
  place_within (x ∷ xs) (suc i) e = let h = place_within xs i (next_suc (last_place p xs) (p x) i e) in omega arith

  pub place_passes : (xs : List R) (i : ℕ) (d : R) → last_place p xs ≡ Some i → p (get_or xs i d) ≡ true
  place_passes [] i d e = impossible (cc)
  place_passes (x ∷ xs) zero d e = (next_zero (last_place p xs) (p x) e).1
  place_passes (x ∷ xs) (suc i) d e = place_passes xs i d (next_suc (last_place p xs) (p x) i e)

  pub none_passes : (xs : List R) → last_place p xs ≡ None → Absent p xs
  none_passes [] e k d h = absurd (omega arith)
  none_passes (x ∷ xs) e zero d h = (next_none (last_place p xs) (p x) e).1
  none_passes (x ∷ xs) e (suc k) d h = none_passes xs (next_none (last_place p xs) (p x) e).0 k d (omega arith)

  pub past_fails : (xs : List R) (i : ℕ) → last_place p xs ≡ Some i → (k : ℕ) (d : R) → i < k → k < length xs → p (get_or xs k d) ≡ false
  past_fails [] i e k d l h = absurd (omega arith)
  past_fails (x ∷ xs) i e zero d l h = absurd (omega arith)
  past_fails (x ∷ xs) zero e (suc k) d l h = none_passes xs (next_zero (last_place p xs) (p x) e).0 k d (omega arith)
  past_fails (x ∷ xs) (suc i) e (suc k) d l h = past_fails xs i (next_suc (last_place p xs) (p x) i e) k d (omega arith) (omega arith)

  -- from places to the search
  pub place_none_from : (xs : List R) → Absent p xs → last_place p xs ≡ None
  place_none_from [] h = refl
  place_none_from (x ∷ xs) h =
      ap (λ o. next_place o (p x)) (place_none_from xs (λ k d l. h (suc k) d (omega arith))) ∙ ap (next_place None) (h 0 x (omega arith))

  pub place_from : (xs : List R) (i : ℕ) → i < length xs → ((d : R) → p (get_or xs i d) ≡ true) → ((k : ℕ) (d : R) → i < k → k < length xs → p (get_or xs k d) ≡ false) → last_place p xs ≡ Some i
  place_from [] i l here past = absurd (omega arith)
  place_from (x ∷ xs) zero l here past =
      ap (λ o. next_place o (p x)) (place_none_from xs (λ k d h. past (suc k) d (omega arith) (omega arith))) ∙ ap (next_place None) (here x)
  place_from (x ∷ xs) (suc i) l here past =
      ap (λ o. next_place o (p x)) (place_from xs i (omega arith) here (λ k d h m. past (suc k) d (omega arith) (omega arith)))

  pub last_place-found : (xs : List R) (r : Option ℕ) → Found p xs r → r ≡ last_place p xs
  last_place-found xs None h = sym (place_none_from xs h)
  last_place-found xs (Some i) h = sym (place_from xs i h.within h.passes h.later)

module _ {R V : Type 0} (value : R → V) (p : R → Bool) where
  latest_append : (xs ys : List R) (d : V) → latest value p (xs ++ ys) d ≡ latest value p ys (latest value p xs d)
  latest_append [] ys d = refl
  latest_append (x ∷ xs) ys d = latest_append xs ys (cond (p x) (value x) d)

  pub latest_push : (xs : List R) (x : R) (d : V) → latest value p (xs ++ x ∷ []) d ≡ cond (p x) (value x) (latest value p xs d)
  latest_push xs x d = latest_append xs (x ∷ []) d

  pub latest_none : (xs : List R) (d : V) → last_place p xs ≡ None → latest value p xs d ≡ d
  latest_none [] d e = refl
  latest_none (x ∷ xs) d e =
      let n = next_none (last_place p xs) (p x) e in latest_none xs (cond (p x) (value x) d) n.0 ∙ ap (λ b. cond b (value x) d) n.1

  pub latest_place : (xs : List R) (i : ℕ) (r : R) (d : V) → last_place p xs ≡ Some i → latest value p xs d ≡ value (get_or xs i r)
  latest_place [] i r d e = impossible (cc)
  latest_place (x ∷ xs) zero r d e =
      let n = next_zero (last_place p xs) (p x) e in latest_none xs (cond (p x) (value x) d) n.0 ∙ ap (λ b. cond b (value x) d) n.1
  latest_place (x ∷ xs) (suc i) r d e = latest_place xs i r (cond (p x) (value x) d) (next_suc (last_place p xs) (p x) i e)

  -- a record that fails, before and after, may be changed
  pub latest_set_other : (xs : List R) (i : ℕ) (y : R) (d : V) → ((r : R) → i < length xs → p (get_or xs i r) ≡ false) → p y ≡ false → latest value p (set xs i y) d ≡ latest value p xs d
  latest_set_other [] i y d was is = refl
  latest_set_other (x ∷ xs) zero y d was is =
      ap (λ b. latest value p xs (cond b (value y) d)) is ∙ sym (ap (λ b. latest value p xs (cond b (value x) d)) (was x (omega arith)))
  latest_set_other (x ∷ xs) (suc i) y d was is = latest_set_other xs i y (cond (p x) (value x) d) (λ r h. was r (omega arith)) is
