-- The bits of masks.
use Rattle.std.proofs.Common.{◌≡◌, ℕ, zero, suc, ◌+◌, ◌-◌, ◌*◌, ◌/◌, ◌%◌, ◌^◌, ◌<◌, ◌≤◌, true, false, not, ◌&&◌, ◌||◌, eqb, ltb, Decides, true≢false, sym, refl, ap, ◌∙◌, inl, inr, mod-lt, pow-suc, mul-div_cancel, arith}
use native.Mathlib.Nat.{zero-div, div-eq_of_lt, div_self, div-eq_of_lt-le, mul-mod_left}
use lib.Bits.{bit_and, bit_or, or_shr, and_shr, or_mod, and_mod, and_mask, or_shifted}
use Rattle.std.proofs.lemmas.Nat.{pow_below, pow_pos, pow-add, one_shl, and_le_l}
use Rattle.std.proofs.lemmas.Bool.{eq-eqb, eqb-false, ne_eqb, not-true, not_from_false, cases_order, cases_lt}
use Rattle.std.proofs.lemmas.Bool.Decides.{nat_tests, same_from_decides}
use mathlib.Core.Logic.Iff
use Rattle.automaton.specs.Bits.{bit}
use Rattle.automaton.specs.Positions.{some}
use Rattle.automaton.proofs.Sums.{some_below}

-- what holds of 0 and of 1 holds of the last digit
digits : (P : ℕ → Type 0) → P 0 → P 1 → (n : ℕ) → P (n % 2)
digits P p q n = go (n % 2) (mod-lt n (omega arith))
  where
    go : (d : ℕ) → d < 2 → P d
    go zero h = p
    go (suc zero) h = q
    go (suc (suc d)) h = absurd (omega arith)

-- the test that the code makes
pub bit_test : (m x : ℕ) → eqb (bit_and (m / 2 ^ x) 1) 1 ≡ bit m x
unfolding bit
bit_test m x = ap (λ n. eqb n 1) (and_mask (m / 2 ^ x) 1)

digit_or : (a b : ℕ) → eqb (bit_or (a % 2) (b % 2)) 1 ≡ (eqb (a % 2) 1 || eqb (b % 2) 1)
digit_or a b =
    digits (λ d. eqb (bit_or d (b % 2)) 1 ≡ (eqb d 1 || eqb (b % 2) 1)) refl
    (digits (λ e. eqb (bit_or 1 e) 1 ≡ (eqb 1 1 || eqb e 1)) refl refl b) a

digit_and : (a b : ℕ) → eqb (bit_and (a % 2) (b % 2)) 1 ≡ (eqb (a % 2) 1 && eqb (b % 2) 1)
digit_and a b =
    digits (λ d. eqb (bit_and d (b % 2)) 1 ≡ (eqb d 1 && eqb (b % 2) 1)) refl
    (digits (λ e. eqb (bit_and 1 e) 1 ≡ (eqb 1 1 && eqb e 1)) refl refl b) a

pub bit_of_or : (a b x : ℕ) → bit (bit_or a b) x ≡ (bit a x || bit b x)
unfolding bit
bit_of_or a b x =
    ap (λ n. eqb (n % 2) 1) (or_shr a b x) ∙ ap (λ n. eqb n 1) (or_mod (a / 2 ^ x) (b / 2 ^ x) 1)
    ∙ digit_or (a / 2 ^ x) (b / 2 ^ x)

pub bit_of_and : (a b x : ℕ) → bit (bit_and a b) x ≡ (bit a x && bit b x)
unfolding bit
bit_of_and a b x =
    ap (λ n. eqb (n % 2) 1) (and_shr a b x) ∙ ap (λ n. eqb n 1) (and_mod (a / 2 ^ x) (b / 2 ^ x) 1)
    ∙ digit_and (a / 2 ^ x) (b / 2 ^ x)

pub bit_of_zero : (x : ℕ) → bit 0 x ≡ false
unfolding bit
bit_of_zero x = ap (λ n. eqb (n % 2) 1) (zero-div (2 ^ x))

pub bit_of_one : (k x : ℕ) → bit (2 ^ k) x ≡ eqb x k
unfolding bit
bit_of_one k x =
    elim (cases_order x k) [
      | inl e ↦ same e
      | inr h ↦ elim h [ inl l ↦ lower l | inr g ↦ higher g ]
    ]
  where
    same : x ≡ k → eqb (2 ^ k / 2 ^ x % 2) 1 ≡ eqb x k
    same e =
        ap (λ n. eqb (2 ^ k / 2 ^ n % 2) 1) e ∙ ap (λ n. eqb (n % 2) 1) (div_self (pow_pos k)) ∙ sym (eq-eqb x k e)

    lower : x < k → eqb (2 ^ k / 2 ^ x % 2) 1 ≡ eqb x k
    lower l =
        let d : ℕ = k - x - 1 in
        let more : k ≡ suc d + x = omega arith in
        ap (λ n. eqb (2 ^ n / 2 ^ x % 2) 1) more
        ∙ ap (λ n. eqb (n / 2 ^ x % 2) 1) (pow-add 2 (suc d) x)
        ∙ ap (λ n. eqb (n % 2) 1) (mul-div_cancel (2 ^ suc d) (pow_pos x))
        ∙ ap (λ n. eqb (n % 2) 1) (pow-suc 2 d)
        ∙ ap (λ n. eqb n 1) (mul-mod_left (2 ^ d) 2)
        ∙ sym (ne_eqb x k (λ e. omega arith))

    higher : k < x → eqb (2 ^ k / 2 ^ x % 2) 1 ≡ eqb x k
    higher g =
        ap (λ n. eqb (n % 2) 1) (div-eq_of_lt (pow_below k x g))
        ∙ sym (ne_eqb x k (λ e. omega arith))

-- the mask of one number, as the code makes it
pub bit_of_shift : (n x : ℕ) → n < 64 → bit (1 * 2 ^ n % 2 ^ 64) x ≡ eqb x n
bit_of_shift n x low = ap (λ m. bit m x) (one_shl n 64 low) ∙ bit_of_one n x

-- the numbers below n
bit_below : (n x : ℕ) → bit (2 ^ n - 1) x ≡ ltb x n
bit_below zero x = bit_of_zero x ∙ grind (arith, nat_tests)
bit_below (suc n) x =
    let one = pow_pos n in
    let more : 2 ^ suc n - 1 ≡ 1 * 2 ^ n + (2 ^ n - 1) = omega (arith, pow-suc 2 n) in
    let once : 1 * 2 ^ n ≡ 2 ^ n = omega arith in
    let split = bit_of_or (1 * 2 ^ n) (2 ^ n - 1) x in
    let this = ap (λ m. bit m x) once ∙ bit_of_one n x in
    let rest = bit_below n x in
    ap (λ m. bit m x) (more ∙ sym (or_shifted 1 n (2 ^ n - 1) (omega arith))) ∙ grind (arith, nat_tests)

-- their mask, as the code makes it
pub bit_below_shift : (n x : ℕ) → n < 64 → bit (1 * 2 ^ n % 2 ^ 64 - 1) x ≡ ltb x n
bit_below_shift n x low = ap (λ m. bit (m - 1) x) (one_shl n 64 low) ∙ bit_below n x

-- a number that is not 0 has a bit
some_bit : (n m : ℕ) → m < 2 ^ n → (m ≡ 0 → ⊥) → (x : ℕ) × (x < n) × (bit m x ≡ true)
unfolding bit
some_bit zero m l h = absurd (h (omega arith))
some_bit (suc n) m l h =
    elim (cases_lt m (2 ^ n)) [
      | inl k ↦ let r = some_bit n m k h in (r.0, omega arith, r.2)
      | inr k ↦
          let twice : m < (1 + 1) * 2 ^ n = omega (arith, pow-suc 2 n) in
          let once : 1 * 2 ^ n ≤ m = omega arith in
          let one : m / 2 ^ n ≡ 1 = div-eq_of_lt-le {k = 1} (2 ^ n) once twice in
          (n, omega arith, ap (λ d. eqb (d % 2) 1) one)
    ]

-- the common numbers are none just when the mask of them is 0
common_bits : (a b : ℕ) → bit_and a b < 2 ^ 64
    → Decides (not (eqb (bit_and a b) 0)) ((x : ℕ) × (x < 64) × ((bit a x && bit b x) ≡ true))
common_bits a b low = (
  λ h.
      let r = some_bit 64 (bit_and a b) low (eqb-false (bit_and a b) 0 (not-true (eqb (bit_and a b) 0) h)) in
      (r.0, r.1, sym (bit_of_and a b r.0) ∙ r.2),
  λ (x, l, h). not_from_false (eqb (bit_and a b) 0)
      (ne_eqb (bit_and a b) 0 (λ e. true≢false (sym (bit_of_and a b x ∙ h) ∙ ap (λ m. bit m x) e ∙ bit_of_zero x))),
)

pub meets_some : (a b : ℕ) → a < 2 ^ 64 → not (eqb (bit_and a b) 0) ≡ some 64 (λ x. bit a x && bit b x)
meets_some a b l =
    let low : bit_and a b < 2 ^ 64 = omega (arith, and_le_l a b) in
    same_from_decides _ (some 64 (λ x. bit a x && bit b x)) (common_bits a b low)
    (some_below (λ x. bit a x && bit b x) (λ x. (bit a x && bit b x) ≡ true) (λ x. Iff.rfl) 64)
