-- Tests over the numbers below n.
use Rattle.std.proofs.Common.{◌≡◌, ℕ, zero, suc, ◌+◌, ◌<◌, Bool, false, ◌||◌, Decides, refl, ap, add-one, arith}
use mathlib.Core.Bool.{or_comm}
use Rattle.std.proofs.lemmas.Bool.Decides.{Decides-below_or}
use Rattle.automaton.specs.Positions.{some}

-- a number below n passes a test just when one has what the test tells
pub some_below : (g : ℕ → Bool) (P : ℕ → Type 0) → ((x : ℕ) → Decides (g x) (P x)) → (n : ℕ) → Decides (some n g) ((x : ℕ) × (x < n) × P x)
unfolding some
some_below g P each = Decides-below_or g P (λ n. some n g) each refl (λ n. or_comm (some n g) (g n))

-- no number is below 0
pub some_zero : (f : ℕ → Bool) → some 0 f ≡ false
unfolding some
some_zero f = refl

-- one more number
pub some_more : (i : ℕ) (f : ℕ → Bool) → some (i + 1) f ≡ (some i f || f i)
unfolding some
some_more i f = ap (λ n. some n f) (add-one i)

-- tests that agree below n
pub some_same : (n : ℕ) (f g : ℕ → Bool) → ((x : ℕ) → x < n → f x ≡ g x) → some n f ≡ some n g
unfolding some
some_same zero f g h = refl
some_same (suc n) f g h = let l = some_same n f g (λ x k. h x (omega arith)) in let e = h n (omega arith) in cc

-- a test that no number below n passes
pub some_none : (n : ℕ) (f : ℕ → Bool) → ((x : ℕ) → x < n → f x ≡ false) → some n f ≡ false
unfolding some
some_none zero f h = refl
some_none (suc n) f h = let l = some_none n f (λ x k. h x (omega arith)) in let e = h n (omega arith) in grind arith

-- a test that fails at the two starts is one of positions
pub some_positions : (f : ℕ → Bool) → f 62 ≡ false → f 63 ≡ false → some 64 f ≡ some 62 f
some_positions f a b = let c = some_more 62 f in let d = some_more 63 f in grind arith
