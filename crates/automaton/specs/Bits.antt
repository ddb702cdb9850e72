-- A mask is a set of numbers: those of its bits that are set.
use Rattle.std.specs.Prelude.{◌≡◌, ℕ, ◌/◌, ◌%◌, ◌^◌, Bool, ◌==◌}

-- the bit x of m is set
unfoldable pub bit : ℕ → ℕ → Bool
bit m x = m / 2 ^ x % 2 == 1

-- the numbers in the mask are those that pass
abbrev pub Marks : ℕ → (ℕ → Bool) → Type 0
Marks m f = (x : ℕ) → bit m x ≡ f x
