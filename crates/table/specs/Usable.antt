-- The cells that a table uses are the first ones, and each holds something.
use Rattle.std.specs.Prelude.{ℕ, min, Bool, true, false, List, length}
use Rattle.store.specs.declared.cell.Cell.{Cell}
use Rattle.store.specs.declared.value.Value.{Value}
use Rattle.store.specs.declared.value.Value.TheVariants.{Nothing, Number, Reference}

-- how many of the cells lent a table uses at most
abbrev pub usable : List Cell → ℕ
usable cells = min (length cells) 4096

-- whether a value is something
abbrev pub holds : Value → Bool
holds Nothing = false
holds (Number i) = true
holds (Reference o) = true
