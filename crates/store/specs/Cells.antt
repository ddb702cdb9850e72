-- Cells: what each says, and the graph that they keep.
use Rattle.std.specs.Prelude.{ℕ, min, List, take, replicate}
use Rattle.lexer.specs.Names.{Name}
use Rattle.store.specs.Meaning.{Graph}
use Rattle.store.specs.Records.{Apart, fits, latest}
use Rattle.store.specs.declared.value.Value.{Value}
use Rattle.store.specs.declared.value.Value.TheVariants.{Nothing}
use Rattle.store.specs.declared.cell.Cell.{Cell}

abbrev pub owner : Cell → ℕ
owner c = c.object

-- the bytes of the name
abbrev pub called : Cell → Name
called c = take (min c.len 24) c.bytes

abbrev pub value_of : Cell → Value
value_of c = c.value

-- a cell of no property
abbrev pub blank_cell : Cell
blank_cell = record { object = 0; bytes = replicate 24 0; len = 0; value = Nothing }

abbrev pub with_value : Cell → Value → Cell
with_value c v = record { object = c.object; bytes = c.bytes; len = c.len; value = v }

-- no two of the first n cells are of one property
abbrev pub CellsApart : List Cell → ℕ → Type 0
CellsApart cells n = Apart owner called cells n

-- the graph of cells over another: a property has the value that is read from its last cell, or the one beneath
abbrev pub graph_over : (Cell → Value) → Graph → List Cell → Graph
graph_over read below cells o n = latest read (fits owner called o n) cells (below o n)
