-- What a table means.
use Rattle.std.specs.Prelude.{◌≡◌, ℕ, min, max, List, length, take, drop, Option}
use Rattle.lexer.specs.Names.{Name}
use Rattle.store.specs.Cells.{owner, called, value_of, graph_over}
use Rattle.store.specs.Meaning.{Graph, Meaning}
use Rattle.store.specs.Records.{fits, last_place}
use Rattle.store.specs.declared.cell.Cell.{Cell}
use Rattle.store.specs.declared.value.Value.TheVariants.{Nothing}
use Rattle.table.specs.declared.node_table.NodeTable.{NodeTable}

-- the used cells
abbrev pub used_of : NodeTable → List Cell
used_of t = take t.used t.cells.now

-- the graph that is kept in cells
abbrev pub graph_of : List Cell → Graph
graph_of = graph_over value_of (λ o n. Nothing)

abbrev pub means_of : NodeTable → Meaning
means_of t = record { objects = t.objects; graph = graph_of (used_of t); left = t.left }

-- the number of objects of a table that is made for n: 1 for 0, and 1,024 for more
abbrev pub clamped : ℕ → ℕ
clamped n = min (max n 1) 1024

abbrev pub empty : ℕ → ℕ → Meaning
empty objects left = record { objects = objects; graph = λ o n. Nothing; left = left }

-- the place of the cell of a property
abbrev pub place_in : NodeTable → ℕ → Name → Option ℕ
place_in t o n = last_place (fits owner called o n) (used_of t)

-- what every call leaves: the cells are those that were lent, as many as they were, and those past the first 4,096 hold what
-- they held
pub record Spares (s t : NodeTable) : Type 0 where
  pub lender : t.cells.ghost_name ≡ s.cells.ghost_name
  pub size : length t.cells.now ≡ length s.cells.now
  pub past : drop 4096 t.cells.now ≡ drop 4096 s.cells.now
