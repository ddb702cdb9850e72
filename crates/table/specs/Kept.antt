-- What each table means is lawful.
use Rattle.std.specs.Prelude.{refl}
use Rattle.store.specs.Cells.{value_of}
use Rattle.store.specs.Inside.{inside_graph_over}
use Rattle.store.specs.Meaning.{Lawful}
use Rattle.store.specs.declared.value.Value.TheVariants.{Nothing}
use Rattle.table.specs.Tables.{means_of}
use Rattle.table.specs.declared.node_table.NodeTable.{NodeTable}

pub table_lawful : (t : NodeTable) → Lawful (means_of t)
table_lawful t =
    record { some = t.some; few = t.few; closed = inside_graph_over t.objects value_of (λ o n. Nothing) t.cells.now t.used (λ o n. refl) t.closed }
