-- What entries mean over a store that means m.
use Rattle.std.specs.Prelude.{◌≡◌, ℕ, Bool, true, false, cond, List, take, slice_index_or, refl}
use Rattle.store.specs.Cells.{graph_over}
use Rattle.store.specs.Inside.{inside_graph_over}
use Rattle.store.specs.Meaning.{Meaning, Lawful, inside}
use Rattle.store.specs.declared.cell.Cell.{Cell}
use Rattle.store.specs.declared.value.Value.{Value}
use Rattle.store.specs.declared.value.Value.TheVariants.{Nothing}

-- a reference past the objects reads as nothing; no entry comes to hold one
abbrev pub checked : ℕ → Value → Value
checked n v = cond (inside n v) v Nothing

-- what is read from an entry among n objects
abbrev pub read_in : ℕ → Cell → Value
read_in n e = checked n e.value

-- a property has the value that is read from its entry, or the one beneath
abbrev pub over : Meaning → List Cell → ℕ → ℕ → Meaning
over m entries used left = record { objects = m.objects; graph = graph_over (read_in m.objects) m.graph (take used entries); left = left }

-- what a new overlay means
abbrev pub fresh_over : Meaning → Meaning
fresh_over m = record { objects = m.objects; graph = m.graph; left = 64 }

-- what is read is inside
checked_inside : (n : ℕ) (v : Value) (b : Bool) → inside n v ≡ b → inside n (cond b v Nothing) ≡ true
checked_inside n v true e = e
checked_inside n v false e = refl

pub over_lawful : (m : Meaning) (entries : List Cell) (used left : ℕ) → Lawful m → Lawful (over m entries used left)
over_lawful m entries used left l =
    record {
      some = l.some;
      few = l.few;
      closed = inside_graph_over m.objects (read_in m.objects) m.graph entries used l.closed (λ k e _ _. checked_inside m.objects (slice_index_or entries k e).value _ refl);
    }
