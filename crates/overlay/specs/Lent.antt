-- What the changes end as where one entry is lent to be changed.
use Rattle.std.proofs.Common.{◌∙◌, length-set}
use Rattle.std.specs.Borrow.{Lends, Fml, RattleType, MutBor}
use Rattle.std.specs.Prelude.{ℕ, slice_set}
use Rattle.overlay.specs.contracts.changes.Changes.{the_row}
use Rattle.overlay.specs.declared.changes.Changes.{Changes}
use Rattle.store.specs.contracts.cell.Cell.{the_row as cell}
use Rattle.store.specs.declared.cell.Cell.{Cell}

abbrev pub with_entry : {S : Type 0} → Changes S → ℕ → Cell → Changes S
with_entry t i w = record { below = t.below; entries = slice_set t.entries i w; used = t.used; within = t.within; full = length-set t.entries i w ∙ t.full }

-- once the borrow r ends, entry i is the last one written through r
module _ (S : RattleType) (changes : MutBor (the_row S).Denot) where
  abbrev pub LendsEntry : ℕ → MutBor Cell → Fml
  LendsEntry i r = Lends (the_row S) cell changes r (with_entry changes.now i)
