-- The store beneath an overlay, and what the overlay means where that means m.
use Rattle.store.specs.Meaning.{Meaning}
use Rattle.overlay.specs.Over.{over}
use Rattle.overlay.specs.declared.overlay.Overlay.{Overlay}

abbrev pub beneath : {S : Type 0} → Overlay S → S
beneath t = t.changes.below

abbrev pub means_over : {S : Type 0} → Meaning → Overlay S → Meaning
means_over m t = over m t.changes.entries t.changes.used t.left
