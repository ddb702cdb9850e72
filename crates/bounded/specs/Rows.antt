-- What a row holds: the entries that fill its places from the first on, and what the other places hold.
use Rattle.std.specs.Prelude.{ℕ, List, take, drop}
use Rattle.bounded.specs.declared.row.Row.{Row}

abbrev pub entries_of : {T : Type 0} {N : ℕ} → Row T N → List T
entries_of r = take r.used r.places

abbrev pub spare_of : {T : Type 0} {N : ℕ} → Row T N → List T
spare_of r = drop r.used r.places
