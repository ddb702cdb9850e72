-- The bytes of a name that the code holds.
use Rattle.std.specs.Prelude.{ℕ, List}
use Rattle.bounded.specs.Rows.{entries_of}
use Rattle.lexer.specs.declared.name.Name.{Name}

abbrev pub spelled : Name → List ℕ
spelled n = entries_of n.bytes
