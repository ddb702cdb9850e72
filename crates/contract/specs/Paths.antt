-- The path that names of the code spell.
use Rattle.std.specs.Prelude.{List, [], ◌∷◌}
use Rattle.lexer.specs.Names.{Path}
use Rattle.lexer.specs.Spelled.{spelled}
use Rattle.lexer.specs.declared.name.Name.{Name}

abbrev pub path_of : List Name → Path
path_of [] = []
path_of (n ∷ ns) = spelled n ∷ path_of ns
