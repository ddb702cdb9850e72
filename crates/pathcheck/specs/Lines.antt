-- What the program writes before a path.
use Rattle.std.specs.Prelude.{ℕ, Bool, true, false, List, ◌++◌, codes}
use Rattle.contract.specs.NoPaths.{told}
use Rattle.contract.specs.declared.path_text.NoPath.{NoPath}

-- before a path: whether it may be read, and whether it may be written
abbrev pub marks_text : Bool → Bool → List ℕ
marks_text true true = codes "read write "
marks_text true false = codes "read - "
marks_text false true = codes "- write "
marks_text false false = codes "- - "

-- before a line that is no path
abbrev pub wrong_text : NoPath → List ℕ
wrong_text x = told x ++ codes ": "
