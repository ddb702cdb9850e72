-- The variables that the code holds, and their numbers.
use Rattle.std.specs.Prelude.{◌≡◌, ℕ, suc, ◌<◌, ◌≤◌, true, false, cond, List, [], ◌∷◌, map, length, Some, None, Option}
use Rattle.std.specs.Str.{bytes_eq}
use Rattle.bounded.specs.Rows.{entries_of}
use Rattle.lexer.specs.Names.{Name}
use Rattle.lexer.specs.Spelled.{spelled}
use Rattle.script.specs.Reading.{among, with_variable}
use Rattle.parser.specs.declared.variables.Variables.{Variables}

-- the names of the variables
abbrev pub variables_of : Variables → List Name
variables_of v = map spelled (entries_of v.names)

-- the number of a variable: how many stand before it
unfoldable pub index_of : List Name → Name → ℕ
index_of [] n = 0
index_of (v ∷ vs) n = cond (bytes_eq v n) 0 (suc (index_of vs n))

-- what a search for a name tells
abbrev pub Sought : List Name → Name → Option ℕ → Type 0
Sought vs n (Some i) = (among vs n ≡ true) × (i ≡ index_of vs n)
Sought vs n None = among vs n ≡ false

-- the number of a name after it was added to the variables; none where it would be the seventeenth, and is not added
abbrev pub Numbered : List Name → Name → List Name → Option ℕ → Type 0
Numbered vs n ws (Some i) = (ws ≡ with_variable vs false (Some n)) × (among ws n ≡ true) × (i ≡ index_of ws n) × (length ws ≤ 16)
Numbered vs n ws None = (16 < length (with_variable vs false (Some n))) × (ws ≡ vs)
