-- Names and paths. A name has 1 to 24 bytes, first a letter, then letters or digits; a path is a list of names.
use Rattle.std.specs.Prelude.{ℕ, Bool, true, false, ◌&&◌, List, [], ◌∷◌, length, nat_le}
use Rattle.std.specs.List.{list_all}
use Rattle.lexer.specs.Classes.{classed, letters, letters_or_digits}

abbrev pub Name : Type 0
Name = List ℕ

abbrev pub Path : Type 0
Path = List Name

-- letters or digits
abbrev pub plain : List ℕ → Bool
plain bs = list_all (classed letters_or_digits) bs

abbrev pub lawful : List ℕ → Bool
lawful [] = false
lawful (b ∷ bs) = classed letters b && (plain bs && nat_le (length bs) 23)

abbrev pub all_lawful : Path → Bool
all_lawful [] = true
all_lawful (p ∷ q) = lawful p && all_lawful q
