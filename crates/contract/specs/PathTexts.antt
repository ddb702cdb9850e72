-- A path as a text: names with dots between them; the empty text is the empty path.
use Rattle.std.specs.Prelude.{ℕ, ◌+◌, cond, ◌&&◌, List, [], ◌∷◌, ◌++◌, length, Ok, Err, Result, ◌==◌, nat_lt}
use Rattle.lexer.specs.Classes.{classed, letters, letters_or_digits}
use Rattle.lexer.specs.Names.{Name, Path}
use Rattle.contract.specs.Terms.{Terms}
use Rattle.contract.specs.Permissions.{permission}
use Rattle.contract.specs.declared.path_text.NoPath.{NoPath}
use Rattle.contract.specs.declared.permits.Permission.{Permission}

-- the path, or the place of the first byte that makes the text no path
pub data PathText : Type 0 where
  path : Path → PathText
  wrong : ℕ → PathText

abbrev pub starting : Name → PathText → PathText
starting n (path p) = path (n ∷ p)
starting n (wrong at) = wrong at

-- from a place on, with the bytes of a name before it that is not ended yet
unfoldable pub spell : ℕ → Name → List ℕ → PathText
spell at [] [] = wrong at
spell at (c ∷ cs) [] = path ((c ∷ cs) ∷ [])
spell at [] (b ∷ bs) = cond (classed letters b) (spell (at + 1) (b ∷ []) bs) (wrong at)
spell at (c ∷ cs) (b ∷ bs) =
    cond (b == 46) (starting (c ∷ cs) (spell (at + 1) [] bs))
    (cond (classed letters_or_digits b && nat_lt (length (c ∷ cs)) 24) (spell (at + 1) ((c ∷ cs) ++ (b ∷ [])) bs) (wrong at))

unfoldable pub read_path : List ℕ → PathText
read_path [] = path []
read_path (b ∷ bs) = spell 0 [] (b ∷ bs)

-- what terms permit of a path as a text
abbrev pub permitted : Terms → PathText → Result Permission NoPath
permitted t (path p) = Ok (permission t p)
permitted t (wrong at) = Err (record { place = at })
