-- The law of paths as texts: a text is read as a path exactly if it is that path's names, each lawful, with dots between
-- them; and the place of a wrong text is that of the first byte that no such text has there.
use Rattle.std.specs.Prelude.{◌≡◌, ℕ, ◌+◌, ◌<◌, ◌≤◌, true, ◌↔◌, List, [], ◌∷◌, ◌++◌, length, take, ◌≢◌}
use Rattle.lexer.specs.Names.{Path, all_lawful}
use Rattle.contract.specs.PathTexts.{path, wrong, read_path}

-- the names with dots between them
unfoldable pub dotted : Path → List ℕ
dotted [] = []
dotted (n ∷ []) = n
dotted (n ∷ (m ∷ p)) = n ++ (46 ∷ dotted (m ∷ p))

abbrev pub TextsAreDottedPaths : Type 0
TextsAreDottedPaths =
    (text : List ℕ) (p : Path) → (read_path text ≡ path p) ↔ ((dotted p ≡ text) × (all_lawful p ≡ true))

-- the bytes begin the text of a path
abbrev pub BeginsAPath : List ℕ → Type 0
BeginsAPath bytes = (p : Path) × (rest : List ℕ) × (all_lawful p ≡ true) × (dotted p ≡ bytes ++ rest)

-- the bytes before the place begin the text of a path; with the byte at the place they begin none, or the text ends there
-- and is no path
pub record FirstWrong (text : List ℕ) (at : ℕ) : Type 0 where
  pub within : at ≤ length text
  pub before : BeginsAPath (take at text)
  pub inside : at < length text → BeginsAPath (take (at + 1) text) → ⊥
  pub whole : (p : Path) → all_lawful p ≡ true → dotted p ≢ text

abbrev pub WrongTextsAreFirstWrong : Type 0
WrongTextsAreFirstWrong = (text : List ℕ) (at : ℕ) → read_path text ≡ wrong at → FirstWrong text at
