-- A walk along a path, name by name.
use Rattle.std.proofs.Common.{◌≡◌, ℕ, ◌+◌, ◌<◌, List, [], ◌∷◌, ◌++◌, length, get_or, drop, sym, refl, ap, ◌∙◌}
use Rattle.lexer.specs.Names.{Path}
use Rattle.lexer.specs.Spelled.{spelled}
use Rattle.lexer.specs.declared.name.Name.{Name}
use Rattle.std.proofs.lemmas.List.{at_drop_more}
use Rattle.contract.specs.Paths.{path_of}
use Rattle.contract.specs.Terms.{Terms, after, along}

-- one step of the walk
pub along_more : (s t : Terms) (path : List Name) (i : ℕ) (item : Name) (b : List ℕ) → i < length path → item ≡ get_or path i item → b ≡ spelled item → t ≡ after b s → along (path_of (drop (i + 1) path)) t ≡ along (path_of (drop i path)) s
along_more s t path i item b within here bytes stepped =
    let rest : Path = path_of (drop (i + 1) path) in
    let more : path_of (drop i path) ≡ spelled (get_or path i item) ∷ rest = at_drop_more path_of path i item within in
    ap (along rest) stepped ∙ ap (λ p. along p s) (ap (λ a. a ∷ rest) (bytes ∙ ap spelled here) ∙ sym more)

-- what is left after a path has the paths that it begins
pub along_reads : (p q : Path) (t : Terms) → (along p t).reads q ≡ t.reads (p ++ q)
along_reads [] q t = refl
along_reads (n ∷ p) q t = along_reads p q (after n t)

pub along_writes : (p q : Path) (t : Terms) → (along p t).writes q ≡ t.writes (p ++ q)
along_writes [] q t = refl
along_writes (n ∷ p) q t = along_writes p q (after n t)
