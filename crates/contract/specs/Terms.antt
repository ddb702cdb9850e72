-- What a residue of a contract permits: a set of readable paths, and a set of writable paths.
use Rattle.std.specs.Prelude.{◌≡◌, Bool, true, false, ◌&&◌, [], ◌∷◌, ◌++◌}
use Rattle.lexer.specs.Names.{Name, Path, lawful, all_lawful}

pub record Terms : Type 0 where
  pub reads : Path → Bool
  pub writes : Path → Bool

-- what is left after a name, the left quotient: a path is in a set exactly when the name followed by it was
abbrev pub after : Name → Terms → Terms
after p t = record { reads = λ q. t.reads (p ∷ q); writes = λ q. t.writes (p ∷ q) }

-- what is left after a path
abbrev pub along : Path → Terms → Terms
along [] t = t
along (p ∷ q) t = along q (after p t)

-- what both permit
abbrev pub meet : Terms → Terms → Terms
meet s t = record { reads = λ q. s.reads q && t.reads q; writes = λ q. s.writes q && t.writes q }

-- every beginning of a readable path is readable, and only lists of lawful names are in the sets
pub record Orderly (t : Terms) : Type 0 where
  pub beginnings : (p q : Path) → t.reads (p ++ q) ≡ true → t.reads p ≡ true
  pub readable_lawful : (p : Path) → t.reads p ≡ true → all_lawful p ≡ true
  pub writable_lawful : (p : Path) → t.writes p ≡ true → all_lawful p ≡ true

-- where nothing is permitted
abbrev pub nothing : Terms
nothing = record { reads = λ q. false; writes = λ q. false }

-- what every contract shows at a residue with terms t, where s are the terms at its start
pub record Laws (s t : Terms) : Type 0 where
  pub orderly : Orderly t
  pub opened : s.reads [] ≡ true
  -- bytes that are no name step to where nothing is permitted
  pub unlawful : (p : Name) → lawful p ≡ false → after p t ≡ nothing
