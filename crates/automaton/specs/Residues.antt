-- Residues. A residue is a mask: each bit below 62 marks a position, the bit 62 marks the start of the read tree, and the
-- bit 63 the start of the write tree.
use Rattle.std.specs.Prelude.{◌≡◌, ℕ, ◌+◌, ◌^◌, Bool, true, false, ◌++◌}
use Rattle.lexer.specs.Names.{Path, all_lawful}
use Rattle.expression.specs.Held.{read_tree, write_tree}
use Rattle.expression.specs.Languages.{begins, accepts}
use Rattle.expression.specs.declared.trees.Trees.{Trees}
use Rattle.automaton.specs.Bits.{bit}
use Rattle.automaton.specs.Positions.{size, left_by, beginning, whole_path}
use Rattle.automaton.specs.declared.automaton.Automaton.{Automaton}

-- the residues that mark both starts, and the start of the read tree alone
abbrev pub starts : ℕ
starts = 2 ^ 62 + 2 ^ 63

abbrev pub read_start : ℕ
read_start = 2 ^ 62

abbrev pub trees_of : Automaton → Trees
trees_of a = a.trees

-- the paths that a residue leaves to be read: beginnings of paths of the read tree
unfoldable pub reads_left : Automaton → ℕ → Path → Bool
reads_left a r q = left_by beginning (read_tree (trees_of a)) 0 (bit r) (bit r 62) q

-- the paths that a residue leaves to be written: whole paths of the write tree
unfoldable pub writes_left : Automaton → ℕ → Path → Bool
writes_left a r q = left_by whole_path (write_tree (trees_of a)) (size (read_tree (trees_of a))) (bit r) (bit r 63) q

-- ---- the laws of residues

-- the beginning of a path that may be read may be read
abbrev pub BeginningsAreLeft : Type 0
BeginningsAreLeft =
    (a : Automaton) (r : ℕ) (p q : Path) → reads_left a r (p ++ q) ≡ true → reads_left a r p ≡ true

-- only lawful names are left
pub record LawfulPaths (a : Automaton) (r : ℕ) (q : Path) : Type 0 where
  pub reads : reads_left a r q ≡ true → all_lawful q ≡ true
  pub writes : writes_left a r q ≡ true → all_lawful q ≡ true

abbrev pub ResiduesAreLawful : Type 0
ResiduesAreLawful = (a : Automaton) (r : ℕ) (q : Path) → LawfulPaths a r q

-- both starts leave all paths of the two trees, and the start of the read tree alone leaves nothing to be written
pub record Start (a : Automaton) (q : Path) : Type 0 where
  pub reads : reads_left a starts q ≡ begins (read_tree (trees_of a)) q
  pub writes : writes_left a starts q ≡ accepts (write_tree (trees_of a)) q
  pub reads_alone : reads_left a read_start q ≡ begins (read_tree (trees_of a)) q
  pub writes_alone : writes_left a read_start q ≡ false

abbrev pub StartsLeaveAll : Type 0
StartsLeaveAll = (a : Automaton) (q : Path) → Start a q
