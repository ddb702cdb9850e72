use Rattle.script.proofs.Derivations.{one_tree}
use Rattle.script.proofs.theorems.one_tree.Goals as goal

pub returns : goal.returns
returns c = one_tree
