use Rattle.expression.proofs.Derivations.{one_tree}
use Rattle.expression.proofs.theorems.one_tree.Goals as goal

pub returns : goal.returns
returns c = one_tree
