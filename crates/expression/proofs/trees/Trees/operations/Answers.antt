use Rattle.std.proofs.Common.{ap, ◌∙◌}
use Rattle.bounded.specs.Rows.{entries_of}
use Rattle.expression.proofs.Tabled.{operations_are}
use Rattle.expression.proofs.trees.Trees.operations.Goals as goal

pub returns-clause-operations : goal.returns-clause-operations
returns-clause-operations c = c.as_slice.ensures.value ∙ ap (λ tree. entries_of tree.operations) c.tree.ensures ∙ operations_are c.args.self.now c.args.text
