use Rattle.std.proofs.Common.{ap, ◌∙◌}
use Rattle.expression.specs.Held.{read_tree, write_tree}
use Rattle.contract.specs.ExpressionTerms.{start_terms, by_trees, renewed}
use Rattle.contract.specs.Opened.{given_terms, starts_open}
use Rattle.contract.proofs.expressions.Expression.read.Goals as goal

pub invariant_of-self : goal.invariant_of-self
invariant_of-self c = record { opens = starts_open c.new.result c.starts.result.mask c.starts.ensures }

pub returns-clause-after : goal.returns-clause-after
returns-clause-after c =
    given_terms c.new.result c.starts.result.mask c.starts.ensures ∙ ap (λ t. by_trees (read_tree t) (write_tree t)) c.new.ensures
    ∙ ap (renewed (start_terms c.args.self.now)) c.in_ok-trees.ensures
