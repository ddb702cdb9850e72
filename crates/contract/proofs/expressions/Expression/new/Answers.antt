use Rattle.std.proofs.Common.{ap, ◌∙◌}
use Rattle.expression.specs.Held.{read_tree}
use Rattle.contract.specs.Opened.{new_terms, read_start_opens}
use Rattle.contract.proofs.expressions.Expression.new.Goals as goal

pub invariant_of-result : goal.invariant_of-result
invariant_of-result c = record { opens = read_start_opens c.new.result c.read_start.result.mask c.read_start.ensures }

pub returns : goal.returns
returns c = new_terms c.new.result c.read_start.result.mask c.read_start.ensures (ap read_tree c.new.ensures ∙ c.empty.ensures.reads)
