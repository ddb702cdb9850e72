use Rattle.std.proofs.Common.{ap, ◌∙◌}
use Rattle.expression.proofs.Tabled.{letter_counts_are}
use Rattle.expression.proofs.trees.Trees.letter_count.Goals as goal

pub returns : goal.returns
returns c = ap (λ tree. tree.letters) c.tree.ensures ∙ letter_counts_are c.args.self.now c.args.text
