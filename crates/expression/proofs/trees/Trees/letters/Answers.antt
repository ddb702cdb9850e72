use Rattle.std.proofs.Common.{map, ap, ◌∙◌}
use Rattle.expression.specs.Tables.{letter_of}
use Rattle.expression.proofs.Tabled.{letters_are}
use Rattle.expression.proofs.trees.Trees.letters.Goals as goal

pub returns-clause-letters : goal.returns-clause-letters
returns-clause-letters c = ap (map letter_of) c.as_slice.ensures.value ∙ letters_are c.args.self.now
