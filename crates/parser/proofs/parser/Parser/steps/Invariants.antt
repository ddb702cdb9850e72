use Rattle.lexer.specs.Readers.{unread}
use Rattle.parser.proofs.Trails.{Stepping}
use Rattle.parser.proofs.parser.Parser.steps.Given as goal

abbrev pub invariant-loop-self : goal.invariant-loop-self
invariant-loop-self l = Stepping l.initial.self l.self l.count

abbrev pub decreases-loop-self : goal.decreases-loop-self
decreases-loop-self l = unread l.self.reader
