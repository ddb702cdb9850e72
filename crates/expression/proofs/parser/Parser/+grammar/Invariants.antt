use Rattle.std.proofs.Common.{◌≡◌, ◌+◌, ◌*◌}
use Rattle.lexer.specs.Readers.{unread}
use Rattle.bounded.specs.Rows.{entries_of}
use Rattle.expression.specs.Tables.{letters_of}
use Rattle.expression.proofs.Chains.{Going, items, sequences}
use Rattle.expression.proofs.parser.Parser.+grammar.Given as goal

abbrev pub decreases-alternative : goal.decreases-alternative
decreases-alternative l = 5 * unread l.self.now.reader + 5

abbrev pub decreases-base : goal.decreases-base
decreases-base l = 5 * unread l.self.now.reader + 2

abbrev pub decreases-bracket : goal.decreases-bracket
decreases-bracket l = 5 * unread l.self.now.reader + 1

abbrev pub decreases-item : goal.decreases-item
decreases-item l = 5 * unread l.self.now.reader + 3

abbrev pub decreases-sequence : goal.decreases-sequence
decreases-sequence l = 5 * unread l.self.now.reader + 4

abbrev pub invariant-alternative-loop-self : goal.invariant-alternative-loop-self
invariant-alternative-loop-self l =
    (l.self.depth ≡ l.initial.self.depth)
    × Going sequences l.initial.self.depth l.initial.self.reader l.self.reader (entries_of l.initial.self.operations) (entries_of l.self.operations) (letters_of l.initial.self.letters) (letters_of l.self.letters)

abbrev pub decreases-alternative-loop-self : goal.decreases-alternative-loop-self
decreases-alternative-loop-self l = unread l.self.reader

abbrev pub invariant-sequence-loop-self : goal.invariant-sequence-loop-self
invariant-sequence-loop-self l =
    (l.self.depth ≡ l.initial.self.depth)
    × Going items l.initial.self.depth l.initial.self.reader l.self.reader (entries_of l.initial.self.operations) (entries_of l.self.operations) (letters_of l.initial.self.letters) (letters_of l.self.letters)

abbrev pub decreases-sequence-loop-self : goal.decreases-sequence-loop-self
decreases-sequence-loop-self l = unread l.self.reader
