use Rattle.std.proofs.Common.{◌&&◌, ltb}
use Rattle.expression.specs.Expressions.{fits}
use Rattle.automaton.specs.Bits.{Marks}
use Rattle.automaton.specs.Tells.{letter_at}
use Rattle.automaton.proofs.letters.matching.Given as goal

abbrev pub invariant-loop-i : goal.invariant-loop-i
invariant-loop-i l = Marks l.found.mask (λ x. ltb x l.i && fits (letter_at l.letters x) l.name)
