use Rattle.std.proofs.Common.{◌&&◌}
use Rattle.automaton.specs.Bits.{bit, Marks}
use Rattle.automaton.specs.Positions.{some}
use Rattle.automaton.specs.Tells.{link_of}
use Rattle.automaton.proofs.links.followers.Given as goal

abbrev pub invariant-loop-i : goal.invariant-loop-i
invariant-loop-i l = Marks l.all.mask (λ y. some l.i (λ x. bit l.marked.mask x && link_of l.follow x y))
