use Rattle.std.proofs.Common.{◌≡◌, ℕ, ◌&&◌, ◌||◌, ltb, length}
use Rattle.automaton.specs.Bits.{bit}
use Rattle.automaton.specs.Tells.{link_of}
use Rattle.automaton.proofs.links.link.Given as goal

abbrev pub invariant-loop-i : goal.invariant-loop-i
invariant-loop-i l =
    (length l.follow ≡ 62)
    × ((x y : ℕ) → link_of l.follow x y ≡ (link_of l.initial.follow x y || (ltb x l.i && (bit l.from.mask x && bit l.to.mask y))))
