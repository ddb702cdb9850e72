use Rattle.bounded.specs.Rows.{entries_of}
use Rattle.automaton.proofs.Piles.{popped_two}
use Rattle.automaton.proofs.pass.pop_two.Goals as goal

pub returns : goal.returns
returns c =
    popped_two (entries_of c.args.operands.now) (entries_of c.pop.new.self) (entries_of c.pop-2.new.self) _ _
    c.in_ok-right.ensures.last c.in_ok-right.ensures.entries c.in_ok-left.ensures.last c.in_ok-left.ensures.entries
