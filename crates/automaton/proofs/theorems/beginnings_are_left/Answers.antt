use Rattle.automaton.proofs.Laws.{beginnings_are_left}
use Rattle.automaton.proofs.theorems.beginnings_are_left.Goals as goal

pub returns : goal.returns
returns c = beginnings_are_left
