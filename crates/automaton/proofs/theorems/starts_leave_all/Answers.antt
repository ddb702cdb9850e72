use Rattle.automaton.proofs.Laws.{starts_leave_all}
use Rattle.automaton.proofs.theorems.starts_leave_all.Goals as goal

pub returns : goal.returns
returns c = starts_leave_all
