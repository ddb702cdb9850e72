use Rattle.automaton.proofs.Quotients.{steps_are_quotients}
use Rattle.automaton.proofs.theorems.steps_are_quotients.Goals as goal

pub returns : goal.returns
returns c = steps_are_quotients
