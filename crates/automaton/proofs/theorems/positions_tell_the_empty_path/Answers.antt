use Rattle.automaton.proofs.Rests.{positions_tell_the_empty_path}
use Rattle.automaton.proofs.theorems.positions_tell_the_empty_path.Goals as goal

pub returns : goal.returns
returns c = positions_tell_the_empty_path
