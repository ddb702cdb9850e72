use Rattle.script.proofs.Derivations.{refusals_are_exact}
use Rattle.script.proofs.theorems.refusals_are_exact.Goals as goal

pub returns : goal.returns
returns c = refusals_are_exact
