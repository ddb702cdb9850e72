use Rattle.script.proofs.Derivations.{reading_is_derivation}
use Rattle.script.proofs.theorems.reading_is_derivation.Goals as goal

pub returns : goal.returns
returns c = reading_is_derivation
