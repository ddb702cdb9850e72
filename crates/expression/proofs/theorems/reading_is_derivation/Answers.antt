use Rattle.expression.proofs.Derivations.{reading_is_derivation}
use Rattle.expression.proofs.theorems.reading_is_derivation.Goals as goal

pub returns : goal.returns
returns c = reading_is_derivation
