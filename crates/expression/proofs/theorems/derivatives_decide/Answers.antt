use Rattle.expression.proofs.Languages.{derivatives_decide}
use Rattle.expression.proofs.theorems.derivatives_decide.Goals as goal

pub returns : goal.returns
returns c = derivatives_decide
