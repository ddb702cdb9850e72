use Rattle.expression.proofs.Languages.{derivatives_decide_beginnings}
use Rattle.expression.proofs.theorems.derivatives_decide_beginnings.Goals as goal

pub returns : goal.returns
returns c = derivatives_decide_beginnings
