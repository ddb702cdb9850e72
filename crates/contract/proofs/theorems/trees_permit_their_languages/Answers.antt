use Rattle.expression.proofs.Languages.{derivatives_decide, derivatives_decide_beginnings}
use Rattle.contract.proofs.theorems.trees_permit_their_languages.Goals as goal

pub returns : goal.returns
returns c = λ e d p. record { reads = derivatives_decide_beginnings e p; writes = derivatives_decide d p }
