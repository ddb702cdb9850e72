use Rattle.contract.proofs.Dotted.{wrong_texts_are_first_wrong}
use Rattle.contract.proofs.theorems.wrong_texts_are_first_wrong.Goals as goal

pub returns : goal.returns
returns c = wrong_texts_are_first_wrong
