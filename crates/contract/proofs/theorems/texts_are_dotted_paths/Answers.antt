use Rattle.contract.proofs.Dotted.{texts_are_dotted_paths}
use Rattle.contract.proofs.theorems.texts_are_dotted_paths.Goals as goal

pub returns : goal.returns
returns c = texts_are_dotted_paths
