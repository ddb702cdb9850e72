use Rattle.automaton.proofs.Laws.{residues_are_lawful}
use Rattle.automaton.proofs.theorems.residues_are_lawful.Goals as goal

pub returns : goal.returns
returns c = residues_are_lawful
