use Rattle.std.proofs.Common.{arith}
use Rattle.automaton.proofs.Residues.{reads_empty}
use Rattle.automaton.proofs.automaton.Automaton.readable.Goals as goal

pub returns-then-meets : goal.returns-then-meets
returns-then-meets c =
    let e = reads_empty c.args.self.now c.args.at.mask c.letter_count.result c.below.result.mask c.letter_count.ensures c.below.ensures in
    grind arith

pub returns-else-meets : goal.returns-else-meets
returns-else-meets c =
    let e = reads_empty c.args.self.now c.args.at.mask c.letter_count.result c.below.result.mask c.letter_count.ensures c.below.ensures in
    grind arith
