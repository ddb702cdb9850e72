use Rattle.std.proofs.Common.{◌&&◌, arith}
use Rattle.automaton.specs.Bits.{Marks}
use Rattle.automaton.proofs.Residues.{next, matched, reads_step, writes_step}
use Rattle.automaton.proofs.automaton.Automaton.step.Goals as goal

-- the mask that is returned
got : (c : goal.After-bitand)
    → Marks c.bitand.result.mask (λ y. next c.args.self.now c.args.at.mask y && matched c.letters.result.now c.args.name.now y)
got c y = grind arith

pub returns : goal.returns
returns c = record {
  reads = reads_step c.args.self.now c.args.at.mask c.args.name.now c.bitand.result.mask c.letters.result.now c.letters.ensures.letters (got c);
  writes = writes_step c.args.self.now c.args.at.mask c.args.name.now c.bitand.result.mask c.letters.result.now c.letters.ensures.letters (got c);
}
