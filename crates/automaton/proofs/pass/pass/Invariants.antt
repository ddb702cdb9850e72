use Rattle.std.proofs.Common.{◌≡◌, ◌≤◌, length, drop}
use Rattle.bounded.specs.Rows.{entries_of}
use Rattle.automaton.specs.Passes.{run}
use Rattle.automaton.specs.States.{pass_of}
use Rattle.automaton.specs.Tells.{begun}
use Rattle.automaton.proofs.pass.pass.Given as goal

abbrev pub invariant-loop-operation : goal.invariant-loop-operation
invariant-loop-operation l =
    (length (entries_of l.operands) ≤ l.operation-index)
    × (run (drop l.operation-index l.operations) (pass_of l.operands l.state) ≡ run l.operations (begun l.from l.initial.state.follow))
