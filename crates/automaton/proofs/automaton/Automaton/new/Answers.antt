use Rattle.std.proofs.Common.{sym, ◌∙◌}
use Rattle.expression.specs.Held.{read_tree, write_tree}
use Rattle.automaton.proofs.Labels.{size_is}
use Rattle.automaton.proofs.Made.{tells, both_links}
use Rattle.automaton.proofs.automaton.Automaton.new.Goals as goal

pub invariant_of-result-clause-write : goal.invariant_of-result-clause-write
invariant_of-result-clause-write c =
    tells (write_tree c.args.trees) _ c.letter_count-from.result _ c.pass-reads.result.follow c.pass-writes.result.facts
    c.operations-2.ensures.operations (c.letter_count-from.ensures ∙ sym (size_is (read_tree c.args.trees))) c.pass-writes.ensures.facts

pub invariant_of-result-clause-links : goal.invariant_of-result-clause-links
invariant_of-result-clause-links c =
    both_links (read_tree c.args.trees) (write_tree c.args.trees) _ _ c.pass-reads.result.follow c.pass-writes.result.follow c.letter_count-from.result
    c.operations.ensures.operations c.operations-2.ensures.operations c.letter_count-from.ensures c.pass-reads.ensures.follow c.pass-writes.ensures.follow
