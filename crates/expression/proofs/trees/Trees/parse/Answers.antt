use Rattle.std.proofs.Common.{sym, ◌∙◌}
use Rattle.std.proofs.lemmas.List.{length-map}
use Rattle.std.proofs.lemmas.Result.{err_from_is_err_and}
use Rattle.expression.specs.Tables.{letter_of}
use Rattle.expression.proofs.Rebuilt.{brief_if, read_built, write_built, reads_formed, writes_formed, read_long, write_long, read_refused, write_refused, contract_read}
use Rattle.expression.proofs.trees.Trees.parse.Goals as goal

pub returns-in_err-check_length : goal.returns-in_err-check_length
returns-in_err-check_length c =
    let x = err_from_is_err_and c.from_residual.result c.from_residual.ensures.1 in
    rw (x.1, x.2) (read_long _ _ c.in_err-check_length.ensures)

pub returns-in_err-check_length-2 : goal.returns-in_err-check_length-2
returns-in_err-check_length-2 c =
    let x = err_from_is_err_and c.from_residual-in_err-check_length-2.result c.from_residual-in_err-check_length-2.ensures.1 in
    rw (x.1, x.2) (write_long _ _ (brief_if _ _ c.in_ok-check_length.ensures) c.in_err-check_length-2.ensures)

pub returns-in_err-read_one : goal.returns-in_err-read_one
returns-in_err-read_one c =
    let x = err_from_is_err_and c.from_residual-in_err-read_one.result c.from_residual-in_err-read_one.ensures.1 in
    rw (x.1, x.2)
    (read_refused _ _ (brief_if _ _ c.in_ok-check_length.ensures) (brief_if _ _ c.in_ok-check_length-2.ensures) _ c.new-parser.ensures c.in_err-read_one.ensures)

pub returns-in_err-read_one-2 : goal.returns-in_err-read_one-2
returns-in_err-read_one-2 c =
    let x = err_from_is_err_and c.from_residual-in_err-read_one-2.result c.from_residual-in_err-read_one-2.ensures.1 in
    rw (x.1, x.2)
    (write_refused _ _ (brief_if _ _ c.in_ok-check_length.ensures) (brief_if _ _ c.in_ok-check_length-2.ensures) _ c.new-parser.ensures c.in_ok-read_one.ensures c.in_err-read_one-2.ensures)

pub invariant_of-first : goal.invariant_of-first
invariant_of-first c = record {
  formed =
      reads_formed c.new-parser.ensures c.in_ok-read_one.ensures c.in_ok-read_one-2.ensures c.len.result
      (c.len.ensures.value ∙ sym (length-map _ letter_of));
}

pub invariant_of-second : goal.invariant_of-second
invariant_of-second c = record {
  formed =
      writes_formed c.new-parser.ensures c.in_ok-read_one.ensures c.in_ok-read_one-2.ensures c.len.result
      (c.len.ensures.value ∙ sym (length-map _ letter_of)) c.len-2.result (c.len-2.ensures.value ∙ sym (length-map _ letter_of));
}

pub returns : goal.returns
returns c =
    let none = c.new-parser.ensures in
    let counted = c.len.ensures.value ∙ sym (length-map _ letter_of) in
    contract_read _ _ (brief_if _ _ c.in_ok-check_length.ensures) (brief_if _ _ c.in_ok-check_length-2.ensures) _ none c.in_ok-read_one.ensures c.in_ok-read_one-2.ensures
    (read_built none c.in_ok-read_one.ensures c.in_ok-read_one-2.ensures c.len.result counted)
    (write_built none c.in_ok-read_one.ensures c.in_ok-read_one-2.ensures c.len.result counted)
