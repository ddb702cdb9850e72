use Rattle.std.proofs.Common.{sym, refl, ap, ◌∙◌}
use Rattle.lexer.proofs.Moves.{taken}
use Rattle.expression.proofs.Operands.{letter_read, letter_refused}
use Rattle.expression.proofs.Written.{letters_full, letters_fit, letters_added}
use Rattle.expression.proofs.parser.Parser.letter.Goals as goal

pub returns-then-is_err : goal.returns-then-is_err
returns-then-is_err c = record {
  depth = refl;
  parsed =
      letter_refused c.requires.next (taken c.take-next.result c.take-next.ensures.is c.take-next.ensures.after) _
      (letters_full _ _ c.push.ensures.room c.push.ensures.entries (sym c.is_err.ensures.value ∙ c.if-is_err.true))
      (ap (λ x. x.reason) c.refused.ensures) (ap (λ x. x.place) c.refused.ensures ∙ ap (λ x. x.start) c.take-next.ensures.is);
}

pub returns : goal.returns
returns c =
    let some = sym c.is_err.ensures.value ∙ c.if-is_err.false in
    record {
      depth = c.emit.ensures.depth;
      parsed =
          let move = taken c.take-next.result c.take-next.ensures.is c.take-next.ensures.after in
          rw (c.emit.ensures.reader, c.emit.ensures.letters)
          (letter_read c.requires.next move _ (letters_fit _ _ c.push.ensures.room c.push.ensures.entries some) (letters_added _ _ c.push.ensures.room c.push.ensures.entries some) c.emit.ensures.operations);
    }
