use Rattle.std.proofs.lemmas.Result.{err_from_is_err_and}
use Rattle.expression.proofs.WholeTexts.{text_refused, text_read, text_goes_on}
use Rattle.expression.proofs.parser.Parser.read_text.Goals as goal

pub returns-in_err-alternative : goal.returns-in_err-alternative
returns-in_err-alternative c =
    let x = err_from_is_err_and c.from_residual.result c.from_residual.ensures.1 in
    rw (x.1, x.2) (text_refused _ _ c.new-self.ensures.text c.new-self.ensures.place c.new-self.ensures.language c.in_err-alternative.ensures.parsed)

pub returns-in-End : goal.returns-in-End
returns-in-End c =
    text_read _ _ c.new-self.ensures.text c.new-self.ensures.place c.new-self.ensures.language c.clear.ensures c.in_ok-alternative.ensures.parsed c.peek-next.result c.peek-next.ensures.is c.in-End.is

pub returns-in_default : goal.returns-in_default
returns-in_default c =
    text_goes_on _ _ c.new-self.ensures.text c.new-self.ensures.place c.new-self.ensures.language c.clear.ensures c.in_ok-alternative.ensures.parsed c.peek-next.result c.peek-next.ensures.is c.in_default.not-End c.misplaced.ensures.reason c.misplaced.ensures.place
