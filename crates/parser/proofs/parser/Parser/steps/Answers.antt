use Rattle.std.proofs.lemmas.Result.{err_from_is_err_and}
use Rattle.parser.proofs.Trails.{stepping_breaks}
use Rattle.parser.proofs.parser.Parser.steps.Goals as goal

pub returns-in_err-called : goal.returns-in_err-called
returns-in_err-called c =
    let x = err_from_is_err_and c.from_residual.result c.from_residual.ensures.1 in
    let none = c.in_err-called.ensures in
    rw (x.1, x.2) (stepping_breaks c.loop-self.invariant c.loop-self-test.ensures none.name.0 none.name.1 none.rest.out none.rest.variables)
