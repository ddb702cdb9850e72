use Rattle.lexer.proofs.Rows.{tokens_step}
use Rattle.lexer.proofs.theorems.tokens_go_on.Goals as goal

pub returns : goal.returns
returns c = tokens_step
