use Rattle.std.proofs.Common.{rules}
use Rattle.std.specs.Str.{bytes_eq}
use Rattle.std.proofs.lemmas.Iterator.{YieldsList-from_slice}
use Rattle.std.proofs.lemmas.Iterator.Search.{position_from_yields_List}
use Rattle.bounded.specs.Rows.{entries_of}
use Rattle.lexer.specs.Spelled.{spelled}
use Rattle.parser.proofs.Numbers.{position_sought}
use Rattle.parser.proofs.variables.Variables.find.Goals as goal

pub returns : goal.returns
returns c =
    rw
    (position_from_yields_List (λ e. bytes_eq (spelled e) c.args.name.now) _ _ c.position.result c.position.ensures.ran
    (YieldsList-from_slice (entries_of c.args.self.now.names) (cc)) (λ x b q k. search rules))
    (position_sought (entries_of c.args.self.now.names) c.args.name.now)
