use Rattle.std.proofs.Common.{◌≡◌, ◌<◌, [], ◌∷◌, ◌++◌, length, arith}
use Rattle.std.proofs.lemmas.Grind.{common_steps}
use Rattle.bounded.specs.Rows.{entries_of}
use Rattle.lexer.specs.Spelled.{spelled}
use Rattle.parser.proofs.Numbers.{numbered_new}
use Rattle.parser.proofs.variables.Variables.number.Goals as goal

pub returns : goal.returns
returns c =
    let held = entries_of c.args.self.now.names in
    let room : length held < 16 = grind (arith, common_steps) in
    let pushed : entries_of c.push.new.self ≡ held ++ c.unwrap.result ∷ [] = grind (arith, common_steps) in
    let is : spelled c.unwrap.result ≡ c.args.name.now = grind (arith, common_steps) in
    rw pushed (numbered_new held c.args.name.now c.in_default.ensures c.unwrap.result is _ c.len-place.ensures.value room)
