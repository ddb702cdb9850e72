use Rattle.std.proofs.Common.{◌≡◌, ◌+◌, ◌-◌, ◌*◌, get_or, take, ap, arith}
use Rattle.std.proofs.lemmas.List.{take_all}
use Rattle.std.proofs.lemmas.List.Sums.{fold_more}
use Rattle.std.proofs.lemmas.Bool.Decides.{nat_tests}
use Rattle.lexer.specs.Tokens.{decimal}
use Rattle.lexer.proofs.reader.number.Goals as goal
use Rattle.lexer.proofs.reader.number.Goals.{then-value-le-MAX_NUMBER, else-value-le-MAX_NUMBER}

pub loop-d-preserved : goal.loop-d-preserved
loop-d-preserved c =
    let more : decimal (take (c.loop-d.d-index + 1) c.args.digits.now) ≡ decimal (take c.loop-d.d-index c.args.digits.now) * 10 + (get_or c.args.digits.now c.loop-d.d-index 0 - 48) = fold_more _ 0 c.args.digits.now c.loop-d.d-index 0 c.loop-d-test.true in
    elim c.if-value-le-MAX_NUMBER.branch [ then-value-le-MAX_NUMBER w ↦ grind (arith, w.value-is, w.saturating_sub.ensures) | else-value-le-MAX_NUMBER w ↦ grind (arith, w.value-is) ]

pub returns-then-value-le-MAX_NUMBER-2 : goal.returns-then-value-le-MAX_NUMBER-2
returns-then-value-le-MAX_NUMBER-2 c =
    let all : decimal (take c.loop-d.d-index c.args.digits.now) ≡ decimal c.args.digits.now = ap decimal (take_all c.loop-d.d-index c.args.digits.now (omega arith)) in
    grind (arith, nat_tests)

pub returns-else-value-le-MAX_NUMBER-2 : goal.returns-else-value-le-MAX_NUMBER-2
returns-else-value-le-MAX_NUMBER-2 c =
    let all : decimal (take c.loop-d.d-index c.args.digits.now) ≡ decimal c.args.digits.now = ap decimal (take_all c.loop-d.d-index c.args.digits.now (omega arith)) in
    grind (arith, nat_tests)
