use Rattle.std.proofs.Common.{◌≡◌, ◌^◌, ◌<◌, ◌⊎◌, take}
use Rattle.lexer.specs.Tokens.{decimal}
use Rattle.lexer.proofs.reader.number.Given as goal

-- the value so far, or both it and the value so far are past the largest number
abbrev pub invariant-loop-d : goal.invariant-loop-d
invariant-loop-d l =
    (l.value < 2 ^ 40)
    × ((l.value ≡ decimal (take l.d-index l.digits))
    ⊎ ((2147483647 < l.value) × (2147483647 < decimal (take l.d-index l.digits))))
