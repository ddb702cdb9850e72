-- The fourteen reasons for which a call refuses, and the number of each.
use Rattle.std.specs.Prelude.{ℕ}
use Rattle.lexer.specs.declared.refusal.Reason.{Reason}
use Rattle.lexer.specs.declared.refusal.Reason.TheVariants.{Space, Narrowed, Long, Token, Grammar, Deep, Many, Object, Name, Steps, Kind, Log, Said, Full}

abbrev pub number_of : Reason → ℕ
number_of Space = 1
number_of Narrowed = 2
number_of Long = 3
number_of Token = 4
number_of Grammar = 5
number_of Deep = 6
number_of Many = 7
number_of Object = 8
number_of Name = 9
number_of Steps = 10
number_of Kind = 11
number_of Log = 12
number_of Said = 13
number_of Full = 14
