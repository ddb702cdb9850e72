-- The texts of a contract: their numbers, and what is told of one that is refused.
use Rattle.std.specs.Prelude.{ℕ, cond, List, ◌++◌, length, Ok, Err, Result, nat_le, codes, decimal}
use Rattle.lexer.specs.Refusals.{number_of}
use Rattle.lexer.specs.declared.refusal.Reason.TheVariants.{Long}
use Rattle.expression.specs.declared.texts.Text.{Text}
use Rattle.expression.specs.declared.texts.Text.TheVariants.{Read, Write}
use Rattle.expression.specs.declared.texts.TextRefusal.{TextRefusal}

abbrev pub text_number : Text → ℕ
text_number Read = 1
text_number Write = 2

-- a text of more than 400 bytes is refused
abbrev pub long_in : Text → List ℕ → Result (Unit {0}) TextRefusal
long_in text bytes = cond (nat_le (length bytes) 400) (Ok tt) (Err (record { reason = Long; text = text; place = 0 }))

-- what is written of a refusal
abbrev pub told : TextRefusal → List ℕ
told x = codes "contract " ++ (decimal (number_of x.reason) ++ (codes " text " ++ (decimal (text_number x.text) ++ (codes " at " ++ decimal x.place))))
