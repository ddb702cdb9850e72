-- The operators of expressions: which operator of a rank a token is.
use Rattle.std.specs.Prelude.{◌≡◌, ℕ, ◌<◌, Bool, true, false, cond, Some, None, Option, ◌==◌}
use Rattle.lexer.specs.Readers.{place_of, next_of, next_place, past_next, Moved}
use Rattle.lexer.specs.Tokens.{Lexeme, name, number, sign, equals, end, bad}
use Rattle.lexer.specs.declared.reader.Reader.{Reader}
use Rattle.parser.specs.declared.node.Operator.{Operator}
use Rattle.parser.specs.declared.node.Operator.TheVariants.{Plus, Minus, Times, Less, Same}
use Rattle.parser.specs.declared.operators.Found.{Found}
use Rattle.parser.specs.declared.operators.Rank.{Rank}
use Rattle.parser.specs.declared.operators.Rank.TheVariants.{Product, Sum, Comparison}

abbrev pub sign_operator : Rank → ℕ → Option Operator
sign_operator Product b = cond (b == 42) (Some Times) None
sign_operator Sum b = cond (b == 43) (Some Plus) (cond (b == 45) (Some Minus) None)
sign_operator Comparison b = cond (b == 60) (Some Less) None

abbrev pub equals_operator : Rank → Option Operator
equals_operator Product = None
equals_operator Sum = None
equals_operator Comparison = Some Same

-- the operator of a rank that a token is
abbrev pub operator_at : Rank → Lexeme → Option Operator
operator_at rank (name n) = None
operator_at rank (number n) = None
operator_at rank (sign b) = sign_operator rank b
operator_at rank equals = equals_operator rank
operator_at rank end = None
operator_at rank bad = None

abbrev pub none_of : {A : Type 0} → Option A → Bool
none_of None = true
none_of (Some x) = false

-- a reader passes the next token if it is an operator of the rank
abbrev pub Operated : Rank → Reader → Reader → Option Found → Type 0
Operated rank r s (Some f) = (operator_at rank (next_of r) ≡ Some f.operator) × (f.place ≡ next_place r) × Moved r s (past_next r) × (place_of r < place_of s)
Operated rank r s None = (operator_at rank (next_of r) ≡ None) × Moved r s (place_of r)
