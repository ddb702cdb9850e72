-- What the parser's functions promise. Each reads one part of the grammar from where the reader stands, and writes the
-- operations and the letters of its tree.
use Rattle.std.specs.Prelude.{◌≡◌, ℕ, ◌+◌, ◌<◌, ◌≤◌, Bool, true, cond, not, ◌&&◌, List, ◌++◌, length, Some, None, Ok, Err, Option, Result, ◌==◌}
use Rattle.lexer.specs.Readers.{text_of, place_of, language_of, tokens_from, next_of}
use Rattle.lexer.specs.Tokens.{Lexeme, name, number, sign, equals, end, bad, is_the_sign}
use Rattle.lexer.specs.declared.reader.Reader.{Reader}
use Rattle.lexer.specs.declared.refusal.Refusal.{Refusal}
use Rattle.expression.specs.Expressions.{Letter, any, named, Expr}
use Rattle.expression.specs.Reading.{Level, blank, Here, wanting, holding, starred, state, read, Outcome, accepted, refused, read_text}
use Rattle.expression.specs.Tables.{postfix, leaves}
use Rattle.expression.specs.declared.operation.Operation.{Operation}

-- the letter that a token is
abbrev pub letter_at : Lexeme → Option Letter
letter_at (name s) = Some (named s)
letter_at (number n) = None
letter_at (sign b) = cond (b == 63) (Some any) None
letter_at equals = None
letter_at end = None
letter_at bad = None

-- a part of the grammar: the levels at which it is read, where the reading stands after its tree, and the tokens that
-- cannot come next, since the part would take them in
pub record Part (P : Type 0) : Type 0 where
  pub level : P → Level
  pub after : Expr → Here
  pub ends : Lexeme → Bool

abbrev pub base_part : Part Level
base_part = record { level = λ l. l; after = holding; ends = λ t. true }

abbrev pub item_part : Part Level
item_part = record { level = λ l. l; after = starred; ends = λ t. true }

abbrev pub sequence_part : Part (Option Expr)
sequence_part = record {
  level = λ a. record { alternatives = a; items = None };
  after = starred;
  ends = λ t. not (is_the_sign 46 t);
}

abbrev pub alternative_part : Part (Unit {0})
alternative_part = record {
  level = λ _. blank;
  after = starred;
  ends = λ t. not (is_the_sign 46 t) && not (is_the_sign 124 t);
}

-- the outcome of reading on from where an operand must come, with a number of letters read and some brackets open
abbrev pub wanting_at : Level → List Level → ℕ → Reader → Outcome
wanting_at level outer n r = read n (state outer level wanting) (tokens_from r)

-- a part was read from r to s: its operations and letters are written, and reading on from r is reading on from s
pub record Made {P : Type 0} (part : Part P) (depth : ℕ) (r s : Reader) (o u : List Operation) (l m : List Letter) : Type 0 where
  pub tree : Expr
  pub on : place_of r < place_of s
  pub room : length u + place_of r ≤ length o + place_of s
  pub operations : u ≡ o ++ postfix tree
  pub letters : m ≡ l ++ leaves tree
  pub ended : part.ends (next_of s) ≡ true
  pub goes : (p : P) (outer : List Level) → length outer ≡ depth → wanting_at (part.level p) outer (length l) r ≡ read (length m) (state outer (part.level p) (part.after tree)) (tokens_from s)

abbrev pub Said : {P : Type 0} → Part P → ℕ → Reader → Reader → List Operation → List Operation → List Letter → List Letter → Result (Unit {0}) Refusal → Type 0
Said part depth r s o u l m (Ok _) = Made part depth r s o u l m
Said {P} part depth r s o u l m (Err x) =
    (p : P) (outer : List Level) → length outer ≡ depth → wanting_at (part.level p) outer (length l) r ≡ refused x.reason x.place

pub record Parsed {P : Type 0} (part : Part P) (depth : ℕ) (r s : Reader) (o u : List Operation) (l m : List Letter) (x : Result (Unit {0}) Refusal) : Type 0 where
  pub text : text_of s ≡ text_of r
  pub language : language_of s ≡ language_of r
  pub said : Said part depth r s o u l m x

-- there is room for an operation for each byte that is not read
abbrev pub Fits : Reader → List Operation → Type 0
Fits r o = (length o ≤ place_of r) × (length (text_of r) ≤ 400)

-- a whole text was read after some letters: its operations and letters are written
pub record Whole (text : List ℕ) (l m : List Letter) (o : List Operation) : Type 0 where
  pub tree : Expr
  pub is : read_text (length l) text ≡ accepted tree (length m)
  pub operations : o ≡ postfix tree
  pub letters : m ≡ l ++ leaves tree
