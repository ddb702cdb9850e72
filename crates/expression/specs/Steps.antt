-- What the steps of the parser leave.
use Rattle.std.specs.Prelude.{◌≡◌, ℕ, List, [], ◌∷◌, ◌++◌, length, Ok, Err, Result}
use Rattle.bounded.specs.Rows.{entries_of}
use Rattle.lexer.specs.declared.refusal.Refusal.{Refusal}
use Rattle.expression.specs.Parsing.{Part, Parsed, Whole}
use Rattle.expression.specs.Reading.{refused, read_text}
use Rattle.expression.specs.Tables.{letters_of}
use Rattle.expression.specs.declared.operation.Operation.{Operation}
use Rattle.expression.specs.declared.parser.Parser.{Parser}
use Rattle.expression.specs.declared.texts.Text.{Text}
use Rattle.expression.specs.declared.texts.TextRefusal.{TextRefusal}

-- one operation more is written
pub record Emits (operation : Operation) (p q : Parser) : Type 0 where
  pub reader : q.reader ≡ p.reader
  pub operations : entries_of q.operations ≡ entries_of p.operations ++ (operation ∷ [])
  pub letters : q.letters ≡ p.letters
  pub depth : q.depth ≡ p.depth

-- a part of the grammar is read, or refused; as many brackets are open as before
pub record Reads {P : Type 0} (part : Part P) (p q : Parser) (x : Result (Unit {0}) Refusal) : Type 0 where
  pub depth : q.depth ≡ p.depth
  pub parsed : Parsed part p.depth p.reader q.reader (entries_of p.operations) (entries_of q.operations) (letters_of p.letters) (letters_of q.letters) x

-- a whole text is read, its letters after those that were there, or refused
abbrev pub TextRead : List ℕ → Parser → Parser → Result (Unit {0}) Refusal → Type 0
TextRead text p q (Ok _) = Whole text (letters_of p.letters) (letters_of q.letters) (entries_of q.operations)
TextRead text p q (Err x) = read_text (length (letters_of p.letters)) text ≡ refused x.reason x.place

-- the same of one of the two texts
abbrev pub OneRead : Text → List ℕ → Parser → Parser → Result (Unit {0}) TextRefusal → Type 0
OneRead text bytes p q (Ok _) = Whole bytes (letters_of p.letters) (letters_of q.letters) (entries_of q.operations)
OneRead text bytes p q (Err x) = (read_text (length (letters_of p.letters)) bytes ≡ refused x.reason x.place) × (x.text ≡ text)
