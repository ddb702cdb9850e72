-- What the parser promises that reads parts of scripts. Each call reads one part of the grammar from where the reader stands
-- and writes the nodes of its tree after those that are there. The parser is p before the call, and q after it.
use Rattle.std.specs.Prelude.{◌≡◌, ℕ, ◌+◌, ◌-◌, ◌*◌, ◌<◌, ◌≤◌, Bool, true, false, ◌&&◌, ◌⊎◌, List, [], ◌∷◌, ◌++◌, length, Some, None, Ok, Err, Option, Result}
use Rattle.bounded.specs.Filled.{filled, places_of}
use Rattle.lexer.specs.Names.{Name, lawful}
use Rattle.lexer.specs.Readers.{text_of, place_of, language_of, tokens_from, next_of, next_place, past_next, Moved}
use Rattle.lexer.specs.Tokens.{Lexeme, name, sign, is_the_sign, reason_at}
use Rattle.lexer.specs.declared.reader.Reader.{Reader}
use Rattle.lexer.specs.declared.refusal.Reason.TheVariants.{Many}
use Rattle.lexer.specs.declared.refusal.Refusal.{Refusal}
use Rattle.script.specs.Reading.{Pending, Level, blank, Spot, wanting, held, inner, Purpose, inside, Frame, State, state, advance, finish, after_dot, step_at, name_in, among, with_variable, read, refused}
use Rattle.script.specs.Trees.{Step, Expr, Block}
use Rattle.script.specs.Words.{plain_word, word_of}
use Rattle.parser.specs.Code.{Stands, SoundPath, path_code, steps_code, expression_code, AllStand, Sound, Low}
use Rattle.parser.specs.Numbering.{variables_of, index_of}
use Rattle.parser.specs.Operators.{operator_at, none_of}
use Rattle.parser.specs.declared.node.Node.{Node}
use Rattle.parser.specs.declared.parser.Called.{Called}
use Rattle.parser.specs.declared.parser.Parser.{Parser}
use Rattle.parser.specs.declared.operators.Rank.TheVariants.{Product, Sum, Comparison}

-- the nodes written so far, and the names of the variables
abbrev pub nodes_of : Parser → List Node
nodes_of p = filled p.out

abbrev pub names_of : Parser → List Name
names_of p = variables_of p.variables

-- a parser that reads the same text, in the same language, and whose nodes lie where they lay
pub record Kept (p q : Parser) : Type 0 where
  pub text : text_of q.reader ≡ text_of p.reader
  pub language : language_of q.reader ≡ language_of p.reader
  pub size : length (places_of q.out) ≡ length (places_of p.out)
  pub lent : q.out.places.ghost_name ≡ p.out.places.ghost_name

-- a parser of which nothing has changed but where its reader stands
pub record OnlyReads (p q : Parser) : Type 0 where
  pub out : q.out ≡ p.out
  pub variables : q.variables ≡ p.variables

-- a parser of which nothing has changed but its nodes, which lie where they lay
pub record OnlyWrites (p q : Parser) : Type 0 where
  pub reader : q.reader ≡ p.reader
  pub variables : q.variables ≡ p.variables
  pub size : length (places_of q.out) ≡ length (places_of p.out)
  pub lent : q.out.places.ghost_name ≡ p.out.places.ghost_name

-- ---- variables and names after dots

-- a reader passes the next token, which is a name that is no keyword
pub record NamePassed (r s : Reader) (n : Name) : Type 0 where
  pub is : next_of r ≡ name n
  pub word : word_of n ≡ plain_word
  pub moved : Moved r s (past_next r)
  pub on : place_of r < place_of s
  pub stands : Stands (text_of r) (step_at n (next_place r))

-- the next token is none, and is refused
pub record NoName (r : Reader) (x : Refusal) : Type 0 where
  pub is : name_in (next_of r) ≡ None
  pub reason : x.reason ≡ reason_at (next_of r)
  pub place : x.place ≡ next_place r

abbrev pub CalledNext : Reader → Reader → Result Called Refusal → Type 0
CalledNext r s (Ok c) = NamePassed r s c.bytes.now × (c.place ≡ next_place r) × (lawful c.bytes.now ≡ true)
CalledNext r s (Err x) = NoName r x × Moved r s (place_of r)

-- a variable was read: it is among the variables, and has its number
pub record VariablePassed (p q : Parser) (i : ℕ) : Type 0 where
  pub variable : Name
  pub passed : NamePassed p.reader q.reader variable
  pub variables : names_of q ≡ with_variable (names_of p) false (Some variable)
  pub known : among (names_of q) variable ≡ true
  pub number : i ≡ index_of (names_of q) variable

-- the seventeenth variable
pub record Seventeenth (p q : Parser) (x : Refusal) : Type 0 where
  pub variable : Name
  pub passed : NamePassed p.reader q.reader variable
  pub many : 16 < length (with_variable (names_of p) false (Some variable))
  pub reason : x.reason ≡ Many
  pub place : x.place ≡ next_place p.reader

-- no variable was read
abbrev pub NoVariable : Parser → Parser → Refusal → Type 0
NoVariable p q x = (NoName p.reader x × Moved p.reader q.reader (place_of p.reader)) ⊎ Seventeenth p q x

abbrev pub VariableRead : Parser → Parser → Result ℕ Refusal → Type 0
VariableRead p q (Ok i) = VariablePassed p q i
VariableRead p q (Err x) = NoVariable p q x × (names_of q ≡ names_of p)

-- where names after dots can come: the state after some of them, and the state after a dot
pub record Trail : Type 0 where
  pub named : List Step → State
  pub dotted : List Step → State
  pub dot : (at : ℕ) (ss : List Step) → advance (sign 46) at (named ss) ≡ Some (dotted ss)
  pub step : (n : Name) (at : ℕ) (ss : List Step) → word_of n ≡ plain_word → advance (name n) at (dotted ss) ≡ Some (named (ss ++ (step_at n at ∷ [])))
  pub stuck : (t : Lexeme) (at : ℕ) (ss : List Step) → name_in t ≡ None → advance t at (dotted ss) ≡ None
  pub unfinished : (ss : List Step) → finish (dotted ss) (dotted ss).frames (dotted ss).stand ≡ None
  pub after : (ss : List Step) → after_dot (dotted ss).stand ≡ true

-- names after dots were read
pub record StepsMade (vs : List Name) (p q : Parser) (count : ℕ) : Type 0 where
  pub steps : List Step
  pub many : count ≡ length steps
  pub on : place_of p.reader ≤ place_of q.reader
  pub room : length (nodes_of q) + place_of p.reader ≤ length (nodes_of p) + place_of q.reader
  pub nodes : nodes_of q ≡ nodes_of p ++ steps_code steps
  pub stand : AllStand (text_of p.reader) steps
  pub ended : is_the_sign 46 (next_of q.reader) ≡ false
  pub goes : (t : Trail) (ss : List Step) → read vs (t.named ss) (tokens_from p.reader) ≡ read vs (t.named (ss ++ steps)) (tokens_from q.reader)

abbrev pub StepsSaid : List Name → Parser → Parser → Result ℕ Refusal → Type 0
StepsSaid vs p q (Ok count) = StepsMade vs p q count
StepsSaid vs p q (Err x) = (t : Trail) (ss : List Step) → read vs (t.named ss) (tokens_from p.reader) ≡ refused x.reason x.place

pub record StepsRead (p q : Parser) (x : Result ℕ Refusal) : Type 0 where
  pub kept : Kept p q
  pub variables : q.variables ≡ p.variables
  pub said : (vs : List Name) → length vs ≤ 16 → StepsSaid vs p q x

-- where a path can come: the state before it, the states after its variable, and which tokens are known not to come
pub record Approach : Type 0 where
  pub start : State
  pub trail : Name → Trail
  pub ready_for : Lexeme → Bool
  pub first : (n : Name) (at : ℕ) → word_of n ≡ plain_word → advance (name n) at start ≡ Some ((trail n).named [])
  pub stuck : (t : Lexeme) (at : ℕ) → ready_for t ≡ true → name_in t ≡ None → advance t at start ≡ None
  pub unfinished : finish start start.frames start.stand ≡ None
  pub after : after_dot start.stand ≡ false

-- a path was read
pub record PathMade (p q : Parser) (count : ℕ) : Type 0 where
  pub variable : Name
  pub steps : List Step
  pub many : count ≡ length steps
  pub on : place_of p.reader < place_of q.reader
  pub room : length (nodes_of q) + place_of p.reader ≤ length (nodes_of p) + place_of q.reader
  pub new : List Name
  pub variables : names_of q ≡ names_of p ++ new
  pub nodes : nodes_of q ≡ nodes_of p ++ path_code (names_of q) variable steps
  pub sound : SoundPath (text_of p.reader) (names_of q) variable steps
  pub ended : is_the_sign 46 (next_of q.reader) ≡ false
  pub goes : (k : Approach) → k.ready_for (next_of p.reader) ≡ true → read (names_of p) k.start (tokens_from p.reader) ≡ read (names_of q) ((k.trail variable).named steps) (tokens_from q.reader)

abbrev pub PathSaid : Parser → Parser → Result ℕ Refusal → Type 0
PathSaid p q (Ok count) = PathMade p q count
PathSaid p q (Err x) = (k : Approach) → k.ready_for (next_of p.reader) ≡ true → read (names_of p) k.start (tokens_from p.reader) ≡ refused x.reason x.place

pub record PathRead (p q : Parser) (x : Result ℕ Refusal) : Type 0 where
  pub kept : Kept p q
  pub said : PathSaid p q x

-- ---- expressions: no function reads them yet

-- where an expression stands: the open braces, the statements before it, and what it is read for
pub record Around : Type 0 where
  pub frames : List Frame
  pub block : Block
  pub purpose : Purpose

abbrev pub in_expression : Around → List Level → Level → Spot → State
in_expression a outer level spot = state a.frames a.block (inside a.purpose (inner outer level spot))

-- a part of an expression: the levels at which it is read, the tokens that may come next, and how many values it needs
-- beyond those of the brackets in it
pub record Part (L : Type 0) : Type 0 where
  pub level : L → Level
  pub ends : Lexeme → Bool
  pub values : ℕ

abbrev pub atom_part : Part Level
atom_part = record { level = λ l. l; ends = λ t. true; values = 1 }

abbrev pub product_part : Part (Option Pending × Option Pending)
product_part = record {
  level = λ p. record { compared = p.0; summed = p.1; multiplied = None };
  ends = λ t. none_of (operator_at Product t);
  values = 2;
}

abbrev pub sum_part : Part (Option Pending)
sum_part = record {
  level = λ p. record { compared = p; summed = None; multiplied = None };
  ends = λ t. none_of (operator_at Product t) && none_of (operator_at Sum t);
  values = 3;
}

abbrev pub expression_part : Part (Unit {0})
expression_part = record {
  level = λ _. blank;
  ends = λ t. none_of (operator_at Product t) && none_of (operator_at Sum t) && none_of (operator_at Comparison t);
  values = 4;
}

-- a part was read: its nodes are written, and reading on from where the parser stood is reading on from where it stands
pub record Made {L : Type 0} (part : Part L) (depth : ℕ) (p q : Parser) : Type 0 where
  pub tree : Expr
  pub on : place_of p.reader < place_of q.reader
  pub room : length (nodes_of q) + place_of p.reader ≤ length (nodes_of p) + place_of q.reader
  pub new : List Name
  pub variables : names_of q ≡ names_of p ++ new
  pub nodes : nodes_of q ≡ nodes_of p ++ expression_code (names_of q) tree
  pub sound : Sound (text_of p.reader) (names_of q) tree
  pub low : Low (3 * (16 - depth) + part.values) tree
  pub ended : part.ends (next_of q.reader) ≡ true
  pub goes : (l : L) (a : Around) (outer : List Level) → length a.frames + length outer ≡ depth → read (names_of p) (in_expression a outer (part.level l) wanting) (tokens_from p.reader) ≡ read (names_of q) (in_expression a outer (part.level l) (held tree)) (tokens_from q.reader)

abbrev pub Said : {L : Type 0} → Part L → ℕ → Parser → Parser → Result (Unit {0}) Refusal → Type 0
Said part depth p q (Ok _) = Made part depth p q
Said {L} part depth p q (Err x) =
    (l : L) (a : Around) (outer : List Level) → length a.frames + length outer ≡ depth
    → read (names_of p) (in_expression a outer (part.level l) wanting) (tokens_from p.reader) ≡ refused x.reason x.place

pub record Parsed {L : Type 0} (part : Part L) (depth : ℕ) (p q : Parser) (x : Result (Unit {0}) Refusal) : Type 0 where
  pub kept : Kept p q
  pub said : Said part depth p q x
