-- Reading a script, token by token:
--   script = { statement }
--   statement = ( name | path ) "=" expr ";" | "cut" path ";" | "say" expr ";"
--     | "if" expr block [ "else" block ] | "while" expr block
--   block = "{" { statement } "}"
--   expr = sum [ ( "<" | "==" ) sum ]    sum = prod { ( "+" | "-" ) prod }    prod = atom { "*" atom }
--   atom = number | [ "has" ] ( name | path ) | "(" expr ")"    path = name "." name { "." name }
-- At most 16 brackets and braces are open together, and a script has at most 16 variables, its names not after a dot;
-- `plan` is always the first. The first token to which a reason applies decides, and at one token the lower number:
-- Token, Grammar, Deep, Many.
use Rattle.std.specs.Prelude.{ℕ, ◌+◌, Bool, true, false, cond, ◌&&◌, ◌||◌, List, [], ◌∷◌, ◌++◌, length, Some, None, codes, Option, ◌==◌, nat_le}
use Rattle.std.specs.Str.{bytes_eq}
use Rattle.lexer.specs.Names.{Name}
use Rattle.lexer.specs.Tokens.{Lexeme, name, sign, equals, end, bad, Tokens, token, ended, broken, tokens, is_the_sign}
use Rattle.lexer.specs.Tokens as lexer
use Rattle.lexer.specs.declared.refusal.Reason.{Reason}
use Rattle.lexer.specs.declared.refusal.Reason.TheVariants.{Long, Token, Grammar, Deep, Many}
use Rattle.lexer.specs.declared.token.Language.TheVariants.{Script}
use Rattle.script.specs.Trees.{Step, Operator, plus, minus, times, less, same, Expr, number, access, has, binary, Statement, assign, write, cut, say, branch, loop, Block, done, next}
use Rattle.script.specs.Words.{Word, if_word, else_word, while_word, say_word, cut_word, has_word, plain_word, word_of}

-- ---- expressions

-- the left side of an operator whose right side is not read yet
pub record Pending : Type 0 where
  pub operator : Operator
  pub place : ℕ
  pub left : Expr

-- inside one bracket: what waits for the rest of a comparison, of a sum, and of a product
pub record Level : Type 0 where
  pub compared : Option Pending
  pub summed : Option Pending
  pub multiplied : Option Pending

abbrev pub blank : Level
blank = record { compared = None; summed = None; multiplied = None }

abbrev pub joined : Option Pending → Expr → Expr
joined None e = e
joined (Some p) e = binary p.operator p.place p.left e

-- the product, the sum, and the whole expression so far, with the last atom
abbrev pub product : Level → Expr → Expr
product l e = joined l.multiplied e

abbrev pub sum : Level → Expr → Expr
sum l e = joined l.summed (product l e)

abbrev pub whole : Level → Expr → Expr
whole l e = joined l.compared (sum l e)

-- the level after `*`, after `+` or `-`, and after `<` or `==`, of which there is one at most
abbrev pub after_times : ℕ → Level → Expr → Option Level
after_times at l e =
    Some (record { compared = l.compared; summed = l.summed; multiplied = Some (record { operator = times; place = at; left = product l e }) })

abbrev pub after_term : Operator → ℕ → Level → Expr → Option Level
after_term o at l e =
    Some (record { compared = l.compared; summed = Some (record { operator = o; place = at; left = sum l e }); multiplied = None })

abbrev pub after_comparison : Operator → ℕ → Level → Expr → Option Pending → Option Level
after_comparison o at l e None =
    Some (record { compared = Some (record { operator = o; place = at; left = sum l e }); summed = None; multiplied = None })
after_comparison o at l e (Some p) = None

-- where the reading stands in an expression: where an atom must come; after has; after a variable or path, which a dot
-- may follow; after such a dot; after a number or a closing bracket. The flag says that has stands before.
pub data Spot : Type 0 where
  wanting : Spot
  asked : Spot
  named : Bool → Name → List Step → Spot
  dotted : Bool → Name → List Step → Spot
  held : Expr → Spot

abbrev pub atom : Bool → Name → List Step → Expr
atom true v ss = has v ss
atom false v ss = access v ss

-- the atom that stands last, if one does
abbrev pub operand : Spot → Option Expr
operand wanting = None
operand asked = None
operand (named h v ss) = Some (atom h v ss)
operand (dotted h v ss) = None
operand (held e) = Some e

-- the levels around the innermost open bracket, the level inside it, and where the reading stands there
pub record Inner : Type 0 where
  pub outer : List Level
  pub level : Level
  pub spot : Spot

abbrev pub inner : List Level → Level → Spot → Inner
inner outer level spot = record { outer = outer; level = level; spot = spot }

abbrev pub fresh : Inner
fresh = inner [] blank wanting

abbrev pub step_at : Name → ℕ → Step
step_at n at = record { name = n; place = at }

-- a name that is no keyword comes here
abbrev pub with_name : Name → ℕ → Inner → Spot → Option Inner
with_name n at i wanting = Some (inner i.outer i.level (named false n []))
with_name n at i asked = Some (inner i.outer i.level (named true n []))
with_name n at i (named h v ss) = None
with_name n at i (dotted h v ss) = Some (inner i.outer i.level (named h v (ss ++ (step_at n at ∷ []))))
with_name n at i (held e) = None

-- has comes here
abbrev pub with_has : Inner → Spot → Option Inner
with_has i wanting = Some (inner i.outer i.level asked)
with_has i asked = None
with_has i (named h v ss) = None
with_has i (dotted h v ss) = None
with_has i (held e) = None

-- a number comes here
abbrev pub with_number : ℕ → Inner → Spot → Option Inner
with_number n i wanting = Some (inner i.outer i.level (held (number n)))
with_number n i asked = None
with_number n i (named h v ss) = None
with_number n i (dotted h v ss) = None
with_number n i (held e) = None

-- `(` comes here
abbrev pub open_bracket : Inner → Spot → Option Inner
open_bracket i wanting = Some (inner (i.level ∷ i.outer) blank wanting)
open_bracket i asked = None
open_bracket i (named h v ss) = None
open_bracket i (dotted h v ss) = None
open_bracket i (held e) = None

-- `)` comes here, after an atom
abbrev pub close_bracket : Inner → List Level → Option Expr → Option Inner
close_bracket i ls None = None
close_bracket i [] (Some e) = None
close_bracket i (l ∷ ls) (Some e) = Some (inner ls l (held (whole i.level e)))

-- `.` comes here
abbrev pub with_dot : Inner → Spot → Option Inner
with_dot i wanting = None
with_dot i asked = None
with_dot i (named h v ss) = Some (inner i.outer i.level (dotted h v ss))
with_dot i (dotted h v ss) = None
with_dot i (held e) = None

-- an operator comes here, after an atom
abbrev pub at_level : Inner → Option Level → Option Inner
at_level i None = None
at_level i (Some l) = Some (inner i.outer l wanting)

abbrev pub with_operator : (Level → Expr → Option Level) → Inner → Option Expr → Option Inner
with_operator after i None = None
with_operator after i (Some e) = at_level i (after i.level e)

abbrev pub compare : Operator → ℕ → Level → Expr → Option Level
compare o at l e = after_comparison o at l e l.compared

-- a word comes here
abbrev pub inner_word : Word → Name → ℕ → Inner → Option Inner
inner_word if_word n at i = None
inner_word else_word n at i = None
inner_word while_word n at i = None
inner_word say_word n at i = None
inner_word cut_word n at i = None
inner_word has_word n at i = with_has i i.spot
inner_word plain_word n at i = with_name n at i i.spot

-- where the reading stands in an expression after a token at a place, if the token can come there
unfoldable pub inner_advance : Lexeme → ℕ → Inner → Option Inner
inner_advance (name n) at i = inner_word (word_of n) n at i
inner_advance (lexer.number n) at i = with_number n i i.spot
inner_advance (sign b) at i =
    cond (b == 40) (open_bracket i i.spot)
    (cond (b == 41) (close_bracket i i.outer (operand i.spot))
    (cond (b == 46) (with_dot i i.spot)
    (cond (b == 42) (with_operator (after_times at) i (operand i.spot))
    (cond (b == 43) (with_operator (after_term plus at) i (operand i.spot))
    (cond (b == 45) (with_operator (after_term minus at) i (operand i.spot))
    (cond (b == 60) (with_operator (compare less at) i (operand i.spot)) None))))))
inner_advance equals at i = with_operator (compare same at) i (operand i.spot)
inner_advance end at i = None
inner_advance bad at i = None

-- the whole expression, where no bracket is open and an atom stands last
abbrev pub expression_of : Inner → List Level → Option Expr → Option Expr
expression_of i ls None = None
expression_of i [] (Some e) = Some (whole i.level e)
expression_of i (l ∷ ls) (Some e) = None

-- ---- statements

-- what an expression is read for
pub data Purpose : Type 0 where
  assigning : Name → Purpose
  writing : Name → List Step → Purpose
  saying : ℕ → Purpose
  testing : ℕ → Purpose
  repeating : ℕ → Purpose

-- where the reading stands in a block: where a statement may begin; after the block of an if, which else may follow;
-- after else; after the variable or path that a statement begins with, or a dot there; after cut, or the path to cut, or
-- a dot there; in an expression
pub data Stand : Type 0 where
  ready : Stand
  chosen : ℕ → Expr → Block → Stand
  otherwise : ℕ → Expr → Block → Stand
  target : Name → List Step → Stand
  target_dot : Name → List Step → Stand
  cutting : Stand
  cut_path : Name → List Step → Stand
  cut_dot : Name → List Step → Stand
  inside : Purpose → Inner → Stand

-- whose block an open brace begins
pub data Opened : Type 0 where
  then_block : ℕ → Expr → Opened
  else_block : ℕ → Expr → Block → Opened
  while_block : ℕ → Expr → Opened

-- an open brace, with the statements before it in the block around
pub record Frame : Type 0 where
  pub before : Block
  pub opened : Opened

pub record State : Type 0 where
  pub frames : List Frame
  pub block : Block
  pub stand : Stand

abbrev pub state : List Frame → Block → Stand → State
state frames block stand = record { frames = frames; block = block; stand = stand }

abbrev pub start : State
start = state [] done ready

-- one statement more at the end of a block
unfoldable pub followed : Block → Statement → Block
followed done s = next s done
followed (next t b) s = next t (followed b s)

-- a statement is ended
abbrev pub ended_by : State → Statement → State
ended_by s t = state s.frames (followed s.block t) ready

-- `{` opens a block
abbrev pub open_brace : State → Opened → State
open_brace s o = state (record { before = s.block; opened = o } ∷ s.frames) done ready

-- `}` closes the innermost block
abbrev pub close_frame : List Frame → Block → Block → Opened → State
close_frame fs before b (then_block at c) = state fs before (chosen at c b)
close_frame fs before b (else_block at c t) = state fs (followed before (branch at c t b)) ready
close_frame fs before b (while_block at c) = state fs (followed before (loop at c b)) ready

abbrev pub close_brace : List Frame → Block → Option State
close_brace [] b = None
close_brace (f ∷ fs) b = Some (close_frame fs f.before b f.opened)

-- a word comes where a statement may begin
abbrev pub ready_word : Word → Name → ℕ → State → Option State
ready_word if_word n at s = Some (state s.frames s.block (inside (testing at) fresh))
ready_word else_word n at s = None
ready_word while_word n at s = Some (state s.frames s.block (inside (repeating at) fresh))
ready_word say_word n at s = Some (state s.frames s.block (inside (saying at) fresh))
ready_word cut_word n at s = Some (state s.frames s.block cutting)
ready_word has_word n at s = None
ready_word plain_word n at s = Some (state s.frames s.block (target n []))

-- a token comes where a statement may begin
abbrev pub from_ready : Lexeme → ℕ → State → Option State
from_ready (name n) at s = ready_word (word_of n) n at s
from_ready (lexer.number n) at s = None
from_ready (sign b) at s = cond (b == 125) (close_brace s.frames s.block) None
from_ready equals at s = None
from_ready end at s = None
from_ready bad at s = None

-- after the block of an if: else, or what may come where a statement may begin
abbrev pub chosen_word : Word → Lexeme → ℕ → State → ℕ → Expr → Block → Option State
chosen_word if_word t at s p c b = from_ready t at (ended_by s (branch p c b done))
chosen_word else_word t at s p c b = Some (state s.frames s.block (otherwise p c b))
chosen_word while_word t at s p c b = from_ready t at (ended_by s (branch p c b done))
chosen_word say_word t at s p c b = from_ready t at (ended_by s (branch p c b done))
chosen_word cut_word t at s p c b = from_ready t at (ended_by s (branch p c b done))
chosen_word has_word t at s p c b = from_ready t at (ended_by s (branch p c b done))
chosen_word plain_word t at s p c b = from_ready t at (ended_by s (branch p c b done))

abbrev pub word_in : Lexeme → Word
word_in (name n) = word_of n
word_in (lexer.number n) = plain_word
word_in (sign b) = plain_word
word_in equals = plain_word
word_in end = plain_word
word_in bad = plain_word

-- the name that a token is, if it is one and no keyword
abbrev pub if_plain : Word → Name → Option Name
if_plain if_word n = None
if_plain else_word n = None
if_plain while_word n = None
if_plain say_word n = None
if_plain cut_word n = None
if_plain has_word n = None
if_plain plain_word n = Some n

abbrev pub name_in : Lexeme → Option Name
name_in (name n) = if_plain (word_of n) n
name_in (lexer.number n) = None
name_in (sign b) = None
name_in equals = None
name_in end = None
name_in bad = None

-- what a name makes of where the reading stands
abbrev pub naming : State → (Name → Stand) → Option Name → Option State
naming s to None = None
naming s to (Some n) = Some (state s.frames s.block (to n))

-- what a statement that begins with a variable or a path assigns or writes
abbrev pub set_by : Name → List Step → Purpose
set_by v [] = assigning v
set_by v (p ∷ ps) = writing v (p ∷ ps)

-- a path has one name after a dot at least
abbrev pub cut_of : State → Name → List Step → Option State
cut_of s v [] = None
cut_of s v (p ∷ ps) = Some (ended_by s (cut v (p ∷ ps)))

-- `;` ends an expression
abbrev pub end_expression : State → Purpose → Option Expr → Option State
end_expression s p None = None
end_expression s (assigning v) (Some e) = Some (ended_by s (assign v e))
end_expression s (writing v ss) (Some e) = Some (ended_by s (write v ss e))
end_expression s (saying at) (Some e) = Some (ended_by s (say at e))
end_expression s (testing at) (Some e) = None
end_expression s (repeating at) (Some e) = None

-- `{` ends a condition
abbrev pub end_condition : State → Purpose → Option Expr → Option State
end_condition s p None = None
end_condition s (assigning v) (Some e) = None
end_condition s (writing v ss) (Some e) = None
end_condition s (saying at) (Some e) = None
end_condition s (testing at) (Some e) = Some (open_brace s (then_block at e))
end_condition s (repeating at) (Some e) = Some (open_brace s (while_block at e))

abbrev pub goes_inside : State → Purpose → Option Inner → Option State
goes_inside s p None = None
goes_inside s p (Some i) = Some (state s.frames s.block (inside p i))

-- where the reading stands after a token at a place, if the token can come there
unfoldable pub advance_at : Lexeme → ℕ → State → Stand → Option State
advance_at t at s ready = from_ready t at s
advance_at t at s (chosen p c b) = chosen_word (word_in t) t at s p c b
advance_at t at s (otherwise p c b) = cond (is_the_sign 123 t) (Some (open_brace s (else_block p c b))) None
advance_at t at s (target v ss) =
    cond (is_the_sign 46 t) (Some (state s.frames s.block (target_dot v ss)))
    (cond (is_the_sign 61 t) (Some (state s.frames s.block (inside (set_by v ss) fresh))) None)
advance_at t at s (target_dot v ss) = naming s (λ n. target v (ss ++ (step_at n at ∷ []))) (name_in t)
advance_at t at s cutting = naming s (λ n. cut_path n []) (name_in t)
advance_at t at s (cut_path v ss) =
    cond (is_the_sign 46 t) (Some (state s.frames s.block (cut_dot v ss))) (cond (is_the_sign 59 t) (cut_of s v ss) None)
advance_at t at s (cut_dot v ss) = naming s (λ n. cut_path v (ss ++ (step_at n at ∷ []))) (name_in t)
advance_at t at s (inside p i) =
    cond (is_the_sign 59 t) (end_expression s p (expression_of i i.outer (operand i.spot)))
    (cond (is_the_sign 123 t) (end_condition s p (expression_of i i.outer (operand i.spot))) (goes_inside s p (inner_advance t at i)))

abbrev pub advance : Lexeme → ℕ → State → Option State
advance t at s = advance_at t at s s.stand

-- the whole script, where no brace is open and no statement is unfinished
abbrev pub finish : State → List Frame → Stand → Option Block
finish s (f ∷ fs) here = None
finish s [] ready = Some s.block
finish s [] (chosen at c b) = Some (followed s.block (branch at c b done))
finish s [] (otherwise at c b) = None
finish s [] (target v ss) = None
finish s [] (target_dot v ss) = None
finish s [] cutting = None
finish s [] (cut_path v ss) = None
finish s [] (cut_dot v ss) = None
finish s [] (inside p i) = None

-- ---- limits

-- how many brackets and braces are open
abbrev pub brackets_in : Stand → ℕ
brackets_in ready = 0
brackets_in (chosen at c b) = 0
brackets_in (otherwise at c b) = 0
brackets_in (target v ss) = 0
brackets_in (target_dot v ss) = 0
brackets_in cutting = 0
brackets_in (cut_path v ss) = 0
brackets_in (cut_dot v ss) = 0
brackets_in (inside p i) = length i.outer

abbrev pub depth : State → ℕ
depth s = length s.frames + brackets_in s.stand

abbrev pub opens : Lexeme → Bool
opens t = is_the_sign 40 t || is_the_sign 123 t

-- whether a name here would be one after a dot
abbrev pub spot_dotted : Spot → Bool
spot_dotted wanting = false
spot_dotted asked = false
spot_dotted (named h v ss) = false
spot_dotted (dotted h v ss) = true
spot_dotted (held e) = false

abbrev pub after_dot : Stand → Bool
after_dot ready = false
after_dot (chosen at c b) = false
after_dot (otherwise at c b) = false
after_dot (target v ss) = false
after_dot (target_dot v ss) = true
after_dot cutting = false
after_dot (cut_path v ss) = false
after_dot (cut_dot v ss) = true
after_dot (inside p i) = spot_dotted i.spot

abbrev pub among : List Name → Name → Bool
among [] n = false
among (v ∷ vs) n = bytes_eq v n || among vs n

-- the variables after a name that is not after a dot
abbrev pub with_variable : List Name → Bool → Option Name → List Name
with_variable vs dot None = vs
with_variable vs true (Some n) = vs
with_variable vs false (Some n) = cond (among vs n) vs (vs ++ (n ∷ []))

abbrev pub variables_after : List Name → Stand → Lexeme → List Name
variables_after vs here t = with_variable vs (after_dot here) (name_in t)

-- the limit that a token passes
unfoldable pub passes : Lexeme → ℕ → ℕ → Option Reason
passes t deep many = cond (opens t && nat_le 16 deep) (Some Deep) (cond (nat_le 17 many) (Some Many) None)

-- ---- the whole text

pub data Outcome : Type 0 where
  -- the tree, and the variables in the order in which they first appear, `plan` before all
  accepted : Block → List Name → Outcome
  refused : Reason → ℕ → Outcome

abbrev pub carry_on : Option State → Option Reason → ℕ → (State → Outcome) → Outcome
carry_on None limit at rest = refused Grammar at
carry_on (Some s) (Some reason) at rest = refused reason at
carry_on (Some s) None at rest = rest s

abbrev pub conclude : Option Block → List Name → ℕ → Outcome
conclude None vs at = refused Grammar at
conclude (Some b) vs at = accepted b vs

-- reading on from a state, with the variables so far
unfoldable pub read : List Name → State → Tokens → Outcome
read vs s (token t at ts) =
    carry_on (advance t at s) (passes t (depth s) (length (variables_after vs s.stand t))) at (λ n. read (variables_after vs s.stand t) n ts)
read vs s (ended at) = conclude (finish s s.frames s.stand) vs at
read vs s (broken at) = refused Token at

abbrev pub plan : Name
plan = codes "plan"

-- a script
unfoldable pub read_script : List ℕ → Outcome
read_script text = cond (nat_le 2049 (length text)) (refused Long 0) (read (plan ∷ []) start (tokens Script text 0))
