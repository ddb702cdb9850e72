-- Reading a path expression, token by token:
--   alternative = sequence { "|" sequence }    sequence = item { "." item }
--   item = base [ "*" ]                        base = name | "?" | "(" [ alternative ] ")"
-- At most 16 brackets are open together. Names and `?` are letters; the two texts of a contract have at most 62 together.
-- The first token to which a reason applies decides, and at one token the lower number: Token, Grammar, Deep, Many.
use Rattle.std.specs.Prelude.{ℕ, ◌+◌, Bool, false, cond, ◌&&◌, List, [], ◌∷◌, length, Some, None, Option, ◌==◌, nat_le}
use Rattle.lexer.specs.Tokens.{Lexeme, name, number, sign, equals, end, bad, Tokens, token, ended, broken, tokens}
use Rattle.lexer.specs.declared.refusal.Reason.{Reason}
use Rattle.lexer.specs.declared.refusal.Reason.TheVariants.{Long, Token, Grammar, Deep, Many}
use Rattle.lexer.specs.declared.token.Language.TheVariants.{PathExpression}
use Rattle.expression.specs.Expressions.{any, named, Expr, empty, letter, alternative, sequence, star}

-- inside one bracket: the alternatives before the last `|`, and the sequence before the last `.` after it
pub record Level : Type 0 where
  pub alternatives : Option Expr
  pub items : Option Expr

abbrev pub blank : Level
blank = record { alternatives = None; items = None }

-- where the reading stands: right after an opening bracket, where an operand must come, after an operand, after a `*`
pub data Here : Type 0 where
  opened : Here
  wanting : Here
  holding : Expr → Here
  starred : Expr → Here

-- the levels around the innermost open bracket, the level inside it, and where the reading stands there
pub record State : Type 0 where
  pub outer : List Level
  pub level : Level
  pub here : Here

abbrev pub state : List Level → Level → Here → State
state outer level here = record { outer = outer; level = level; here = here }

abbrev pub start : State
start = state [] blank wanting

-- the sequence so far, with one more item
abbrev pub joined : Option Expr → Expr → Expr
joined None e = e
joined (Some d) e = sequence d e

-- the alternatives so far, with one more sequence
abbrev pub united : Option Expr → Expr → Expr
united None e = e
united (Some d) e = alternative d e

-- all of a level, with its last item
abbrev pub whole : Level → Expr → Expr
whole l e = united l.alternatives (joined l.items e)

-- an operand comes here
abbrev pub operand : State → Here → Expr → Option State
operand s opened e = Some (state s.outer s.level (holding e))
operand s wanting e = Some (state s.outer s.level (holding e))
operand s (holding d) e = None
operand s (starred d) e = None

-- `(` comes here
abbrev pub open_bracket : State → Here → Option State
open_bracket s opened = Some (state (s.level ∷ s.outer) blank opened)
open_bracket s wanting = Some (state (s.level ∷ s.outer) blank opened)
open_bracket s (holding d) = None
open_bracket s (starred d) = None

-- back to the level around, with what the bracket held
abbrev pub leave : List Level → Expr → Option State
leave [] e = None
leave (l ∷ ls) e = Some (state ls l (holding e))

-- `)` comes here
abbrev pub close_bracket : State → Here → Option State
close_bracket s opened = leave s.outer empty
close_bracket s wanting = None
close_bracket s (holding e) = leave s.outer (whole s.level e)
close_bracket s (starred e) = leave s.outer (whole s.level e)

-- `*` comes here
abbrev pub repeat : State → Here → Option State
repeat s opened = None
repeat s wanting = None
repeat s (holding e) = Some (state s.outer s.level (starred (star e)))
repeat s (starred e) = None

-- the level after `.`, and after `|`
abbrev pub after_dot : Level → Expr → Level
after_dot l e = record { alternatives = l.alternatives; items = Some (joined l.items e) }

abbrev pub after_bar : Level → Expr → Level
after_bar l e = record { alternatives = Some (whole l e); items = None }

-- `.` or `|` comes here
abbrev pub separate : (Level → Expr → Level) → State → Here → Option State
separate next s opened = None
separate next s wanting = None
separate next s (holding e) = Some (state s.outer (next s.level e) wanting)
separate next s (starred e) = Some (state s.outer (next s.level e) wanting)

-- where the reading stands after a token, if the token can come here
unfoldable pub advance : Lexeme → State → Option State
advance (name n) s = operand s s.here (letter (named n))
advance (number n) s = None
advance (sign b) s =
    cond (b == 63) (operand s s.here (letter any))
    (cond (b == 40) (open_bracket s s.here)
    (cond (b == 41) (close_bracket s s.here)
    (cond (b == 42) (repeat s s.here)
    (cond (b == 46) (separate after_dot s s.here)
    (cond (b == 124) (separate after_bar s s.here) None)))))
advance equals s = None
advance end s = None
advance bad s = None

-- the whole tree, where no bracket is open and an operand stands last
abbrev pub finish : State → List Level → Here → Option Expr
finish s [] opened = None
finish s [] wanting = None
finish s [] (holding e) = Some (whole s.level e)
finish s [] (starred e) = Some (whole s.level e)
finish s (l ∷ ls) here = None

-- a letter counts one
abbrev pub weight : Lexeme → ℕ
weight (name n) = 1
weight (number n) = 0
weight (sign b) = cond (b == 63) 1 0
weight equals = 0
weight end = 0
weight bad = 0

abbrev pub opens : Lexeme → Bool
opens (name n) = false
opens (number n) = false
opens (sign b) = b == 40
opens equals = false
opens end = false
opens bad = false

-- the limit that a token passes, with so many brackets open and so many letters read
unfoldable pub passes : Lexeme → ℕ → ℕ → Option Reason
passes t depth letters =
    cond (opens t && nat_le 16 depth) (Some Deep) (cond (nat_le 1 (weight t) && nat_le 62 letters) (Some Many) None)

pub data Outcome : Type 0 where
  -- the tree, and how many letters were read by its end
  accepted : Expr → ℕ → Outcome
  refused : Reason → ℕ → Outcome

-- what follows a token at a place, by whether it can come there and which limit it passes
abbrev pub step : Option State → Option Reason → ℕ → (State → Outcome) → Outcome
step None limit at next = refused Grammar at
step (Some s) (Some reason) at next = refused reason at
step (Some s) None at next = next s

abbrev pub conclude : Option Expr → ℕ → ℕ → Outcome
conclude None letters at = refused Grammar at
conclude (Some e) letters at = accepted e letters

-- reading on from a state, with so many letters read
unfoldable pub read : ℕ → State → Tokens → Outcome
read letters s (token t at ts) =
    step (advance t s) (passes t (length s.outer) letters) at (λ next. read (letters + weight t) next ts)
read letters s (ended at) = conclude (finish s s.outer s.here) letters at
read letters s (broken at) = refused Token at

-- a text of a contract, after so many letters
unfoldable pub read_text : ℕ → List ℕ → Outcome
read_text letters text = read letters start (tokens PathExpression text 0)

-- the two trees, or the reason with the text (1 read, 2 write) and the place in it
pub data Reading : Type 0 where
  trees : Expr → Expr → Reading
  refusal : Reason → ℕ → ℕ → Reading

abbrev pub with_write : Expr → Outcome → Reading
with_write e (accepted d letters) = trees e d
with_write e (refused reason at) = refusal reason 2 at

abbrev pub then_write : Outcome → List ℕ → Reading
then_write (accepted e letters) write = with_write e (read_text letters write)
then_write (refused reason at) write = refusal reason 1 at

-- a contract's two texts: Long is told for either before one is read
unfoldable pub read_contract : List ℕ → List ℕ → Reading
read_contract read write =
    cond (nat_le 401 (length read)) (refusal Long 1 0)
    (cond (nat_le 401 (length write)) (refusal Long 2 0) (then_write (read_text 0 read) write))
