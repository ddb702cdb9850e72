-- The nodes of a script's tree. An expression stands in postfix order. A statement stands before its parts and tells how
-- many nodes each of them has; a block is its statements, one after the other. So far functions write those of paths.
use Rattle.std.specs.Prelude.{◌≡◌, ℕ, ◌+◌, ◌-◌, ◌≤◌, true, List, [], ◌∷◌, ◌++◌, length, take, drop, pos}
use Rattle.lexer.specs.Names.{Name}
use Rattle.script.specs.Reading.{among}
use Rattle.script.specs.Trees.{Step, Operator, plus, minus, times, less, same, Expr, number, access, has, binary, Statement, assign, write, cut, say, branch, loop, Block, done, next}
use Rattle.parser.specs.Numbering.{index_of}
use Rattle.parser.specs.declared.node.Node.{Node}
use Rattle.parser.specs.declared.node.Node.TheVariants as node
use Rattle.parser.specs.declared.node.Operator.{Operator as Held}
use Rattle.parser.specs.declared.node.Operator.TheVariants.{Plus, Minus, Times, Less, Same}

-- the operator that the code holds
abbrev pub held : Operator → Held
held plus = Plus
held minus = Minus
held times = Times
held less = Less
held same = Same

-- the names after dots, each by its place and its length
unfoldable pub steps_code : List Step → List Node
steps_code [] = []
steps_code (s ∷ ss) = node.Step (record { place = s.place; length = length s.name }) ∷ steps_code ss

-- a variable, by its number among the variables, with names after dots
abbrev pub path_code : List Name → Name → List Step → List Node
path_code vs v ss = node.Variable (index_of vs v) ∷ steps_code ss

unfoldable pub expression_code : List Name → Expr → List Node
expression_code vs (number n) = node.Number (pos n) ∷ []
expression_code vs (access v ss) = path_code vs v ss
expression_code vs (has v ss) = path_code vs v ss ++ (node.Has ∷ [])
expression_code vs (binary o at a b) = expression_code vs a ++ (expression_code vs b ++ (node.Binary (held o) at ∷ []))

unfoldable mutual
  pub statement_code : List Name → Statement → List Node
  statement_code vs (assign v e) = node.Assign (length (expression_code vs e)) ∷ (path_code vs v [] ++ expression_code vs e)
  statement_code vs (write v ss e) = node.Write (length ss) (length (expression_code vs e)) ∷ (path_code vs v ss ++ expression_code vs e)
  statement_code vs (cut v ss) = node.Cut (length ss) ∷ path_code vs v ss
  statement_code vs (say at e) = node.Say at (length (expression_code vs e)) ∷ expression_code vs e
  statement_code vs (branch at e b c) =
      node.If at (length (expression_code vs e)) (length (block_code vs b)) (length (block_code vs c)) ∷ (expression_code vs e ++ (block_code vs b ++ block_code vs c))
  statement_code vs (loop at e b) = node.While at (length (expression_code vs e)) (length (block_code vs b)) ∷ (expression_code vs e ++ block_code vs b)

  pub block_code : List Name → Block → List Node
  block_code vs done = []
  block_code vs (next s b) = statement_code vs s ++ block_code vs b

-- how many statements a block has, those in its blocks included
unfoldable mutual
  pub statements_in : Statement → ℕ
  statements_in (assign v e) = 1
  statements_in (write v ss e) = 1
  statements_in (cut v ss) = 1
  statements_in (say at e) = 1
  statements_in (branch at e b c) = 1 + (statements_of b + statements_of c)
  statements_in (loop at e b) = 1 + statements_of b

  pub statements_of : Block → ℕ
  statements_of done = 0
  statements_of (next s b) = statements_in s + statements_of b

-- ---- what holds of each tree that is read from a text

-- a name after a dot stands at its place in the text
pub record Stands (text : List ℕ) (s : Step) : Type 0 where
  pub within : s.place + length s.name ≤ length text
  pub bytes : take (length s.name) (drop s.place text) ≡ s.name

abbrev pub AllStand : List ℕ → List Step → Type 0
AllStand text [] = Unit {0}
AllStand text (s ∷ ss) = Stands text s × AllStand text ss

-- a path's variable is among the variables, and its names stand in the text
abbrev pub SoundPath : List ℕ → List Name → Name → List Step → Type 0
SoundPath text vs v ss = (among vs v ≡ true) × AllStand text ss

abbrev pub Sound : List ℕ → List Name → Expr → Type 0
Sound text vs (number n) = Unit {0}
Sound text vs (access v ss) = SoundPath text vs v ss
Sound text vs (has v ss) = SoundPath text vs v ss
Sound text vs (binary o at a b) = Sound text vs a × Sound text vs b

-- a stack of so many values suffices to evaluate the expression: the left side first, and the right side upon its value
abbrev pub Low : ℕ → Expr → Type 0
Low n (number k) = 1 ≤ n
Low n (access v ss) = 1 ≤ n
Low n (has v ss) = 1 ≤ n
Low n (binary o at a b) = Low n a × Low (n - 1) b

-- the values of an expression with 16 open brackets: in each bracket three sides of operators wait at most
abbrev pub Fine : List ℕ → List Name → Expr → Type 0
Fine text vs e = Sound text vs e × Low 52 e

abbrev mutual
  pub SoundStatement : List ℕ → List Name → Statement → Type 0
  SoundStatement text vs (assign v e) = (among vs v ≡ true) × Fine text vs e
  SoundStatement text vs (write v ss e) = SoundPath text vs v ss × (1 ≤ length ss) × Fine text vs e
  SoundStatement text vs (cut v ss) = SoundPath text vs v ss × (1 ≤ length ss)
  SoundStatement text vs (say at e) = Fine text vs e
  SoundStatement text vs (branch at e b c) = Fine text vs e × SoundBlock text vs b × SoundBlock text vs c
  SoundStatement text vs (loop at e b) = Fine text vs e × SoundBlock text vs b

  pub SoundBlock : List ℕ → List Name → Block → Type 0
  SoundBlock text vs done = Unit {0}
  SoundBlock text vs (next s b) = SoundStatement text vs s × SoundBlock text vs b
