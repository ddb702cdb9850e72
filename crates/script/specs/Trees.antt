-- The tree of a script, with the places that a run tells: those of the names after dots, of operators, and of if, while
-- and say. Brackets leave no trace. An if without an else has an empty block there.
use Rattle.std.specs.Prelude.{ℕ, List}
use Rattle.lexer.specs.Names.{Name}

-- a name after a dot
pub record Step : Type 0 where
  pub name : Name
  pub place : ℕ

pub data Operator : Type 0 where
  plus : Operator
  minus : Operator
  times : Operator
  less : Operator
  same : Operator

-- a number; a variable, with the names after dots; has; an operator with its two sides
pub data Expr : Type 0 where
  number : ℕ → Expr
  access : Name → List Step → Expr
  has : Name → List Step → Expr
  binary : Operator → ℕ → Expr → Expr → Expr

mutual
  pub data Statement : Type 0 where
    assign : Name → Expr → Statement
    write : Name → List Step → Expr → Statement
    cut : Name → List Step → Statement
    say : ℕ → Expr → Statement
    branch : ℕ → Expr → Block → Block → Statement
    loop : ℕ → Expr → Block → Statement

  -- statements one after the other
  pub data Block : Type 0 where
    done : Block
    next : Statement → Block → Block
