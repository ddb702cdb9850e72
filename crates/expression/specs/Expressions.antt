-- Path expressions as trees. Sequences and alternatives group to the left, as they are read, and brackets leave no other
-- trace.
use Rattle.std.specs.Prelude.{Bool}
use Rattle.lexer.specs.Names.{Name, lawful}
use Rattle.std.specs.Str.{bytes_eq}

-- `?`, or a name
pub data Letter : Type 0 where
  any : Letter
  named : Name → Letter

-- `()`, a letter, `a|b`, `a.b`, `a*`
pub data Expr : Type 0 where
  empty : Expr
  letter : Letter → Expr
  alternative : Expr → Expr → Expr
  sequence : Expr → Expr → Expr
  star : Expr → Expr

-- the names that a letter stands for
unfoldable pub fits : Letter → Name → Bool
fits any p = lawful p
fits (named n) p = bytes_eq n p
