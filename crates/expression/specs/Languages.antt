-- The language of a path expression: the set of paths that it stands for, and the same by derivatives.
use Rattle.std.specs.Prelude.{◌≡◌, Bool, true, false, cond, ◌&&◌, ◌||◌, ◌⊎◌, ◌↔◌, [], ◌∷◌, ◌++◌, is_some, Some, None, Option}
use Rattle.lexer.specs.Names.{Name, Path}
use Rattle.expression.specs.Expressions.{Expr, empty, letter, alternative, sequence, star, fits}

-- paths joined from any number of paths of P
pub data Repeated (P : Path → Type 0) : Path → Type 0 where
  none : Repeated P []
  more : {w : Path} (u v : Path) → u ++ v ≡ w → P u → Repeated P v → Repeated P w

-- the path is in the language of the expression: union, joining, repetition
abbrev pub In : Expr → Path → Type 0
In empty w = w ≡ []
In (letter l) w = (p : Name) × (w ≡ p ∷ []) × (fits l p ≡ true)
In (alternative a b) w = In a w ⊎ In b w
In (sequence a b) w = (u : Path) × (v : Path) × (u ++ v ≡ w) × In a u × In b v
In (star a) w = Repeated (In a) w

-- the empty path is in the language
abbrev pub nullable : Expr → Bool
nullable empty = true
nullable (letter l) = false
nullable (alternative a b) = nullable a || nullable b
nullable (sequence a b) = nullable a && nullable b
nullable (star a) = true

-- union, where `None` is the empty language
abbrev pub union : Option Expr → Option Expr → Option Expr
union None y = y
union (Some a) None = Some a
union (Some a) (Some b) = Some (alternative a b)

-- joining with one more expression
abbrev pub before : Option Expr → Expr → Option Expr
before None b = None
before (Some a) b = Some (sequence a b)

-- Brzozowski's derivative: the paths that may follow the name p
unfoldable pub derivative : Name → Expr → Option Expr
derivative p empty = None
derivative p (letter l) = cond (fits l p) (Some empty) None
derivative p (alternative a b) = union (derivative p a) (derivative p b)
derivative p (sequence a b) = union (before (derivative p a) b) (cond (nullable a) (derivative p b) None)
derivative p (star a) = before (derivative p a) (star a)

-- what remains of an expression after a path
unfoldable pub remaining : Option Expr → Path → Option Expr
remaining x [] = x
remaining None (p ∷ w) = None
remaining (Some e) (p ∷ w) = remaining (derivative p e) w

abbrev pub ends : Option Expr → Bool
ends None = false
ends (Some e) = nullable e

-- the path is in the language, by derivatives
abbrev pub accepts : Expr → Path → Bool
accepts e w = ends (remaining (Some e) w)

-- the path is a beginning of one in the language, by derivatives
abbrev pub begins : Expr → Path → Bool
begins e w = is_some (remaining (Some e) w)

-- derivatives tell exactly the language
abbrev pub DerivativesDecide : Type 0
DerivativesDecide = (e : Expr) (w : Path) → (accepts e w ≡ true) ↔ In e w

-- and exactly the beginnings of its paths
abbrev pub DerivativesDecideBeginnings : Type 0
DerivativesDecideBeginnings = (e : Expr) (w : Path) → (begins e w ≡ true) ↔ ((v : Path) × In e (w ++ v))
