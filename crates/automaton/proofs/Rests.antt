-- What the positions of a path expression tell: which ones there are, and after which ones a path may end.
use Rattle.std.proofs.Common.{◌≡◌, ℕ, ◌+◌, true, ◌&&◌, ltb, leb, is_some, Some, None, Option, refl, ◌∙◌, arith}
use mathlib.Core.Bool.{and-true}
use Rattle.std.proofs.lemmas.Bool.{false≢true}
use Rattle.std.proofs.lemmas.Bool.Decides.{nat_tests}
use Rattle.expression.specs.Expressions.{Expr, empty, letter, alternative, sequence, star}
use Rattle.expression.specs.Languages.{before, remaining, ends}
use Rattle.automaton.specs.Positions.{size, first, last, follow, rest, PositionsTellTheEmptyPath}

-- a joining is something where its first part is
pub before_some : (x : Option Expr) (b : Expr) → is_some (before x b) ≡ is_some x
before_some None b = refl
before_some (Some a) b = refl

-- something comes after just the positions of the tree
pub rest_some : (e : Expr) (i x : ℕ) → is_some (rest e i x) ≡ (leb i x && ltb x (i + size e))
unfolding rest size
rest_some empty i x = grind (arith, nat_tests)
rest_some (letter l) i x = grind (arith, nat_tests)
rest_some (alternative a b) i x = grind (arith, nat_tests, rest_some a i x, rest_some b (i + size a) x)
rest_some (sequence a b) i x = grind (arith, nat_tests, rest_some a i x, rest_some b (i + size a) x)
rest_some (star a) i x = before_some (rest a i x) (star a) ∙ rest_some a i x

-- no position is in the first part of a tree and in the second
pub apart : (a b : Expr) (i x : ℕ) → is_some (rest a i x) ≡ true → is_some (rest b (i + size a) x) ≡ true → ⊥
apart a b i x h k = let m = rest_some a i x in let n = rest_some b (i + size a) x in grind (arith, nat_tests)

-- a position that can come first is one of the tree
pub first_some : (e : Expr) (i y : ℕ) → first e i y ≡ true → is_some (rest e i y) ≡ true
unfolding first rest
first_some empty i y h = h
first_some (letter l) i y h = grind arith
first_some (alternative a b) i y h = grind (arith, first_some a i y, first_some b (i + size a) y)
first_some (sequence a b) i y h = grind (arith, first_some a i y, first_some b (i + size a) y)
first_some (star a) i y h = grind (arith, first_some a i y)

-- and so is one that can follow
pub follow_some : (e : Expr) (i x y : ℕ) → follow e i x y ≡ true → is_some (rest e i y) ≡ true
unfolding follow rest
follow_some empty i x y h = h
follow_some (letter l) i x y h = absurd (false≢true h)
follow_some (alternative a b) i x y h = grind (arith, follow_some a i x y, follow_some b (i + size a) x y)
follow_some (sequence a b) i x y h =
    grind (arith, follow_some a i x y, follow_some b (i + size a) x y, first_some b (i + size a) y)
follow_some (star a) i x y h = grind (arith, follow_some a i x y, first_some a i y)

-- the path may end after just the last positions
pub rest_ends : (e : Expr) (i x : ℕ) → ends (rest e i x) ≡ last e i x
unfolding rest last
rest_ends empty i x = refl
rest_ends (letter l) i x = grind arith
rest_ends (alternative a b) i x = grind (arith, rest_ends a i x, rest_ends b (i + size a) x)
rest_ends (sequence a b) i x = grind (arith, rest_ends a i x, rest_ends b (i + size a) x)
rest_ends (star a) i x = grind (arith, rest_ends a i x)

-- the empty path is told by the last positions, and as a beginning by all positions
pub positions_tell_the_empty_path : PositionsTellTheEmptyPath
unfolding remaining
positions_tell_the_empty_path e i marked start = record { whole = simp rest_ends; begun = simp (rest_some, and-true) }
