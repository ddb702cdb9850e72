-- The position automaton of a path expression. Its letters are numbered from left to right, from a number i on; each is a
-- position. Which positions can come first, come last, and follow one another is told by the tree alone.
use Rattle.std.specs.Prelude.{◌≡◌, ℕ, zero, suc, ◌+◌, ◌≤◌, Bool, false, cond, ◌&&◌, ◌||◌, [], ◌∷◌, is_some, Some, None, Option, ◌==◌, nat_le, nat_lt}
use Rattle.lexer.specs.Names.{Name, Path}
use Rattle.expression.specs.Expressions.{Letter, Expr, empty, letter, alternative, sequence, star, fits}
use Rattle.expression.specs.Languages.{nullable, union, before, remaining, ends}

-- how many letters
unfoldable pub size : Expr → ℕ
size empty = 0
size (letter l) = 1
size (alternative a b) = size a + size b
size (sequence a b) = size a + size b
size (star a) = size a

-- the position x can come first
unfoldable pub first : Expr → ℕ → ℕ → Bool
first empty i x = false
first (letter l) i x = x == i
first (alternative a b) i x = first a i x || first b (i + size a) x
first (sequence a b) i x = first a i x || (nullable a && first b (i + size a) x)
first (star a) i x = first a i x

-- the position x can come last
unfoldable pub last : Expr → ℕ → ℕ → Bool
last empty i x = false
last (letter l) i x = x == i
last (alternative a b) i x = last a i x || last b (i + size a) x
last (sequence a b) i x = last b (i + size a) x || (nullable b && last a i x)
last (star a) i x = last a i x

-- the position y can come right after the position x
unfoldable pub follow : Expr → ℕ → ℕ → ℕ → Bool
follow empty i x y = false
follow (letter l) i x y = false
follow (alternative a b) i x y = follow a i x y || follow b (i + size a) x y
follow (sequence a b) i x y = follow a i x y || (follow b (i + size a) x y || (last a i x && first b (i + size a) y))
follow (star a) i x y = follow a i x y || (last a i x && first a i y)

-- what may still come after the position x; None where x is no position of the tree
unfoldable pub rest : Expr → ℕ → ℕ → Option Expr
rest empty i x = None
rest (letter l) i x = cond (x == i) (Some empty) None
rest (alternative a b) i x = union (rest a i x) (rest b (i + size a) x)
rest (sequence a b) i x = union (before (rest a i x) b) (rest b (i + size a) x)
rest (star a) i x = before (rest a i x) (star a)

-- the letters of the tree are those that f gives to its positions
abbrev pub Labelled : (ℕ → Letter) → Expr → ℕ → Type 0
Labelled f empty i = Unit {0}
Labelled f (letter l) i = f i ≡ l
Labelled f (alternative a b) i = Labelled f a i × Labelled f b (i + size a)
Labelled f (sequence a b) i = Labelled f a i × Labelled f b (i + size a)
Labelled f (star a) i = Labelled f a i

-- some number below n passes
unfoldable pub some : ℕ → (ℕ → Bool) → Bool
some zero f = false
some (suc n) f = some n f || f n

-- the paths that a set of positions leaves, by a way to tell a path: those after a marked position, and all where the
-- start is marked
abbrev pub left_by : (Option Expr → Path → Bool) → Expr → ℕ → (ℕ → Bool) → Bool → Path → Bool
left_by tells e i marked start q = some 62 (λ x. marked x && tells (rest e i x) q) || (start && tells (Some e) q)

-- whole paths, and beginnings of paths
abbrev pub whole_path : Option Expr → Path → Bool
whole_path x q = ends (remaining x q)

abbrev pub beginning : Option Expr → Path → Bool
beginning x q = is_some (remaining x q)

-- the positions reached by a name from a set of positions, and from the start where it is marked
abbrev pub reached : (ℕ → Letter) → Expr → ℕ → (ℕ → Bool) → Bool → Name → ℕ → Bool
reached f e i marked start p y = fits (f y) p && (some 62 (λ x. marked x && follow e i x y) || (start && first e i y))

-- one step of the automaton is the left quotient, of whole paths and of beginnings
pub record Quotient (f : ℕ → Letter) (e : Expr) (i : ℕ) (marked : ℕ → Bool) (start : Bool) (p : Name) (q : Path) : Type 0 where
  pub whole : left_by whole_path e i (reached f e i marked start p) false q ≡ left_by whole_path e i marked start (p ∷ q)
  pub begun : left_by beginning e i (reached f e i marked start p) false q ≡ left_by beginning e i marked start (p ∷ q)

abbrev pub StepsAreQuotients : Type 0
StepsAreQuotients =
    (f : ℕ → Letter) (e : Expr) (i : ℕ) → Labelled f e i → i + size e ≤ 62
    → (marked : ℕ → Bool) (start : Bool) (p : Name) (q : Path) → Quotient f e i marked start p q

-- the empty path is left where a last position is marked, or the start of a nullable expression; it begins a path where
-- any position of the tree is marked, or the start
pub record EmptyPath (e : Expr) (i : ℕ) (marked : ℕ → Bool) (start : Bool) : Type 0 where
  pub whole : left_by whole_path e i marked start [] ≡ (some 62 (λ x. marked x && last e i x) || (start && nullable e))
  pub begun : left_by beginning e i marked start [] ≡ (some 62 (λ x. marked x && (nat_le i x && nat_lt x (i + size e))) || start)

abbrev pub PositionsTellTheEmptyPath : Type 0
PositionsTellTheEmptyPath =
    (e : Expr) (i : ℕ) (marked : ℕ → Bool) (start : Bool) → EmptyPath e i marked start
