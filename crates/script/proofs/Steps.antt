-- What one token does inside an expression, as a relation, and that it is what advancing there does.
use Rattle.std.proofs.Common.{◌≡◌, ℕ, Bool, true, false, cond, eqb, List, [], ◌∷◌, ◌++◌, IfSome, Some, None, Option, sym, refl, subst}
use Rattle.std.proofs.lemmas.Bool.{eqb-true, cond_both}
use Rattle.lexer.specs.Names.{Name}
use Rattle.lexer.specs.Tokens.{Lexeme, name, sign, equals, end, bad, is_the_sign}
use Rattle.lexer.specs.Tokens as lexer
use Rattle.script.specs.Trees.{Step, Operator, plus, minus, times, less, same, Expr, number}
use Rattle.script.specs.Words.{Word, if_word, else_word, while_word, say_word, cut_word, has_word, plain_word, word_of}
use Rattle.script.specs.Reading.{Pending, Level, blank, joined, whole, after_times, after_term, Spot, wanting, asked, named, dotted, held, atom, operand, Inner, inner, step_at, with_name, with_has, with_number, open_bracket, close_bracket, with_dot, at_level, with_operator, compare, inner_word, inner_advance}

-- what waits for its right side
abbrev pub pending : Operator → ℕ → Expr → Pending
pending o p e = record { operator = o; place = p; left = e }

-- inside a bracket
abbrev pub level : Option Pending → Option Pending → Option Pending → Level
level c s m = record { compared = c; summed = s; multiplied = m }

-- an atom stands last here, with this tree
pub data Holds : Spot → Expr → Type 0 where
  by_path : {h : Bool} {v : Name} {ss : List Step} → Holds (named h v ss) (atom h v ss)
  by_value : {e : Expr} → Holds (held e) e

-- the tokens between terms
pub data Adds : Lexeme → Operator → Type 0 where
  by_plus : Adds (sign 43) plus
  by_minus : Adds (sign 45) minus

-- the tokens between the sides of a comparison
pub data Compares : Lexeme → Operator → Type 0 where
  by_less : Compares (sign 60) less
  by_same : Compares equals same

-- where a path begins, by whether has stands before
abbrev pub asking : Bool → Spot
asking true = asked
asking false = wanting

-- what a token does
pub data Steps : Lexeme → ℕ → Inner → Inner → Type 0 where
  path_begins : {n : Name} {p : ℕ} {o : List Level} {l : Level} (h : Bool) → word_of n ≡ plain_word → Steps (name n) p (inner o l (asking h)) (inner o l (named h n []))
  path_grows : {n v : Name} {p : ℕ} {o : List Level} {l : Level} {h : Bool} {ss : List Step} → word_of n ≡ plain_word → Steps (name n) p (inner o l (dotted h v ss)) (inner o l (named h v (ss ++ (step_at n p ∷ []))))
  dot_comes : {v : Name} {p : ℕ} {o : List Level} {l : Level} {h : Bool} {ss : List Step} → Steps (sign 46) p (inner o l (named h v ss)) (inner o l (dotted h v ss))
  has_comes : {n : Name} {p : ℕ} {o : List Level} {l : Level} → word_of n ≡ has_word → Steps (name n) p (inner o l wanting) (inner o l asked)
  number_comes : {n p : ℕ} {o : List Level} {l : Level} → Steps (lexer.number n) p (inner o l wanting) (inner o l (held (number n)))
  bracket_opens : {p : ℕ} {o : List Level} {l : Level} → Steps (sign 40) p (inner o l wanting) (inner (l ∷ o) blank wanting)
  bracket_closes : {p : ℕ} {o : List Level} {l m : Level} {k : Spot} {e : Expr} → Holds k e → Steps (sign 41) p (inner (l ∷ o) m k) (inner o l (held (whole m e)))
  times_comes : {p : ℕ} {o : List Level} {c s m : Option Pending} {k : Spot} {e : Expr} → Holds k e → Steps (sign 42) p (inner o (level c s m) k) (inner o (level c s (Some (pending times p (joined m e)))) wanting)
  term_comes : {t : Lexeme} {by : Operator} {p : ℕ} {o : List Level} {c s m : Option Pending} {k : Spot} {e : Expr} → Adds t by → Holds k e → Steps t p (inner o (level c s m) k) (inner o (level c (Some (pending by p (joined s (joined m e)))) None) wanting)
  side_comes : {t : Lexeme} {by : Operator} {p : ℕ} {o : List Level} {s m : Option Pending} {k : Spot} {e : Expr} → Compares t by → Holds k e → Steps t p (inner o (level None s m) k) (inner o (level (Some (pending by p (joined s (joined m e)))) None None) wanting)

-- an atom that stands last is the one found
pub holds_operand : {k : Spot} {e : Expr} → Holds k e → operand k ≡ Some e
holds_operand by_path = refl
holds_operand by_value = refl

-- a step is what advancing does, and its token ends no expression
pub step_advances : {t : Lexeme} {p : ℕ} {i j : Inner} → Steps t p i j → (inner_advance t p i ≡ Some j) × (is_the_sign 59 t ≡ false) × (is_the_sign 123 t ≡ false)
unfolding inner_advance
step_advances (path_begins true w) = (rw w refl, refl, refl)
step_advances (path_begins false w) = (rw w refl, refl, refl)
step_advances (path_grows w) = (rw w refl, refl, refl)
step_advances dot_comes = (refl, refl, refl)
step_advances (has_comes w) = (rw w refl, refl, refl)
step_advances number_comes = (refl, refl, refl)
step_advances bracket_opens = (refl, refl, refl)
step_advances (bracket_closes h) = (rw (holds_operand h) refl, refl, refl)
step_advances (times_comes h) = (rw (holds_operand h) refl, refl, refl)
step_advances (term_comes by_plus h) = (rw (holds_operand h) refl, refl, refl)
step_advances (term_comes by_minus h) = (rw (holds_operand h) refl, refl, refl)
step_advances (side_comes by_less h) = (rw (holds_operand h) refl, refl, refl)
step_advances (side_comes by_same h) = (rw (holds_operand h) refl, refl, refl)

-- by whether a token is the sign asked for
pub by_sign : {A : Type 0} (P : Lexeme → Option A → Type 0) (k : ℕ) (t : Lexeme) (x y : Option A) → P (sign k) x → P t y → P t (cond (is_the_sign k t) x y)
by_sign P k (name n) x y this other = other
by_sign P k (lexer.number n) x y this other = other
by_sign P k (sign b) x y this other = cond_both (eqb b k) x y (P (sign b)) (λ is. subst (λ n. P (sign n) x) (sym (eqb-true b k is)) this) (λ _. other)
by_sign P k equals x y this other = other
by_sign P k end x y this other = other
by_sign P k bad x y this other = other

-- the place in an expression after a token, if there is one, is one that a step reaches
abbrev pub Stepped : ℕ → Inner → Lexeme → Option Inner → Type 0
Stepped p i t o = IfSome o (Steps t p i)

-- each thing that can come in an expression, by where it comes
module _ (p : ℕ) (o : List Level) (l : Level) where
  -- a name
  name_steps : (n : Name) (k : Spot) → word_of n ≡ plain_word → Stepped p (inner o l k) (name n) (with_name n p (inner o l k) k)
  name_steps n wanting w = path_begins false w
  name_steps n asked w = path_begins true w
  name_steps n (named h v ss) w = tt
  name_steps n (dotted h v ss) w = path_grows w
  name_steps n (held e) w = tt

  -- has
  has_steps : (n : Name) (k : Spot) → word_of n ≡ has_word → Stepped p (inner o l k) (name n) (with_has (inner o l k) k)
  has_steps n wanting w = has_comes w
  has_steps n asked w = tt
  has_steps n (named h v ss) w = tt
  has_steps n (dotted h v ss) w = tt
  has_steps n (held e) w = tt

  -- a word
  word_steps : (n : Name) (k : Spot) (w : Word) → word_of n ≡ w → Stepped p (inner o l k) (name n) (inner_word w n p (inner o l k))
  word_steps n k if_word is = tt
  word_steps n k else_word is = tt
  word_steps n k while_word is = tt
  word_steps n k say_word is = tt
  word_steps n k cut_word is = tt
  word_steps n k has_word is = has_steps n k is
  word_steps n k plain_word is = name_steps n k is

  -- a number
  number_steps : (n : ℕ) (k : Spot) → Stepped p (inner o l k) (lexer.number n) (with_number n (inner o l k) k)
  number_steps n wanting = number_comes
  number_steps n asked = tt
  number_steps n (named h v ss) = tt
  number_steps n (dotted h v ss) = tt
  number_steps n (held e) = tt

  -- `(`
  open_steps : (k : Spot) → Stepped p (inner o l k) (sign 40) (open_bracket (inner o l k) k)
  open_steps wanting = bracket_opens
  open_steps asked = tt
  open_steps (named h v ss) = tt
  open_steps (dotted h v ss) = tt
  open_steps (held e) = tt

  -- `.`
  dot_steps : (k : Spot) → Stepped p (inner o l k) (sign 46) (with_dot (inner o l k) k)
  dot_steps wanting = tt
  dot_steps asked = tt
  dot_steps (named h v ss) = dot_comes
  dot_steps (dotted h v ss) = tt
  dot_steps (held e) = tt

  -- an operator
  operator_steps : (t : Lexeme) (k : Spot) (after : Level → Expr → Option Level) → ((e : Expr) → Holds k e → Stepped p (inner o l k) t (at_level (inner o l k) (after l e))) → Stepped p (inner o l k) t (with_operator after (inner o l k) (operand k))
  operator_steps t wanting after step = tt
  operator_steps t asked after step = tt
  operator_steps t (named h v ss) after step = step _ by_path
  operator_steps t (dotted h v ss) after step = tt
  operator_steps t (held e) after step = step e by_value

-- `)` comes where a bracket is open
close_steps : (p : ℕ) (o : List Level) (l : Level) (k : Spot) → Stepped p (inner o l k) (sign 41) (close_bracket (inner o l k) o (operand k))
close_steps p o l wanting = tt
close_steps p o l asked = tt
close_steps p [] l (named h v ss) = tt
close_steps p (m ∷ o) l (named h v ss) = bracket_closes by_path
close_steps p o l (dotted h v ss) = tt
close_steps p [] l (held e) = tt
close_steps p (m ∷ o) l (held e) = bracket_closes by_value

-- a comparison comes once at most
side_steps : {t : Lexeme} {by : Operator} (p : ℕ) (o : List Level) (c s m : Option Pending) {k : Spot} (e : Expr) → Compares t by → Holds k e → Stepped p (inner o (level c s m) k) t (at_level (inner o (level c s m) k) (compare by p (level c s m) e))
side_steps p o None s m e by h = side_comes by h
side_steps p o (Some x) s m e by h = tt

-- what advancing does in an expression is a step
pub token_steps : (t : Lexeme) (p : ℕ) (o : List Level) (c s m : Option Pending) (k : Spot) → Stepped p (inner o (level c s m) k) t (inner_advance t p (inner o (level c s m) k))
unfolding inner_advance
token_steps (name n) p o c s m k = word_steps p o (level c s m) n k (word_of n) refl
token_steps (lexer.number n) p o c s m k = number_steps p o (level c s m) n k
token_steps (sign b) p o c s m k =
    let l = level c s m in
    let P = Stepped p (inner o l k) in
    by_sign P 40 (sign b) _ _ (open_steps p o l k)
    (by_sign P 41 (sign b) _ _ (close_steps p o l k)
    (by_sign P 46 (sign b) _ _ (dot_steps p o l k)
    (by_sign P 42 (sign b) _ _ (operator_steps p o l (sign 42) k (after_times p) (λ _. times_comes))
    (by_sign P 43 (sign b) _ _ (operator_steps p o l (sign 43) k (after_term plus p) (λ _. term_comes by_plus))
    (by_sign P 45 (sign b) _ _ (operator_steps p o l (sign 45) k (after_term minus p) (λ _. term_comes by_minus))
    (by_sign P 60 (sign b) _ _ (operator_steps p o l (sign 60) k (compare less p) (λ e. side_steps p o c s m e by_less)) tt))))))
token_steps equals p o c s m k = operator_steps p o (level c s m) equals k (compare same p) (λ e. side_steps p o c s m e by_same)
token_steps end p o c s m k = tt
token_steps bad p o c s m k = tt
