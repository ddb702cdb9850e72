-- The grammar of scripts as relations between lists of tokens and trees, and the laws that tie the reading to them.
-- Signs by their bytes: ( 40, ) 41, * 42, + 43, - 45, . 46, ; 59, < 60, = 61, { 123, } 125.
use Rattle.std.specs.Prelude.{◌≡◌, ℕ, ◌+◌, ◌-◌, ◌≤◌, Bool, true, false, cond, ◌&&◌, ◌||◌, ◌⊎◌, ◌↔◌, List, [], ◌∷◌, ◌++◌, length, nat_lt}
use Rattle.lexer.specs.Names.{Name}
use Rattle.lexer.specs.Tokens.{Lexeme, name, sign, equals, Tokens, token, ended, broken, is_the_sign}
use Rattle.lexer.specs.Tokens as lexer
use Rattle.lexer.specs.declared.refusal.Reason.{Reason}
use Rattle.lexer.specs.declared.refusal.Reason.TheVariants.{Token, Grammar, Deep, Many}
use Rattle.script.specs.Trees.{Step, plus, minus, times, less, same, Expr, number, access, has, binary, Statement, assign, write, cut, say, branch, loop, Block, done, next}
use Rattle.script.specs.Words.{if_word, else_word, while_word, say_word, cut_word, has_word, plain_word, word_of}
use Rattle.script.specs.Reading.{step_at, opens, name_in, with_variable, plan, start, accepted, refused, read}

-- a token at its place
pub record Placed : Type 0 where
  pub lexeme : Lexeme
  pub place : ℕ

abbrev pub at : ℕ → Lexeme → Placed
at place t = record { lexeme = t; place = place }

-- a variable, or a path: a variable and names after dots
pub data Path : List Placed → Name → List Step → Type 0 where
  variable : (p : ℕ) (n : Name) → word_of n ≡ plain_word → Path (at p (name n) ∷ []) n []
  longer : (ts : List Placed) (v : Name) (ss : List Step) (d p : ℕ) (n : Name) → Path ts v ss → word_of n ≡ plain_word
      → Path (ts ++ (at d (sign 46) ∷ (at p (name n) ∷ []))) v (ss ++ (step_at n p ∷ []))

-- the parts of expressions
pub data Category : Type 0 where
  atoms : Category
  products : Category
  sums : Category
  expressions : Category

-- the tokens are such a part, with this tree
pub data Derives : Category → List Placed → Expr → Type 0 where
  a_number : (p n : ℕ) → Derives atoms (at p (lexer.number n) ∷ []) (number n)
  a_path : (ts : List Placed) (v : Name) (ss : List Step) → Path ts v ss → Derives atoms ts (access v ss)
  a_has : (p : ℕ) (w : Name) (ts : List Placed) (v : Name) (ss : List Step) → word_of w ≡ has_word → Path ts v ss → Derives atoms (at p (name w) ∷ ts) (has v ss)
  a_bracket : (p q : ℕ) (ts : List Placed) (e : Expr) → Derives expressions ts e → Derives atoms (at p (sign 40) ∷ (ts ++ (at q (sign 41) ∷ []))) e
  one_atom : (ts : List Placed) (e : Expr) → Derives atoms ts e → Derives products ts e
  more_atoms : (p : ℕ) (ts us : List Placed) (d e : Expr) → Derives products ts d → Derives atoms us e → Derives products (ts ++ (at p (sign 42) ∷ us)) (binary times p d e)
  one_product : (ts : List Placed) (e : Expr) → Derives products ts e → Derives sums ts e
  added : (p : ℕ) (ts us : List Placed) (d e : Expr) → Derives sums ts d → Derives products us e → Derives sums (ts ++ (at p (sign 43) ∷ us)) (binary plus p d e)
  subtracted : (p : ℕ) (ts us : List Placed) (d e : Expr) → Derives sums ts d → Derives products us e → Derives sums (ts ++ (at p (sign 45) ∷ us)) (binary minus p d e)
  one_sum : (ts : List Placed) (e : Expr) → Derives sums ts e → Derives expressions ts e
  below : (p : ℕ) (ts us : List Placed) (d e : Expr) → Derives sums ts d → Derives sums us e → Derives expressions (ts ++ (at p (sign 60) ∷ us)) (binary less p d e)
  equal : (p : ℕ) (ts us : List Placed) (d e : Expr) → Derives sums ts d → Derives sums us e → Derives expressions (ts ++ (at p equals ∷ us)) (binary same p d e)

-- a block in braces
abbrev pub braced : ℕ → List Placed → ℕ → List Placed
braced p ts q = at p (sign 123) ∷ (ts ++ (at q (sign 125) ∷ []))

mutual
  pub data IsStatement : List Placed → Statement → Type 0 where
    assigns : (p q : ℕ) (ts us : List Placed) (v : Name) (e : Expr) → Path ts v [] → Derives expressions us e
        → IsStatement (ts ++ (at p (sign 61) ∷ (us ++ (at q (sign 59) ∷ [])))) (assign v e)
    writes : (p q : ℕ) (ts us : List Placed) (v : Name) (s : Step) (ss : List Step) (e : Expr) → Path ts v (s ∷ ss) → Derives expressions us e
        → IsStatement (ts ++ (at p (sign 61) ∷ (us ++ (at q (sign 59) ∷ [])))) (write v (s ∷ ss) e)
    cuts : (p q : ℕ) (w : Name) (ts : List Placed) (v : Name) (s : Step) (ss : List Step) → word_of w ≡ cut_word → Path ts v (s ∷ ss)
        → IsStatement (at p (name w) ∷ (ts ++ (at q (sign 59) ∷ []))) (cut v (s ∷ ss))
    says : (p q : ℕ) (w : Name) (ts : List Placed) (e : Expr) → word_of w ≡ say_word → Derives expressions ts e
        → IsStatement (at p (name w) ∷ (ts ++ (at q (sign 59) ∷ []))) (say p e)
    ifs : (p q r : ℕ) (w : Name) (ts us : List Placed) (e : Expr) (b : Block) → word_of w ≡ if_word → Derives expressions ts e → IsBlock us b
        → IsStatement (at p (name w) ∷ (ts ++ braced q us r)) (branch p e b done)
    if_elses : (p q r o q2 r2 : ℕ) (w x : Name) (ts us xs : List Placed) (e : Expr) (b c : Block) → word_of w ≡ if_word → word_of x ≡ else_word
        → Derives expressions ts e → IsBlock us b → IsBlock xs c
        → IsStatement (at p (name w) ∷ (ts ++ (braced q us r ++ (at o (name x) ∷ braced q2 xs r2)))) (branch p e b c)
    whiles : (p q r : ℕ) (w : Name) (ts us : List Placed) (e : Expr) (b : Block) → word_of w ≡ while_word → Derives expressions ts e → IsBlock us b
        → IsStatement (at p (name w) ∷ (ts ++ braced q us r)) (loop p e b)

  -- statements one after the other
  pub data IsBlock : List Placed → Block → Type 0 where
    no_more : IsBlock [] done
    one_more : (ts us : List Placed) (s : Statement) (b : Block) → IsStatement ts s → IsBlock us b → IsBlock (ts ++ us) (next s b)

-- the tokens begin a list that the grammar derives
abbrev pub Beginning : List Placed → Type 0
Beginning ts = (us : List Placed) × (b : Block) × IsBlock (ts ++ us) b

-- the brackets and braces open after one more token
abbrev pub closes : Lexeme → Bool
closes t = is_the_sign 41 t || is_the_sign 125 t

abbrev pub deeper : ℕ → Lexeme → ℕ
deeper deep t = cond (opens t) (deep + 1) (cond (closes t) (deep - 1) deep)

-- and after all tokens
unfoldable pub open_after : ℕ → List Placed → ℕ
open_after deep [] = deep
open_after deep (t ∷ ts) = open_after (deeper deep t.lexeme) ts

-- never are more than 16 open together
unfoldable pub shallow : ℕ → List Placed → Bool
shallow deep [] = true
shallow deep (t ∷ ts) = nat_lt (deeper deep t.lexeme) 17 && shallow (deeper deep t.lexeme) ts

-- the variables of the tokens, after others: the names that are not after a dot, each once. The flag says that the token
-- before is a dot.
unfoldable pub variables_in : Bool → List Name → List Placed → List Name
variables_in dot vs [] = vs
variables_in dot vs (t ∷ ts) = variables_in (is_the_sign 46 t.lexeme) (with_variable vs dot (name_in t.lexeme)) ts

-- the tokens of a text up to its end or to a bad one
unfoldable pub placed_in : Tokens → List Placed
placed_in (token t p ts) = at p t ∷ placed_in ts
placed_in (ended p) = []
placed_in (broken p) = []

-- no token is bad
unfoldable pub unbroken : Tokens → Bool
unbroken (token t p ts) = unbroken ts
unbroken (ended p) = true
unbroken (broken p) = false

-- the limits
pub record WithinLimits (ts : List Placed) : Type 0 where
  pub brackets : shallow 0 ts ≡ true
  pub few : length (variables_in false (plan ∷ []) ts) ≤ 16

-- what a text is that is read as a tree with these variables
pub record WellFormed (ts : Tokens) (b : Block) (vs : List Name) : Type 0 where
  pub tokens : unbroken ts ≡ true
  pub derived : IsBlock (placed_in ts) b
  pub limits : WithinLimits (placed_in ts)
  pub variables : variables_in false (plan ∷ []) (placed_in ts) ≡ vs

-- a text is read as a tree exactly if the grammar derives it with that tree, within the limits
abbrev pub ReadingIsDerivation : Type 0
ReadingIsDerivation = (ts : Tokens) (b : Block) (vs : List Name) → (read (plan ∷ []) start ts ≡ accepted b vs) ↔ WellFormed ts b vs

-- the grammar derives a list of tokens with one tree at most
abbrev pub OneTree : Type 0
OneTree = (ts : List Placed) (a b : Block) → IsBlock ts a → IsBlock ts b → a ≡ b

-- the tokens consist of some, and the rest
pub data Splits : Tokens → List Placed → Tokens → Type 0 where
  here : (rest : Tokens) → Splits rest [] rest
  past : (t : Lexeme) (p : ℕ) (ts rest : Tokens) (ws : List Placed) → Splits ts ws rest → Splits (token t p ts) (at p t ∷ ws) rest

-- why a token is refused that stands after those
abbrev pub Because : List Placed → Placed → Reason → Type 0
Because ws t reason =
    ((reason ≡ Grammar) × (Beginning (ws ++ (t ∷ [])) → ⊥))
    ⊎ (Beginning (ws ++ (t ∷ []))
    × (((reason ≡ Deep) × (opens t.lexeme ≡ true) × (open_after 0 ws ≡ 16))
    ⊎ ((reason ≡ Many) × (length (variables_in false (plan ∷ []) ws) ≡ 16) × (length (variables_in false (plan ∷ []) (ws ++ (t ∷ []))) ≡ 17))))

-- why the rest of the tokens is refused at a place, after those
abbrev pub Wrong : List Placed → Tokens → Reason → ℕ → Type 0
Wrong ws (token t p ts) reason place = (place ≡ p) × Because ws (at p t) reason
Wrong ws (ended p) reason place = (place ≡ p) × (reason ≡ Grammar) × ((b : Block) → IsBlock ws b → ⊥)
Wrong ws (broken p) reason place = (place ≡ p) × (reason ≡ Token)

-- what a refused text is: tokens that begin a list of the grammar, within the limits, and then what is wrong
pub record RefusedRightly (ts : Tokens) (reason : Reason) (place : ℕ) : Type 0 where
  pub ws : List Placed
  pub rest : Tokens
  pub split : Splits ts ws rest
  pub begun : Beginning ws
  pub limits : WithinLimits ws
  pub wrong : Wrong ws rest reason place

abbrev pub RefusalsAreExact : Type 0
RefusalsAreExact = (ts : Tokens) (reason : Reason) (place : ℕ) → read (plan ∷ []) start ts ≡ refused reason place → RefusedRightly ts reason place
