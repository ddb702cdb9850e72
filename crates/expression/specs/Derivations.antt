-- The grammar of path expressions as a relation between lists of tokens and trees, and the laws that tie the reading to it.
use Rattle.std.specs.Prelude.{◌≡◌, ℕ, ◌+◌, ◌-◌, ◌≤◌, Bool, true, false, cond, ◌&&◌, ◌⊎◌, ◌↔◌, List, [], ◌∷◌, ◌++◌, ◌==◌, nat_lt}
use Rattle.lexer.specs.Tokens.{Lexeme, name, number, sign, equals, end, bad, Tokens, token, ended, broken}
use Rattle.lexer.specs.declared.refusal.Reason.{Reason}
use Rattle.lexer.specs.declared.refusal.Reason.TheVariants.{Token, Grammar, Deep, Many}
use Rattle.expression.specs.Expressions.{any, named, Expr, empty, letter, alternative, sequence, star}
use Rattle.expression.specs.Reading.{weight, opens, start, accepted, refused, read}

-- the parts of the grammar
pub data Category : Type 0 where
  alternatives : Category
  sequences : Category
  items : Category
  bases : Category

-- the tokens are a part of this category, with this tree: ? is 63, ( is 40, ) is 41, * is 42, . is 46, | is 124
pub data Derives : Category → List Lexeme → Expr → Type 0 where
  a_name : (n : List ℕ) → Derives bases (name n ∷ []) (letter (named n))
  any_name : Derives bases (sign 63 ∷ []) (letter any)
  nothing : Derives bases (sign 40 ∷ (sign 41 ∷ [])) empty
  bracket : (ts : List Lexeme) (e : Expr) → Derives alternatives ts e → Derives bases (sign 40 ∷ (ts ++ (sign 41 ∷ []))) e
  once : (ts : List Lexeme) (e : Expr) → Derives bases ts e → Derives items ts e
  repeated : (ts : List Lexeme) (e : Expr) → Derives bases ts e → Derives items (ts ++ (sign 42 ∷ [])) (star e)
  one_item : (ts : List Lexeme) (e : Expr) → Derives items ts e → Derives sequences ts e
  more_items : (ts us : List Lexeme) (d e : Expr) → Derives sequences ts d → Derives items us e → Derives sequences (ts ++ (sign 46 ∷ us)) (sequence d e)
  one_sequence : (ts : List Lexeme) (e : Expr) → Derives sequences ts e → Derives alternatives ts e
  more_sequences : (ts us : List Lexeme) (d e : Expr) → Derives alternatives ts d → Derives sequences us e → Derives alternatives (ts ++ (sign 124 ∷ us)) (alternative d e)

-- the tokens begin a list that the grammar derives
abbrev pub Beginning : List Lexeme → Type 0
Beginning ts = (us : List Lexeme) × (e : Expr) × Derives alternatives (ts ++ us) e

-- how many letters
unfoldable pub letters_in : List Lexeme → ℕ
letters_in [] = 0
letters_in (t ∷ ts) = weight t + letters_in ts

abbrev pub closes : Lexeme → Bool
closes (name n) = false
closes (number n) = false
closes (sign b) = b == 41
closes equals = false
closes end = false
closes bad = false

-- the brackets open after one more token
abbrev pub deeper : ℕ → Lexeme → ℕ
deeper depth t = cond (opens t) (depth + 1) (cond (closes t) (depth - 1) depth)

-- the brackets open after the tokens
unfoldable pub open_after : ℕ → List Lexeme → ℕ
open_after depth [] = depth
open_after depth (t ∷ ts) = open_after (deeper depth t) ts

-- never are more than 16 brackets open together
unfoldable pub shallow : ℕ → List Lexeme → Bool
shallow depth [] = true
shallow depth (t ∷ ts) = nat_lt (deeper depth t) 17 && shallow (deeper depth t) ts

-- the tokens of a text up to its end or to a bad one
unfoldable pub lexemes_in : Tokens → List Lexeme
lexemes_in (token t at ts) = t ∷ lexemes_in ts
lexemes_in (ended at) = []
lexemes_in (broken at) = []

-- no token is bad
unfoldable pub unbroken : Tokens → Bool
unbroken (token t at ts) = unbroken ts
unbroken (ended at) = true
unbroken (broken at) = false

-- the limits, with so many letters read before
pub record WithinLimits (letters : ℕ) (ts : List Lexeme) : Type 0 where
  pub brackets : shallow 0 ts ≡ true
  pub few : letters + letters_in ts ≤ 62

-- what a text is that is read as a tree, with so many letters read by its end
pub record WellFormed (letters : ℕ) (ts : Tokens) (e : Expr) (total : ℕ) : Type 0 where
  pub tokens : unbroken ts ≡ true
  pub derived : Derives alternatives (lexemes_in ts) e
  pub limits : WithinLimits letters (lexemes_in ts)
  pub count : letters + letters_in (lexemes_in ts) ≡ total

-- a text is read as a tree exactly if the grammar derives it with that tree, within the limits
abbrev pub ReadingIsDerivation : Type 0
ReadingIsDerivation =
    (letters : ℕ) (ts : Tokens) (e : Expr) (total : ℕ) → letters ≤ 62
    → (read letters start ts ≡ accepted e total) ↔ WellFormed letters ts e total

-- the grammar derives a list of tokens with one tree at most
abbrev pub OneTree : Type 0
OneTree = (ts : List Lexeme) (d e : Expr) → Derives alternatives ts d → Derives alternatives ts e → d ≡ e

-- the tokens consist of some lexemes and the rest
pub data Splits : Tokens → List Lexeme → Tokens → Type 0 where
  here : (rest : Tokens) → Splits rest [] rest
  past : (t : Lexeme) (at : ℕ) (ts rest : Tokens) (ws : List Lexeme) → Splits ts ws rest → Splits (token t at ts) (t ∷ ws) rest

-- why a token is refused that stands after those lexemes
abbrev pub Because : ℕ → List Lexeme → Lexeme → Reason → Type 0
Because letters ws t reason =
    ((reason ≡ Grammar) × (Beginning (ws ++ (t ∷ [])) → ⊥))
    ⊎ (Beginning (ws ++ (t ∷ []))
    × (((reason ≡ Deep) × (opens t ≡ true) × (open_after 0 ws ≡ 16))
    ⊎ ((reason ≡ Many) × (weight t ≡ 1) × (letters + letters_in ws ≡ 62))))

-- why the rest of the tokens is refused at a place, after those lexemes
abbrev pub Wrong : ℕ → List Lexeme → Tokens → Reason → ℕ → Type 0
Wrong letters ws (token t at ts) reason place = (place ≡ at) × Because letters ws t reason
Wrong letters ws (ended at) reason place = (place ≡ at) × (reason ≡ Grammar) × ((e : Expr) → Derives alternatives ws e → ⊥)
Wrong letters ws (broken at) reason place = (place ≡ at) × (reason ≡ Token)

-- what a refused text is: lexemes that begin a list of the grammar, within the limits, and then what is wrong
pub record RefusedRightly (letters : ℕ) (ts : Tokens) (reason : Reason) (place : ℕ) : Type 0 where
  pub ws : List Lexeme
  pub rest : Tokens
  pub split : Splits ts ws rest
  pub begun : Beginning ws
  pub limits : WithinLimits letters ws
  pub wrong : Wrong letters ws rest reason place

abbrev pub RefusalsAreExact : Type 0
RefusalsAreExact =
    (letters : ℕ) (ts : Tokens) (reason : Reason) (place : ℕ) → letters ≤ 62
    → read letters start ts ≡ refused reason place → RefusedRightly letters ts reason place
