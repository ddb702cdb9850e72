-- The tokens of a text. A token begins at the first byte that is no blank; a name, a number and `==` are as long as they
-- can be. A bad token has no end: it stays where it begins.
use Rattle.std.specs.Prelude.{◌≡◌, ℕ, zero, suc, ◌+◌, ◌-◌, ◌*◌, ◌<◌, ◌≤◌, Bool, true, false, cond, not, ◌&&◌, List, [], ◌∷◌, length, take, drop, fold, ◌==◌, nat_le, slice_index, slice_range}
use Rattle.std.specs.List.{prefix_len}
use Rattle.lexer.specs.Classes.{class_of, classed, among, letters_or_digits, digits, blanks}
use Rattle.lexer.specs.declared.class.Class.{Class}
use Rattle.lexer.specs.declared.class.Class.TheVariants.{Other, Blank, Letter, Digit, Sign as Signs}
use Rattle.lexer.specs.Names.{lawful}
use Rattle.lexer.specs.declared.refusal.Reason.{Reason}
use Rattle.lexer.specs.declared.refusal.Reason.TheVariants.{Grammar, Token as unlawful}
use Rattle.lexer.specs.declared.token.Language.{Language}
use Rattle.lexer.specs.declared.token.Language.TheVariants.{Script, PathExpression}
use Rattle.lexer.specs.declared.token.Token.{Token}
use Rattle.lexer.specs.declared.token.Token.TheVariants.{Name, Number, Sign, Equals, End, Bad}
use Rattle.lexer.specs.declared.token.Placed.{Placed}

pub data Lexeme : Type 0 where
  name : List ℕ → Lexeme
  number : ℕ → Lexeme
  sign : ℕ → Lexeme
  equals : Lexeme
  end : Lexeme
  bad : Lexeme

pub record Lexed : Type 0 where
  pub lexeme : Lexeme
  pub start : ℕ
  pub stop : ℕ

abbrev pub lexed : Lexeme → ℕ → ℕ → Lexed
lexed t start stop = record { lexeme = t; start = start; stop = stop }

-- the value of a row of digits
abbrev pub decimal : List ℕ → ℕ
decimal ds = fold (λ n d. n * 10 + (d - 48)) 0 ds

-- the signs that start a token: in scripts all but | and ?, in path expressions . | * ? ( )
abbrev pub starts : Language → ℕ → Bool
starts Script b = not (among (124 ∷ 63 ∷ []) b)
starts PathExpression b = among (46 ∷ 124 ∷ 42 ∷ 63 ∷ 40 ∷ 41 ∷ []) b

-- numbers are tokens of scripts alone
abbrev pub numbers : Language → Bool
numbers Script = true
numbers PathExpression = false

-- n letters and digits from a place on: a name has at most 24
abbrev pub named : ℕ → ℕ → List ℕ → Lexed
named at n bs = cond (nat_le n 24) (lexed (name (take n bs)) at (at + n)) (lexed bad at at)

-- n digits from a place on: a number is at most 2,147,483,647
abbrev pub numbered : ℕ → ℕ → List ℕ → Lexed
numbered at n bs =
    cond (nat_le (decimal (take n bs)) 2147483647) (lexed (number (decimal (take n bs))) at (at + n)) (lexed bad at at)

-- the sign b, with the bytes after it
abbrev pub signed : ℕ → ℕ → List ℕ → Lexed
signed at b bs = cond (b == 61 && slice_index bs 0 == 61) (lexed equals at (at + 2)) (lexed (sign b) at (at + 1))

-- by the class of the first byte
abbrev pub by_class : Language → Class → ℕ → ℕ → List ℕ → Lexed
by_class l Letter at b bs = named at (prefix_len (classed letters_or_digits) (b ∷ bs)) (b ∷ bs)
by_class l Digit at b bs = cond (numbers l) (numbered at (prefix_len (classed digits) (b ∷ bs)) (b ∷ bs)) (lexed bad at at)
by_class l Signs at b bs = cond (starts l b) (signed at b bs) (lexed bad at at)
by_class l Blank at b bs = lexed bad at at
by_class l Other at b bs = lexed bad at at

-- the token at the front of a list of bytes that begins at a place
abbrev pub front : Language → ℕ → List ℕ → Lexed
front l at [] = lexed end at at
front l at (b ∷ bs) = by_class l (class_of b) at b bs

-- the first place from `at` on with no blank
abbrev pub past_blanks : List ℕ → ℕ → ℕ
past_blanks text at = at + prefix_len (classed blanks) (drop at text)

-- the token that a reader finds that stands at a place
unfoldable pub lex : Language → List ℕ → ℕ → Lexed
lex l text at = front l (past_blanks text at) (drop (past_blanks text at) text)

-- whether a token is the sign with this byte
abbrev pub is_the_sign : ℕ → Lexeme → Bool
is_the_sign c (name s) = false
is_the_sign c (number n) = false
is_the_sign c (sign b) = b == c
is_the_sign c equals = false
is_the_sign c end = false
is_the_sign c bad = false

-- why a token is refused that cannot come where it stands
abbrev pub reason_at : Lexeme → Reason
reason_at (name s) = Grammar
reason_at (number n) = Grammar
reason_at (sign b) = Grammar
reason_at equals = Grammar
reason_at end = Grammar
reason_at bad = unlawful

-- what the code's tokens stand for
abbrev pub lexeme_of : Token → Lexeme
lexeme_of (Name s) = name s.now
lexeme_of (Number s n) = number n
lexeme_of (Sign b) = sign b
lexeme_of Equals = equals
lexeme_of End = end
lexeme_of Bad = bad

abbrev pub lexed_of : Placed → Lexed
lexed_of p = lexed (lexeme_of p.token) p.start p.stop

-- the bytes of a text from one place to another
abbrev pub part : List ℕ → ℕ → ℕ → List ℕ
part text start stop = slice_range text start stop

-- a token takes a byte at least, a name is lawful, and a name and a number hold their part of the text
abbrev pub Spans : Token → List ℕ → ℕ → ℕ → Type 0
Spans (Name s) text start stop = (start < stop) × (s.now ≡ part text start stop) × (lawful s.now ≡ true)
Spans (Number s n) text start stop = (start < stop) × (s.now ≡ part text start stop)
Spans (Sign b) text start stop = start < stop
Spans Equals text start stop = start < stop
Spans End text start stop = Unit {0}
Spans Bad text start stop = Unit {0}

-- where a token lies that was found from a place of a text on
pub record Lies (text : List ℕ) (at : ℕ) (p : Placed) : Type 0 where
  pub after : at ≤ p.start
  pub ordered : p.start ≤ p.stop
  pub within : p.stop ≤ length text
  pub spans : Spans p.token text p.start p.stop

-- all tokens of a text, each with its place, up to the end of the text or to a bad token
pub data Tokens : Type 0 where
  token : Lexeme → ℕ → Tokens → Tokens
  ended : ℕ → Tokens
  broken : ℕ → Tokens

-- a token at a place, before the others
abbrev pub then : Lexeme → ℕ → Tokens → Tokens
then (name s) at ts = token (name s) at ts
then (number n) at ts = token (number n) at ts
then (sign b) at ts = token (sign b) at ts
then equals at ts = token equals at ts
then end at ts = ended at
then bad at ts = broken at

-- the first n tokens from a place on, as though the text ended after them
unfoldable pub tokens_within : ℕ → Language → List ℕ → ℕ → Tokens
tokens_within zero l text at = ended at
tokens_within (suc n) l text at = then (lex l text at).lexeme (lex l text at).start (tokens_within n l text (lex l text at).stop)

-- the tokens from a place on: there are no more of them than bytes
unfoldable pub tokens : Language → List ℕ → ℕ → Tokens
tokens l text at = tokens_within (suc (length text - at)) l text at

-- the tokens from a place on are the next one and those after it, up to the end of the text or a bad token
abbrev pub TokensGoOn : Type 0
TokensGoOn =
    (l : Language) (text : List ℕ) (at : ℕ) → at ≤ length text
    → tokens l text at ≡ then (lex l text at).lexeme (lex l text at).start (tokens l text (lex l text at).stop)
