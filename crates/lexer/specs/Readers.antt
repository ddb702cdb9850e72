-- What a reader means: its text, the place where it stands, and the language of the text.
use Rattle.std.specs.Prelude.{◌≡◌, ℕ, ◌-◌, ◌<◌, Bool, true, false, List, length}
use Rattle.lexer.specs.Tokens.{Lexeme, lex, Tokens, tokens, is_the_sign}
use Rattle.lexer.specs.declared.reader.Reader.{Reader}
use Rattle.lexer.specs.declared.token.Language.{Language}

abbrev pub text_of : Reader → List ℕ
text_of r = r.text.now

abbrev pub place_of : Reader → ℕ
place_of r = r.at

abbrev pub language_of : Reader → Language
language_of r = r.language

-- the tokens that a reader has still to pass; the first of them, its place, and the place after it; the bytes to pass
abbrev pub tokens_from : Reader → Tokens
tokens_from r = tokens (language_of r) (text_of r) (place_of r)

abbrev pub next_of : Reader → Lexeme
next_of r = (lex (language_of r) (text_of r) (place_of r)).lexeme

abbrev pub next_place : Reader → ℕ
next_place r = (lex (language_of r) (text_of r) (place_of r)).start

abbrev pub past_next : Reader → ℕ
past_next r = (lex (language_of r) (text_of r) (place_of r)).stop

abbrev pub unread : Reader → ℕ
unread r = length (text_of r) - place_of r

-- a reader that stands at a place of the same text
pub record Moved (r s : Reader) (at : ℕ) : Type 0 where
  pub text : text_of s ≡ text_of r
  pub place : place_of s ≡ at
  pub language : language_of s ≡ language_of r

-- a reader passes the next token if it is this sign
abbrev pub Accepted : ℕ → Reader → Reader → Bool → Type 0
Accepted c r s true = (is_the_sign c (next_of r) ≡ true) × Moved r s (past_next r) × (place_of r < place_of s)
Accepted c r s false = (is_the_sign c (next_of r) ≡ false) × Moved r s (place_of r)
