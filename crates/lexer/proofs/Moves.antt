-- Readers that passed a token or stayed where they were.
use Rattle.std.proofs.Common.{◌≡◌, ℕ, true, ap, ◌∙◌, arith}
use Rattle.std.proofs.lemmas.Bool.{eqb-true}
use Rattle.lexer.specs.Readers.{text_of, place_of, language_of, tokens_from, next_of, next_place, past_next, Moved}
use Rattle.lexer.specs.Tokens.{Lexeme, name, number, sign, equals, end, bad, is_the_sign, lex, lexed_of, tokens}
use Rattle.lexer.specs.declared.reader.Reader.{Reader}
use Rattle.lexer.specs.declared.token.Placed.{Placed}

-- the tokens of a reader that moved
pub moved_tokens : {r q : Reader} {at : ℕ} → Moved r q at → tokens_from q ≡ tokens (language_of r) (text_of r) at
moved_tokens m = λ i. tokens (m.language i) (m.text i) (m.place i)

-- a reader that took its next token stands after it
pub taken : {r q : Reader} (p : Placed) → lexed_of p ≡ lex (language_of r) (text_of r) (place_of r) → Moved r q p.stop → Moved r q (past_next r)
taken p is m = record { text = m.text; place = m.place ∙ ap (λ x. x.stop) is; language = m.language }

-- a reader that stayed where it was has the same next token
pub moved_next : {r q : Reader} → Moved r q (place_of r) → next_of q ≡ next_of r
moved_next m = λ i. (lex (m.language i) (m.text i) (m.place i)).lexeme

pub moved_place : {r q : Reader} → Moved r q (place_of r) → next_place q ≡ next_place r
moved_place m = λ i. (lex (m.language i) (m.text i) (m.place i)).start

-- a token that is the sign
pub sign_is : (b : ℕ) (t : Lexeme) → is_the_sign b t ≡ true → t ≡ sign b
sign_is b (name s) h = let z : ◌≡◌ {A = ℕ} 0 1 = cc in absurd (omega arith)
sign_is b (number n) h = let z : ◌≡◌ {A = ℕ} 0 1 = cc in absurd (omega arith)
sign_is b (sign c) h = ap sign (eqb-true c b h)
sign_is b equals h = let z : ◌≡◌ {A = ℕ} 0 1 = cc in absurd (omega arith)
sign_is b end h = let z : ◌≡◌ {A = ℕ} 0 1 = cc in absurd (omega arith)
sign_is b bad h = let z : ◌≡◌ {A = ℕ} 0 1 = cc in absurd (omega arith)
