-- A whole text: what `read_text` gives, from what the parser's functions and the token after them say.
use Rattle.std.proofs.Common.{◌≡◌, ℕ, List, [], ◌++◌, length, None, Ok, Err, sym, refl, ap, ◌∙◌, arith}
use Rattle.lexer.specs.Readers.{text_of, place_of, language_of, tokens_from, next_of, next_place, past_next}
use Rattle.lexer.specs.Tokens.{Lexeme, name, number, sign, equals, end, bad, lex, lexed_of, lexeme_of, Tokens, then, tokens, reason_at}
use Rattle.lexer.specs.declared.reader.Reader.{Reader}
use Rattle.lexer.specs.declared.refusal.Refusal.{Refusal}
use Rattle.lexer.specs.declared.token.Language.TheVariants.{PathExpression}
use Rattle.lexer.specs.declared.token.Placed.{Placed}
use Rattle.lexer.specs.declared.token.Token.{Token}
use Rattle.lexer.specs.declared.token.Token.TheVariants.{Name, Number, Sign, Equals, End, Bad}
use Rattle.std.proofs.lemmas.Bool.{and_parts, not-true}
use Rattle.expression.specs.Expressions.{Letter, Expr}
use Rattle.expression.specs.Parsing.{Made, Parsed, alternative_part, Whole}
use Rattle.expression.specs.Reading.{blank, starred, start, state, advance, read, refused, read_text}
use Rattle.expression.specs.Tables.{postfix}
use Rattle.expression.specs.declared.operation.Operation.{Operation}
use Rattle.expression.proofs.Advances.{next_first, stuck_outside}

-- outside of brackets a tree that no `.` or `|` follows ends the text, or the next token is refused
stopped : (t : Lexeme) (n at : ℕ) (e : Expr) (rest : Tokens) → (t ≡ end → ⊥) → advance t (state [] blank (starred e)) ≡ None → read n (state [] blank (starred e)) (then t at rest) ≡ refused (reason_at t) at
unfolding read
stopped (name w) n at e rest h a = rw a
stopped (number v) n at e rest h a = rw a
stopped (sign b) n at e rest h a = rw a
stopped equals n at e rest h a = rw a
stopped end n at e rest h a = absurd (h refl)
stopped bad n at e rest h a = refl

-- a token that is not the end
not_end : (t : Token) → (t ≡ End → ⊥) → lexeme_of t ≡ end → ⊥
not_end (Name w) h e = let z : ◌≡◌ {A = ℕ} 0 1 = cc in omega arith
not_end (Number w v) h e = let z : ◌≡◌ {A = ℕ} 0 1 = cc in omega arith
not_end (Sign b) h e = let z : ◌≡◌ {A = ℕ} 0 1 = cc in omega arith
not_end Equals h e = let z : ◌≡◌ {A = ℕ} 0 1 = cc in omega arith
not_end End h e = h refl
not_end Bad h e = let z : ◌≡◌ {A = ℕ} 0 1 = cc in omega arith

-- a reader at the start of a text
module _ (text : List ℕ) (r : Reader) (is_text : text_of r ≡ text) (is_start : place_of r ≡ 0) (is_path : language_of r ≡ PathExpression) where
  from_start : (n : ℕ) → read_text n text ≡ read n start (tokens_from r)
  unfolding read_text
  from_start n = λ i. read n start (tokens (sym is_path i) (sym is_text i) (sym is_start i))

  pub text_refused : {s : Reader} {o u : List Operation} {l m : List Letter} {x : Refusal} → Parsed alternative_part 0 r s o u l m (Err x) → read_text (length l) text ≡ refused x.reason x.place
  text_refused {l = l} p = from_start (length l) ∙ p.said tt [] refl

  module _ {s : Reader} {o u : List Operation} {l m : List Letter} (none : o ≡ []) (p : Parsed alternative_part 0 r s o u l m (Ok tt)) (n : Placed) (is : lexed_of n ≡ lex (language_of s) (text_of s) (place_of s)) where
    made : Made alternative_part 0 r s o u l m
    made = p.said

    up_to : read_text (length l) text ≡ read (length m) (state [] blank (starred made.tree)) (then (next_of s) (next_place s) (tokens (language_of s) (text_of s) (past_next s)))
    up_to = from_start (length l) ∙ made.goes tt [] refl ∙ next_first s (length m) _

    pub text_read : n.token ≡ End → Whole text l m u
    unfolding read
    text_read e = record {
      tree = made.tree;
      is = up_to ∙ ap (λ t. read (length m) (state [] blank (starred made.tree)) (then t (next_place s) (tokens (language_of s) (text_of s) (past_next s)))) (sym (ap (λ x. x.lexeme) is) ∙ ap lexeme_of e);
      operations = made.operations ∙ ap (λ w. w ++ postfix made.tree) none;
      letters = made.letters;
    }

    pub text_goes_on : {x : Refusal} → (n.token ≡ End → ⊥) → x.reason ≡ reason_at (lexeme_of n.token) → x.place ≡ n.start → read_text (length l) text ≡ refused x.reason x.place
    text_goes_on {x} h reason place =
        let left = and_parts _ _ made.ended in
        up_to
        ∙ stopped (next_of s) (length m) (next_place s) made.tree _ (λ e. not_end n.token h (ap (λ x. x.lexeme) is ∙ e)) (stuck_outside (next_of s) blank made.tree (not-true _ left.0) (not-true _ left.1))
        ∙ (λ i. refused ((ap (λ x. reason_at x.lexeme) (sym is) ∙ sym reason) i) ((ap (λ x. x.start) (sym is) ∙ sym place) i))
