-- The tokens from a place on are the first of them and the tokens after it.
use Rattle.std.proofs.Common.{◌≡◌, ℕ, zero, suc, ◌+◌, ◌-◌, ◌<◌, ◌≤◌, true, ◌&&◌, eqb, leb, List, [], ◌∷◌, length, get_or, take, drop, refl, ap, ◌∙◌, arith, length-drop}
use Rattle.std.specs.List.{prefix_len}
use Rattle.std.proofs.lemmas.List.Sums.{prefix_len-le-length}
use Rattle.std.proofs.lemmas.Bool.{cond_both, eqb-true, and_parts}
use Rattle.lexer.specs.Classes.{class_of, classed, one_of, letters_or_digits, digits, blanks}
use Rattle.lexer.specs.declared.class.Class.{Class}
use Rattle.lexer.specs.declared.class.Class.TheVariants.{Other, Blank, Letter, Digit, Sign}
use Rattle.lexer.specs.Tokens.{Lexeme, name, number, sign, equals, end, bad, Lexed, lexed, decimal, lex, past_blanks, front, by_class, named, numbered, signed, starts, numbers, Tokens, then, tokens_within, tokens, TokensGoOn}
use Rattle.lexer.specs.declared.token.Language.{Language}

-- a token that is there takes a byte at least
abbrev pub Takes : Lexeme → ℕ → ℕ → Type 0
Takes (name s) at stop = at < stop
Takes (number n) at stop = at < stop
Takes (sign b) at stop = at < stop
Takes equals at stop = at < stop
Takes end at stop = Unit {0}
Takes bad at stop = Unit {0}

-- a token found at the front of n bytes stays within them
abbrev Fine : ℕ → ℕ → Lexed → Type 0
Fine at n r = Takes r.lexeme at r.stop × (r.stop ≤ at + n)

module _ (at b : ℕ) (bs : List ℕ) where
  -- a run that begins with b
  begun : (ks : List Class) (k : Class) → class_of b ≡ k → one_of ks k ≡ true → 1 ≤ prefix_len (classed ks) (b ∷ bs)
  begun ks k e ok = rw (ap (one_of ks) e ∙ ok) (omega arith)

  fine_name : class_of b ≡ Letter → Fine at (suc (length bs)) (named at (prefix_len (classed letters_or_digits) (b ∷ bs)) (b ∷ bs))
  fine_name e =
      let n = prefix_len (classed letters_or_digits) (b ∷ bs) in
      let some = begun letters_or_digits Letter e refl in
      let most = prefix_len-le-length (classed letters_or_digits) (b ∷ bs) in
      cond_both (leb n 24) (lexed (name (take n (b ∷ bs))) at (at + n)) (lexed bad at at) (Fine at (suc (length bs))) (λ _. (omega arith, omega arith)) (λ _. (tt, omega arith))

  fine_number : class_of b ≡ Digit → Fine at (suc (length bs)) (numbered at (prefix_len (classed digits) (b ∷ bs)) (b ∷ bs))
  fine_number e =
      let n = prefix_len (classed digits) (b ∷ bs) in
      let some = begun digits Digit e refl in
      let most = prefix_len-le-length (classed digits) (b ∷ bs) in
      cond_both (leb (decimal (take n (b ∷ bs))) 2147483647) (lexed (number (decimal (take n (b ∷ bs)))) at (at + n)) (lexed bad at at) (Fine at (suc (length bs))) (λ _. (omega arith, omega arith)) (λ _. (tt, omega arith))

-- `==` needs a second byte
second : (bs : List ℕ) → get_or bs 0 0 ≡ 61 → 1 ≤ length bs
second [] e = absurd (omega arith)
second (b ∷ bs) e = omega arith

fine_sign : (at b : ℕ) (bs : List ℕ) → Fine at (suc (length bs)) (signed at b bs)
fine_sign at b bs =
    cond_both (eqb b 61 && eqb (get_or bs 0 0) 61) (lexed equals at (at + 2)) (lexed (sign b) at (at + 1)) (Fine at (suc (length bs)))
    (λ e. let more : 1 ≤ length bs = second bs (eqb-true (get_or bs 0 0) 61 (and_parts (eqb b 61) (eqb (get_or bs 0 0) 61) e).1) in (omega arith, omega arith))
    (λ _. (omega arith, omega arith))

fine_front : (l : Language) (at : ℕ) (bs : List ℕ) → Fine at (length bs) (front l at bs)
fine_front l at [] = (tt, omega arith)
fine_front l at (b ∷ bs) = go (class_of b) refl
  where
    none : Fine at (suc (length bs)) (lexed bad at at)
    none = (tt, omega arith)

    go : (k : Class) → class_of b ≡ k → Fine at (suc (length bs)) (by_class l k at b bs)
    go Other e = none
    go Blank e = none
    go Letter e = fine_name at b bs e
    go Digit e = cond_both (numbers l) _ _ (Fine at (suc (length bs))) (λ _. fine_number at b bs e) (λ _. none)
    go Sign e = cond_both (starts l b) _ _ (Fine at (suc (length bs))) (λ _. fine_sign at b bs) (λ _. none)

-- what is found from a place on lies after it and within the text
pub found : (l : Language) (text : List ℕ) (at : ℕ) → at ≤ length text → Takes (lex l text at).lexeme at (lex l text at).stop × ((lex l text at).stop ≤ length text)
unfolding lex
found l text at h =
    let start = past_blanks text at in
    let few = prefix_len-le-length (classed blanks) (drop at text) in
    let long = length-drop at text in
    let rest = length-drop start text in
    let fine = fine_front l start (drop start text) in
    (later (front l start (drop start text)).lexeme at start _ (omega arith) fine.0, omega (arith, fine.1))
  where
    later : (t : Lexeme) (at start stop : ℕ) → at ≤ start → Takes t start stop → Takes t at stop
    later (name s) at start stop h k = omega arith
    later (number n) at start stop h k = omega arith
    later (sign b) at start stop h k = omega arith
    later equals at start stop h k = omega arith
    later end at start stop h k = tt
    later bad at start stop h k = tt

-- what follows a token matters only where there is one
same_then : (t : Lexeme) (at start stop : ℕ) (x y : Tokens) → Takes t at stop → (at < stop → x ≡ y) → then t start x ≡ then t start y
same_then (name s) at start stop x y h e = ap (then (name s) start) (e h)
same_then (number n) at start stop x y h e = ap (then (number n) start) (e h)
same_then (sign b) at start stop x y h e = ap (then (sign b) start) (e h)
same_then equals at start stop x y h e = ap (then equals start) (e h)
same_then end at start stop x y h e = refl
same_then bad at start stop x y h e = refl

-- more tokens than bytes are never needed
enough : (l : Language) (text : List ℕ) (m n at : ℕ) → at ≤ length text → length text - at < m → length text - at < n → tokens_within m l text at ≡ tokens_within n l text at
unfolding tokens_within
enough l text zero n at h a b = absurd (omega arith)
enough l text (suc m) zero at h a b = absurd (omega arith)
enough l text (suc m) (suc n) at h a b =
    let f = found l text at h in
    same_then (lex l text at).lexeme at (lex l text at).start (lex l text at).stop _ _ f.0
    (λ on. enough l text m n (lex l text at).stop f.1 (omega arith) (omega arith))

pub tokens_step : TokensGoOn
unfolding tokens tokens_within
tokens_step l text at h =
    let f = found l text at h in
    same_then (lex l text at).lexeme at (lex l text at).start (lex l text at).stop _ _ f.0
    (λ on. enough l text (length text - at) (suc (length text - (lex l text at).stop)) (lex l text at).stop f.1 (omega arith) (omega arith))
