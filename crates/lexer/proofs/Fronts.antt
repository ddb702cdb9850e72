-- What `lex` gives, by the first byte that is no blank.
use Rattle.std.proofs.Common.{◌≡◌, ℕ, zero, suc, ◌+◌, ◌-◌, ◌<◌, ◌≤◌, Bool, true, false, cond, ◌&&◌, List, [], ◌∷◌, length, get_or, take, drop, sym, refl, ap, ◌∙◌, add-zero, arith, length-take}
use Rattle.std.specs.List.{prefix_len}
use Rattle.std.proofs.lemmas.List.{drop_all, drop_more, get_or-drop}
use Rattle.std.proofs.lemmas.List.Sums.{prefix_len-drop_yes}
use Rattle.std.proofs.lemmas.Bool.{le-leb, and_from, and_parts}
use Rattle.lexer.specs.Classes.{class_of, classed, one_of, letters, letters_or_digits, digits}
use Rattle.lexer.specs.declared.class.Class.{Class}
use Rattle.lexer.specs.declared.class.Class.TheVariants.{Other, Blank, Letter, Digit, Sign}
use Rattle.lexer.specs.Names.{plain, lawful}
use Rattle.lexer.specs.Tokens.{lexed, end, bad, lex, past_blanks, front, by_class, named, numbered, signed, starts, numbers, part}
use Rattle.lexer.specs.declared.token.Language.{Language}

-- the token that begins at `start`, the first place from `at` on with no blank
module _ (l : Language) (text : List ℕ) (at start : ℕ) (is : start ≡ past_blanks text at) where
  at_start : lex l text at ≡ front l start (drop start text)
  unfolding lex
  at_start = ap (λ s. front l s (drop s text)) (sym is)

  pub lex_end : length text ≤ start → lex l text at ≡ lexed end start start
  lex_end h = at_start ∙ ap (front l start) (drop_all start text h)

  module _ (in_text : start < length text) where
    at_byte : lex l text at ≡ by_class l (class_of (get_or text start 0)) start (get_or text start 0) (drop (start + 1) text)
    at_byte = at_start ∙ ap (front l start) (drop_more text start 0 in_text)

    at_class : (k : Class) → class_of (get_or text start 0) ≡ k → lex l text at ≡ by_class l k start (get_or text start 0) (drop (start + 1) text)
    at_class k e = at_byte ∙ ap (λ c. by_class l c start (get_or text start 0) (drop (start + 1) text)) e

    pub lex_name : class_of (get_or text start 0) ≡ Letter → lex l text at ≡ named start (prefix_len (classed letters_or_digits) (drop start text)) (drop start text)
    lex_name e = at_class Letter e ∙ ap (λ bs. named start (prefix_len (classed letters_or_digits) bs) bs) (sym (drop_more text start 0 in_text))

    pub lex_number : class_of (get_or text start 0) ≡ Digit → numbers l ≡ true → lex l text at ≡ numbered start (prefix_len (classed digits) (drop start text)) (drop start text)
    lex_number e n = at_class Digit e ∙ rw n (ap (λ bs. numbered start (prefix_len (classed digits) bs) bs) (sym (drop_more text start 0 in_text)))

    pub lex_sign : class_of (get_or text start 0) ≡ Sign → starts l (get_or text start 0) ≡ true → lex l text at ≡ signed start (get_or text start 0) (drop (start + 1) text)
    lex_sign e s = at_class Sign e ∙ rw s

    -- no token
    pub lex_bad : (class_of (get_or text start 0) ≡ Letter → ⊥) → (class_of (get_or text start 0) ≡ Digit → numbers l ≡ false) → (class_of (get_or text start 0) ≡ Sign → starts l (get_or text start 0) ≡ false) → lex l text at ≡ lexed bad start start
    lex_bad a b c = at_byte ∙ go (class_of (get_or text start 0)) a b c
      where
        go : (k : Class) → (k ≡ Letter → ⊥) → (k ≡ Digit → numbers l ≡ false) → (k ≡ Sign → starts l (get_or text start 0) ≡ false) → by_class l k start (get_or text start 0) (drop (start + 1) text) ≡ lexed bad start start
        go Other a b c = refl
        go Blank a b c = refl
        go Letter a b c = absurd (a refl)
        go Digit a b c = rw (b refl)
        go Sign a b c = rw (c refl)

-- a run of letters and digits is plain
plain_run : (bs : List ℕ) (n : ℕ) → n ≤ prefix_len (classed letters_or_digits) bs → plain (take n bs) ≡ true
plain_run bs zero h = refl
plain_run [] (suc n) h = refl
plain_run (b ∷ bs) (suc n) h = go (classed letters_or_digits b) refl h (plain_run bs n)
  where
    go : (t : Bool) → classed letters_or_digits b ≡ t → suc n ≤ cond t (1 + prefix_len (classed letters_or_digits) bs) 0 → (n ≤ prefix_len (classed letters_or_digits) bs → plain (take n bs) ≡ true) → (classed letters_or_digits b && plain (take n bs)) ≡ true
    go true e k rest = and_from _ _ e (rest (omega arith))
    go false e k rest = absurd (omega arith)

run_lawful : (b : ℕ) (bs : List ℕ) (n : ℕ) → class_of b ≡ Letter → suc n ≤ prefix_len (classed letters_or_digits) (b ∷ bs) → suc n ≤ 24 → lawful (take (suc n) (b ∷ bs)) ≡ true
run_lawful b bs n letter run few =
    and_from _ _ (ap (one_of letters) letter)
    (and_from _ _ (and_parts _ _ (plain_run (b ∷ bs) (suc n) run)).1 (le-leb (length (take n bs)) 23 (simp length-take (omega arith))))

-- a short run of letters and digits that begins with a letter is a lawful name
pub lawful_run : (bs : List ℕ) (n : ℕ) → class_of (get_or bs 0 0) ≡ Letter → 1 ≤ n → n ≤ prefix_len (classed letters_or_digits) bs → n ≤ 24 → lawful (take n bs) ≡ true
lawful_run [] n letter some run few = absurd (omega arith)
lawful_run (b ∷ bs) zero letter some run few = absurd (omega arith)
lawful_run (b ∷ bs) (suc n) letter some run few = run_lawful b bs n letter run few

-- a name is the run of letters and digits that begins with a letter
module _ (text : List ℕ) (start stop : ℕ) (in_text : start < length text) (letter : class_of (get_or text start 0) ≡ Letter) (ends : stop ≡ start + prefix_len (classed letters_or_digits) (drop start text)) where
  pub name_moves : start < stop
  name_moves = let on = prefix_len-drop_yes (classed letters_or_digits) text start 0 in_text (ap (one_of letters_or_digits) letter) in omega arith

  pub name_lawful : stop - start ≤ 24 → lawful (part text start stop) ≡ true
  name_lawful short =
      lawful_run (drop start text) (stop - start) (ap class_of (get_or-drop start text 0 0 ∙ ap (λ i. get_or text i 0) (add-zero start)) ∙ letter) (omega (arith, name_moves)) (omega arith) short
