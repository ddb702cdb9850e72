-- A path as a text, byte by byte.
use Rattle.std.proofs.Common.{◌≡◌, ℕ, ◌+◌, ◌-◌, ◌<◌, ◌≤◌, true, false, cond, ◌&&◌, eqb, ltb, List, [], ◌∷◌, ◌++◌, length, get_or, take, drop, sym, refl, ap, ◌∙◌, arith, length-drop}
use Rattle.lexer.specs.Classes.{classed, letters, letters_or_digits}
use Rattle.lexer.specs.Names.{Name}
use Rattle.std.proofs.lemmas.List.{drop_more, drop_all, get_or-drop, take_more, length-take-le}
use Rattle.std.proofs.lemmas.Bool.{eq-eqb, ne_eqb, lt-ltb, le-ltb, and_from, and_left, and_right}
use Rattle.contract.specs.PathTexts.{PathText, path, wrong, starting, spell, read_path, permitted}
use Rattle.contract.specs.Terms.{Terms, after}

-- a name that is begun, and one byte more, or the end
in_name : (at : ℕ) (cur : Name) (b : ℕ) (bs : List ℕ) → 1 ≤ length cur → spell at cur (b ∷ bs) ≡ cond (eqb b 46) (starting cur (spell (at + 1) [] bs)) (cond (classed letters_or_digits b && ltb (length cur) 24) (spell (at + 1) (cur ++ (b ∷ [])) bs) (wrong at))
unfolding spell
in_name at [] b bs h = absurd (omega arith)
in_name at (c ∷ cs) b bs h = refl

at_end : (at : ℕ) (cur : Name) → 1 ≤ length cur → spell at cur [] ≡ path (cur ∷ [])
unfolding spell
at_end at [] h = absurd (omega arith)
at_end at (c ∷ cs) h = refl

-- a text that is not empty is spelled from its start
pub from_start : (text : List ℕ) → 0 < length text → spell 0 [] text ≡ read_path text
unfolding read_path
from_start [] h = absurd (omega arith)
from_start (b ∷ bs) h = refl

pub empty_text : (text : List ℕ) → length text ≡ 0 → read_path text ≡ path []
unfolding read_path
empty_text [] h = refl
empty_text (b ∷ bs) h = absurd (omega arith)

-- the bytes from `from` up to i, where a name began at `from`
module _ (text : List ℕ) (from : ℕ) where
  abbrev pub begun : ℕ → Name
  begun i = take (i - from) (drop from text)

  none_begun : begun from ≡ []
  none_begun = let none : from - from ≡ 0 = omega arith in ap (λ n. take n (drop from text)) none

  begun_length : (i : ℕ) → from ≤ i → i ≤ length text → length (begun i) ≡ i - from
  begun_length i h k = length-take-le (i - from) (drop from text) (simp length-drop (omega arith))

  begun_more : (i : ℕ) → from ≤ i → i < length text → begun (i + 1) ≡ begun i ++ (get_or text i 0 ∷ [])
  begun_more i h k =
      let more : i + 1 - from ≡ (i - from) + 1 = omega arith in
      let back : from + (i - from) ≡ i = omega arith in
      ap (λ n. take n (drop from text)) more ∙ take_more (drop from text) (i - from) 0 (simp length-drop (omega arith))
      ∙ ap (λ x. begun i ++ (x ∷ [])) (get_or-drop from text (i - from) 0 ∙ ap (λ j. get_or text j 0) back)

  module _ (i : ℕ) (in_text : i < length text) where
    -- a name begins here
    at_start : from ≡ i → spell i (begun i) (drop i text) ≡ cond (classed letters (get_or text i 0)) (spell (i + 1) (begun (i + 1)) (drop (i + 1) text)) (wrong i)
    unfolding spell
    at_start e =
        let none : begun i ≡ [] = ap (λ j. begun j) (sym e) ∙ none_begun in
        let one : begun (i + 1) ≡ get_or text i 0 ∷ [] = begun_more i (omega arith) in_text ∙ ap (λ w. w ++ (get_or text i 0 ∷ [])) none in
        (λ j. spell i (none j) (drop_more text i 0 in_text j)) ∙ ap (λ w. cond (classed letters (get_or text i 0)) (spell (i + 1) w (drop (i + 1) text)) (wrong i)) (sym one)

    pub starts_name : from ≡ i → classed letters (get_or text i 0) ≡ true → spell i (begun i) (drop i text) ≡ spell (i + 1) (begun (i + 1)) (drop (i + 1) text)
    starts_name e h = at_start e ∙ rw h

    pub wrong_start : from ≡ i → classed letters (get_or text i 0) ≡ false → spell i (begun i) (drop i text) ≡ wrong i
    wrong_start e h = at_start e ∙ rw h

    -- a name goes on here, or ends
    module _ (inside : from < i) where
      at_byte : spell i (begun i) (drop i text) ≡ cond (eqb (get_or text i 0) 46) (starting (begun i) (spell (i + 1) [] (drop (i + 1) text))) (cond (classed letters_or_digits (get_or text i 0) && ltb (i - from) 24) (spell (i + 1) (begun (i + 1)) (drop (i + 1) text)) (wrong i))
      at_byte =
          let long = begun_length i (omega arith) (omega arith) in
          ap (spell i (begun i)) (drop_more text i 0 in_text) ∙ in_name i (begun i) (get_or text i 0) (drop (i + 1) text) (omega arith)
          ∙ (λ j. cond (eqb (get_or text i 0) 46) (starting (begun i) (spell (i + 1) [] (drop (i + 1) text))) (cond (classed letters_or_digits (get_or text i 0) && ltb (long j) 24) (spell (i + 1) (sym (begun_more i (omega arith) in_text) j) (drop (i + 1) text)) (wrong i)))

      pub ends_name : get_or text i 0 ≡ 46 → spell i (begun i) (drop i text) ≡ starting (begun i) (spell (i + 1) (take (i + 1 - (i + 1)) (drop (i + 1) text)) (drop (i + 1) text))
      ends_name e =
          let none : i + 1 - (i + 1) ≡ 0 = omega arith in
          at_byte ∙ rw (eq-eqb (get_or text i 0) 46 e) (ap (λ n. starting (begun i) (spell (i + 1) (take n (drop (i + 1) text)) (drop (i + 1) text))) (sym none))

      pub goes_on : (get_or text i 0 ≡ 46 → ⊥) → classed letters_or_digits (get_or text i 0) ≡ true → i - from < 24 → spell i (begun i) (drop i text) ≡ spell (i + 1) (begun (i + 1)) (drop (i + 1) text)
      goes_on no_dot h few = at_byte ∙ rw (ne_eqb (get_or text i 0) 46 no_dot, and_from _ _ h (lt-ltb (i - from) 24 few))

      wrong_if : (get_or text i 0 ≡ 46 → ⊥) → (classed letters_or_digits (get_or text i 0) && ltb (i - from) 24) ≡ false → spell i (begun i) (drop i text) ≡ wrong i
      wrong_if no_dot h = at_byte ∙ rw (ne_eqb (get_or text i 0) 46 no_dot, h)

      pub wrong_byte : (get_or text i 0 ≡ 46 → ⊥) → classed letters_or_digits (get_or text i 0) ≡ false → spell i (begun i) (drop i text) ≡ wrong i
      wrong_byte no_dot h = wrong_if no_dot (and_left _ _ h)

      pub too_long : (get_or text i 0 ≡ 46 → ⊥) → 24 ≤ i - from → spell i (begun i) (drop i text) ≡ wrong i
      too_long no_dot many = wrong_if no_dot (and_right _ _ (le-ltb (i - from) 24 many))

  -- the text ends
  pub ends_text : (i : ℕ) → length text ≤ i → i ≤ length text → from < i → spell i (begun i) (drop i text) ≡ path (begun i ∷ [])
  ends_text i h k inside =
      let long = begun_length i (omega arith) k in
      ap (spell i (begun i)) (drop_all i text h) ∙ at_end i (begun i) (omega arith)

  pub ends_wrong : (i : ℕ) → length text ≤ i → from ≡ i → spell i (begun i) (drop i text) ≡ wrong i
  unfolding spell
  ends_wrong i h e =
      let none : begun i ≡ [] = ap (λ j. begun j) (sym e) ∙ none_begun in
      (λ j. spell i (none j) (drop_all i text h j))

-- a name of the path is a step of the terms
pub permitted_starting : (t : Terms) (n : Name) (x : PathText) → permitted t (starting n x) ≡ permitted (after n t) x
permitted_starting t n (path p) = refl
permitted_starting t n (wrong at) = refl
