-- The law of paths as texts: what `spell` tells of the bytes that it reads, and that it reads the text of each path.
use Rattle.std.proofs.Common.{◌≡◌, ℕ, suc, ◌+◌, ◌<◌, ◌≤◌, Bool, true, false, ◌&&◌, eqb, ltb, leb, List, [], ◌∷◌, ◌++◌, length, take, sym, refl, ap, ◌∙◌, subst, append_assoc, append-nil, arith, length-append}
use Rattle.lexer.specs.Classes.{classed, class_of, letters, letters_or_digits}
use Rattle.lexer.specs.Names.{Name, Path, plain, lawful, all_lawful}
use Rattle.std.proofs.lemmas.Bool.{and_parts, and_from, both_ways, cond_both, ne_eqb, eqb-true, leb-true, le-leb, ltb-true, lt-ltb}
use Rattle.contract.specs.PathTexts.{PathText, path, wrong, starting, spell, read_path}
use Rattle.contract.specs.Dotted.{dotted, TextsAreDottedPaths, WrongTextsAreFirstWrong}

-- a letter or a digit is no dot
no_dot : (b : ℕ) → classed letters_or_digits b ≡ true → eqb b 46 ≡ false
unfolding class_of
no_dot b h = ne_eqb b 46 (λ e. both_ways (classed letters_or_digits 46) refl (subst (λ x. classed letters_or_digits x ≡ true) e h))

-- each byte of a plain list is a letter or a digit
plain_at : (cs : List ℕ) (b : ℕ) (bs : List ℕ) → plain (cs ++ (b ∷ bs)) ≡ true → classed letters_or_digits b ≡ true
plain_at [] b bs h = (and_parts _ _ h).0
plain_at (c ∷ cs) b bs h = plain_at cs b bs (and_parts _ _ h).1

-- what a lawful name is
lawful_parts : (c : ℕ) (cs : List ℕ) → lawful (c ∷ cs) ≡ true → (classed letters c ≡ true) × (plain cs ≡ true) × (length cs ≤ 23)
lawful_parts c cs h =
    let others = (and_parts (classed letters c) _ h).1 in
    let parts = and_parts (plain cs) (leb (length cs) 23) others in
    ((and_parts (classed letters c) _ h).0, parts.0, leb-true (length cs) 23 parts.1)

-- a lawful name can go on with each of its bytes
may_go_on : (c : ℕ) (cs : List ℕ) (b : ℕ) (bs : List ℕ) → lawful (c ∷ (cs ++ (b ∷ bs))) ≡ true → (classed letters_or_digits b && ltb (length (c ∷ cs)) 24) ≡ true
may_go_on c cs b bs h =
    let parts = lawful_parts c (cs ++ (b ∷ bs)) h in
    and_from _ _ (plain_at cs b bs parts.1) (lt-ltb (length (c ∷ cs)) 24 (omega (arith, length-append cs (b ∷ bs))))

-- the bytes of a lawful name are read on
through_name : (rest : List ℕ) (at c : ℕ) (cs more : List ℕ) (p : Path) → lawful (c ∷ (cs ++ rest)) ≡ true → ((k : ℕ) → spell k (c ∷ (cs ++ rest)) more ≡ path p) → spell at (c ∷ cs) (rest ++ more) ≡ path p
unfolding spell
through_name [] at c cs more p h then = rw append-nil at (then at)
through_name (b ∷ bs) at c cs more p h then =
    let on = may_go_on c cs b bs h in
    rw (no_dot b (and_parts _ _ on).0, on) (through_name bs (at + 1) c (cs ++ (b ∷ [])) more p (rw append_assoc h) (λ k. rw append_assoc (then k)))

-- a lawful name is read
whole_name : (n : Name) (at : ℕ) (more : List ℕ) (p : Path) → lawful n ≡ true → ((k : ℕ) → spell k n more ≡ path p) → spell at [] (n ++ more) ≡ path p
unfolding spell
whole_name [] at more p h then = absurd (both_ways false refl h)
whole_name (c ∷ cs) at more p h then = rw (lawful_parts c cs h).0 (through_name cs (at + 1) c [] more p h then)

-- the end of the text ends a lawful name
ends : (n : Name) (k : ℕ) → lawful n ≡ true → spell k n [] ≡ path (n ∷ [])
unfolding spell
ends [] k h = absurd (both_ways false refl h)
ends (c ∷ cs) k h = refl

-- a dot ends a lawful name
ends_at_dot : (n : Name) (k : ℕ) (bs : List ℕ) → lawful n ≡ true → spell k n (46 ∷ bs) ≡ starting n (spell (k + 1) [] bs)
unfolding spell
ends_at_dot [] k bs h = absurd (both_ways false refl h)
ends_at_dot (c ∷ cs) k bs h = refl

-- the text of a path that has a name is read as that path
reads_dotted : (n : Name) (p : Path) (at : ℕ) → all_lawful (n ∷ p) ≡ true → spell at [] (dotted (n ∷ p)) ≡ path (n ∷ p)
unfolding dotted
reads_dotted n [] at h =
    let law = (and_parts _ _ h).0 in
    rw append-nil at (whole_name n at [] (n ∷ []) law (λ k. ends n k law))
reads_dotted n (m ∷ p) at h =
    let law = (and_parts _ _ h).0 in
    whole_name n at (46 ∷ dotted (m ∷ p)) (n ∷ (m ∷ p)) law
    (λ k. ends_at_dot n k (dotted (m ∷ p)) law ∙ ap (starting n) (reads_dotted m p (k + 1) (and_parts _ _ h).1))

-- letters or digits, and one more
plain_more : (cs : List ℕ) (b : ℕ) → plain cs ≡ true → classed letters_or_digits b ≡ true → plain (cs ++ (b ∷ [])) ≡ true
plain_more [] b h k = and_from _ _ k refl
plain_more (c ∷ cs) b h k =
    let parts = and_parts (classed letters_or_digits c) (plain cs) h in
    and_from _ _ parts.0 (plain_more cs b parts.1 k)

-- a lawful name, and a byte that it can go on with
lawful_more : (c : ℕ) (cs : List ℕ) (b : ℕ) → lawful (c ∷ cs) ≡ true → (classed letters_or_digits b && ltb (length (c ∷ cs)) 24) ≡ true → lawful (c ∷ (cs ++ (b ∷ []))) ≡ true
lawful_more c cs b h k =
    let parts = lawful_parts c cs h in
    let fits = and_parts (classed letters_or_digits b) (ltb (length (c ∷ cs)) 24) k in
    let few = ltb-true (length (c ∷ cs)) 24 fits.1 in
    and_from _ _ parts.0
    (and_from _ _ (plain_more cs b parts.1 fits.0) (le-leb (length (cs ++ (b ∷ []))) 23 (omega (arith, length-append cs (b ∷ [])))))

-- a name before more names
dotted_more : (n : Name) (p : Path) → 0 < length p → dotted (n ∷ p) ≡ n ++ (46 ∷ dotted p)
unfolding dotted
dotted_more n [] h = absurd (omega arith)
dotted_more n (m ∷ p) h = refl

-- no name, or a lawful one
abbrev begun : Name → Bool
begun [] = true
begun (c ∷ cs) = lawful (c ∷ cs)

-- after `steps` of the bytes, which go on from `cur` as some path does, comes what no path has: the reading stops at `place`
record Stop (at : ℕ) (cur : Name) (bytes : List ℕ) (place : ℕ) : Type 0 where
  steps : ℕ
  is : place ≡ at + steps
  within : steps ≤ length bytes
  first : Name
  others : Path
  rest : List ℕ
  law : all_lawful (first ∷ others) ≡ true
  begins : dotted (first ∷ others) ≡ cur ++ (take steps bytes ++ rest)
  alike : steps < length bytes → (more : List ℕ) → spell at cur (take (suc steps) bytes ++ more) ≡ wrong place

-- what a reading tells of the bytes
abbrev Tells : ℕ → Name → List ℕ → PathText → Type 0
Tells at cur bytes (path p) = (dotted p ≡ cur ++ bytes) × (all_lawful p ≡ true) × (0 < length p)
Tells at cur bytes (wrong place) = Stop at cur bytes place

-- the first byte is wrong, or there is none
stops : (at : ℕ) (cur : Name) (bytes : List ℕ) → begun cur ≡ true → (0 < length bytes → (more : List ℕ) → spell at cur (take 1 bytes ++ more) ≡ wrong at) → Stop at cur bytes at
unfolding dotted class_of
stops at [] bytes h alike = record { steps = 0; is = omega arith; within = omega arith; first = 97 ∷ []; others = []; rest = 97 ∷ []; law = refl; begins = refl; alike = alike }
stops at (c ∷ cs) bytes h alike = record { steps = 0; is = omega arith; within = omega arith; first = c ∷ cs; others = []; rest = []; law = and_from _ _ h refl; begins = sym (append-nil (c ∷ cs)); alike = alike }

-- the first byte belongs to the name
goes_on : (at : ℕ) (cur : Name) (b : ℕ) (bs : List ℕ) (r : PathText) → ((more : List ℕ) → spell at cur (b ∷ more) ≡ spell (at + 1) (cur ++ (b ∷ [])) more) → Tells (at + 1) (cur ++ (b ∷ [])) bs r → Tells at cur (b ∷ bs) r
goes_on at cur b bs (path p) each t = (rw append_assoc at t.0, t.1, t.2)
goes_on at cur b bs (wrong place) each t = record {
  steps = suc t.steps;
  is = omega arith;
  within = omega (arith, t.within);
  first = t.first;
  others = t.others;
  rest = t.rest;
  law = t.law;
  begins = rw append_assoc at t.begins;
  alike = λ l more. each (take (suc t.steps) bs ++ more) ∙ t.alike (omega arith) more;
}

-- the first byte is the dot after the name
past_dot : (at : ℕ) (n : Name) (bs : List ℕ) (r : PathText) → lawful n ≡ true → Tells (at + 1) [] bs r → Tells at n (46 ∷ bs) (starting n r)
past_dot at n bs (path p) h t = (dotted_more n p t.2 ∙ ap (λ w. n ++ (46 ∷ w)) t.0, and_from _ _ h t.1, omega arith)
past_dot at n bs (wrong place) h t = record {
  steps = suc t.steps;
  is = omega arith;
  within = omega (arith, t.within);
  first = n;
  others = t.first ∷ t.others;
  rest = t.rest;
  law = and_from _ _ h t.law;
  begins = dotted_more n (t.first ∷ t.others) (omega arith) ∙ ap (λ w. n ++ (46 ∷ w)) t.begins;
  alike = λ l more. ends_at_dot n at (take (suc t.steps) bs ++ more) h ∙ ap (starting n) (t.alike (omega arith) more);
}

-- each reading tells this
tells : (bytes : List ℕ) (at : ℕ) (cur : Name) → begun cur ≡ true → Tells at cur bytes (spell at cur bytes)
unfolding spell dotted
tells [] at [] h = stops at [] [] h (λ l more. absurd (omega arith))
tells [] at (c ∷ cs) h = (sym (append-nil (c ∷ cs)), and_from _ _ h refl, omega arith)
tells (b ∷ bs) at [] h =
    cond_both (classed letters b) (spell (at + 1) (b ∷ []) bs) (wrong at) (Tells at [] (b ∷ bs))
    (λ e. goes_on at [] b bs (spell (at + 1) (b ∷ []) bs) (λ more. rw e) (tells bs (at + 1) (b ∷ []) (rw e)))
    (λ e. stops at [] (b ∷ bs) h (λ l more. rw e))
tells (b ∷ bs) at (c ∷ cs) h =
    cond_both (eqb b 46) (starting (c ∷ cs) (spell (at + 1) [] bs)) _ (Tells at (c ∷ cs) (b ∷ bs))
    (λ e. subst (λ x. Tells at (c ∷ cs) (x ∷ bs) (starting (c ∷ cs) (spell (at + 1) [] bs))) (sym (eqb-true b 46 e)) (past_dot at (c ∷ cs) bs (spell (at + 1) [] bs) h (tells bs (at + 1) [] refl)))
    (λ e. cond_both (classed letters_or_digits b && ltb (length (c ∷ cs)) 24) (spell (at + 1) ((c ∷ cs) ++ (b ∷ [])) bs) (wrong at) (Tells at (c ∷ cs) (b ∷ bs))
    (λ k. goes_on at (c ∷ cs) b bs (spell (at + 1) ((c ∷ cs) ++ (b ∷ [])) bs) (λ more. rw (e, k)) (tells bs (at + 1) ((c ∷ cs) ++ (b ∷ [])) (lawful_more c cs b h k)))
    (λ k. stops at (c ∷ cs) (b ∷ bs) h (λ l more. rw (e, k))))

-- the empty text aside, a text is spelled from its start
spelled_is_read : (text : List ℕ) (p : Path) → spell 0 [] text ≡ path p → read_path text ≡ path p
unfolding spell read_path
spelled_is_read [] p e = cc
spelled_is_read (b ∷ bs) p e = e

-- the text of a path is read as that path
reads_path : (p : Path) → all_lawful p ≡ true → read_path (dotted p) ≡ path p
unfolding read_path dotted
reads_path [] h = refl
reads_path (n ∷ p) h = spelled_is_read (dotted (n ∷ p)) (n ∷ p) (reads_dotted n p 0 h)

-- what is read as a path is its text
read_is_dotted : (text : List ℕ) (p : Path) → read_path text ≡ path p → (dotted p ≡ text) × (all_lawful p ≡ true)
unfolding read_path dotted
read_is_dotted [] p h = let none : p ≡ [] = cc in (ap dotted none, ap all_lawful none)
read_is_dotted (b ∷ bs) p h = let t = subst (Tells 0 [] (b ∷ bs)) h (tells (b ∷ bs) 0 [] refl) in (t.0, t.1)

-- the two ways of the law
pub texts_are_dotted_paths : TextsAreDottedPaths
texts_are_dotted_paths text p = (read_is_dotted text p, λ h. subst (λ w. read_path w ≡ path p) h.0 (reads_path p h.1))

-- a wrong text is the text of no path
no_path : (text : List ℕ) (at : ℕ) → read_path text ≡ wrong at → (p : Path) → all_lawful p ≡ true → dotted p ≡ text → ⊥
no_path text at h p law e =
    let read = (texts_are_dotted_paths text p).1 (e, law) in
    let z : ◌≡◌ {A = ℕ} 0 1 = cc in omega arith

-- the place where the reading stops is that of the first wrong byte
pub wrong_texts_are_first_wrong : WrongTextsAreFirstWrong
unfolding read_path
wrong_texts_are_first_wrong [] at h = let z : ◌≡◌ {A = ℕ} 0 1 = cc in absurd (omega arith)
wrong_texts_are_first_wrong (b ∷ bs) at h =
    let t : Stop 0 [] (b ∷ bs) at = subst (Tells 0 [] (b ∷ bs)) h (tells (b ∷ bs) 0 [] refl) in
    let here : t.steps ≡ at = omega arith in
    let next : suc t.steps ≡ at + 1 = omega arith in
    record {
      within = omega (arith, t.within);
      before = (t.first ∷ t.others, t.rest, t.law, subst (λ j. dotted (t.first ∷ t.others) ≡ take j (b ∷ bs) ++ t.rest) here t.begins);
      inside = λ l q. no_path (take (at + 1) (b ∷ bs) ++ q.1) at (subst (λ j. read_path (take j (b ∷ bs) ++ q.1) ≡ wrong at) next (t.alike (omega arith) q.1)) q.0 q.2 q.3;
      whole = no_path (b ∷ bs) at h;
    }
