-- Operations are well formed exactly if they are those of the tree that they make.
use Rattle.std.proofs.Common.{◌≡◌, ℕ, suc, ◌+◌, ◌-◌, true, false, ◌&&◌, leb, List, [], ◌∷◌, ◌++◌, length, sym, refl, ap, ◌∙◌, append_assoc, append-nil, add-zero, zero-add, add-one, arith, length-append}
use Rattle.std.proofs.lemmas.Bool.{false≢true, and_parts, eqb-true, le-leb}
use Rattle.expression.specs.Expressions.{Letter, Expr, empty, letter, alternative, sequence, star}
use Rattle.expression.specs.Tables.{postfix, leaves, build, formed}
use Rattle.expression.specs.declared.operation.Operation.{Operation}
use Rattle.expression.specs.declared.operation.Operation.TheVariants.{Empty, Letter as One, Alternative, Sequence, Star}

-- the operations of a tree make one operand of its letters
abbrev Forms : Expr → Type 0
Forms e = (os : List Operation) (n h : ℕ) → formed (postfix e ++ os) (length (leaves e) + n) h ≡ formed os n (h + 1)

-- an operation that makes one operand of two
abbrev Joins : Operation → Type 0
Joins x = (os : List Operation) (n h : ℕ) → formed (x ∷ os) n h ≡ (leb 2 h && formed os n (h - 1))

forms_two : (a b : Expr) (x : Operation) → Joins x → Forms a → Forms b → (os : List Operation) (n h : ℕ) → formed ((postfix a ++ (postfix b ++ (x ∷ []))) ++ os) (length (leaves a ++ leaves b) + n) h ≡ formed os n (h + 1)
forms_two a b x joins fa fb os n h =
    let sum : length (leaves a ++ leaves b) + n ≡ length (leaves a) + (length (leaves b) + n) = omega (arith, length-append (leaves a) (leaves b)) in
    let back : h + 1 + 1 - 1 ≡ h + 1 = omega arith in
    (λ i. formed ((append_assoc (postfix a) (postfix b ++ (x ∷ [])) os ∙ ap (λ w. postfix a ++ w) (append_assoc (postfix b) (x ∷ []) os)) i) (sum i) h)
    ∙ fa (postfix b ++ (x ∷ os)) (length (leaves b) + n) h ∙ fb (x ∷ os) n (h + 1) ∙ joins os n (h + 1 + 1)
    ∙ rw (le-leb 2 (h + 1 + 1) (omega arith)) (ap (formed os n) back)

joins_alternative : Joins Alternative
unfolding formed
joins_alternative os n h = refl

joins_sequence : Joins Sequence
unfolding formed
joins_sequence os n h = refl

forms : (e : Expr) → Forms e
unfolding formed postfix leaves
forms empty os n h = ap (λ k. formed os k (h + 1)) (zero-add n)
forms (letter l) os n h =
    let less : length (l ∷ []) + n - 1 ≡ n = omega arith in
    rw (le-leb 1 (length (l ∷ []) + n) (omega arith)) (ap (λ k. formed os k (h + 1)) less)
forms (alternative a b) os n h = forms_two a b Alternative joins_alternative (forms a) (forms b) os n h
forms (sequence a b) os n h = forms_two a b Sequence joins_sequence (forms a) (forms b) os n h
forms (star a) os n h =
    ap (λ w. formed w (length (leaves a) + n) h) (append_assoc (postfix a) (Star ∷ []) os) ∙ forms a (Star ∷ os) n h
    ∙ rw (le-leb 1 (h + 1) (omega arith))

pub tree_formed : (e : Expr) → formed (postfix e) (length (leaves e)) 0 ≡ true
unfolding formed
tree_formed e = (λ i. formed (sym (append-nil (postfix e)) i) (sym (add-zero (length (leaves e))) i) 0) ∙ forms e [] 0 0

-- the operations and the letters of operands, the last of which comes first
piled : List Expr → List Operation
piled [] = []
piled (e ∷ es) = piled es ++ postfix e

letters_piled : List Expr → List Letter
letters_piled [] = []
letters_piled (e ∷ es) = letters_piled es ++ leaves e

-- what well-formed operations make of letters upon operands has just those operations and letters
record Remade (os : List Operation) (ls : List Letter) (es : List Expr) : Type 0 where
  operations : postfix (build os ls es) ≡ piled es ++ os
  letters : leaves (build os ls es) ≡ letters_piled es ++ ls

-- a test that failed and passed
no : {A : Type 0} → false ≡ true → A
no h = absurd (false≢true h)

-- one operand more, with its operation or the two that it was made of
put_down : (es os : List Operation) (x : Operation) → (es ++ (x ∷ [])) ++ os ≡ es ++ (x ∷ os)
put_down es os x = append_assoc es (x ∷ []) os

take_two : (es a b os : List Operation) (x : Operation) → (es ++ (a ++ (b ++ (x ∷ [])))) ++ os ≡ ((es ++ a) ++ b) ++ (x ∷ os)
take_two es a b os x = simp append_assoc

module _ (os : List Operation) (ls : List Letter) (es : List Expr) (a b : Expr) where
  remade_alternative : Remade os ls (alternative a b ∷ es) → Remade (Alternative ∷ os) ls (b ∷ (a ∷ es))
  unfolding build postfix leaves piled letters_piled
  remade_alternative r = record {
    operations = r.operations ∙ take_two (piled es) (postfix a) (postfix b) os Alternative;
    letters = r.letters ∙ simp append_assoc;
  }

  remade_sequence : Remade os ls (sequence a b ∷ es) → Remade (Sequence ∷ os) ls (b ∷ (a ∷ es))
  unfolding build postfix leaves piled letters_piled
  remade_sequence r = record {
    operations = r.operations ∙ take_two (piled es) (postfix a) (postfix b) os Sequence;
    letters = r.letters ∙ simp append_assoc;
  }

remade : (os : List Operation) (ls : List Letter) (es : List Expr) → formed os (length ls) (length es) ≡ true → Remade os ls es
unfolding formed build postfix leaves piled letters_piled
remade [] [] [] h = no h
remade [] [] (e ∷ []) h = record { operations = sym (append-nil _); letters = sym (append-nil _) }
remade [] [] (e ∷ (d ∷ es)) h = absurd (many (length es) (eqb-true _ _ h))
  where
    many : (k : ℕ) → suc (suc k) ≡ 1 → ⊥
    many k e = omega arith
remade [] (l ∷ ls) es h = absurd (many (length ls) (eqb-true _ _ (and_parts _ _ h).0))
  where
    many : (k : ℕ) → suc k ≡ 0 → ⊥
    many k e = omega arith
remade (Empty ∷ os) ls es h =
    let r = remade os ls (empty ∷ es) (ap (formed os (length ls)) (sym (add-one (length es))) ∙ h) in
    record { operations = r.operations ∙ put_down (piled es) os Empty; letters = r.letters ∙ ap (λ w. w ++ ls) (append-nil (letters_piled es)) }
remade (One ∷ os) [] es h = no h
remade (One ∷ os) (l ∷ ls) es h =
    let less : suc (length ls) - 1 ≡ length ls = omega arith in
    let r = remade os ls (letter l ∷ es) ((λ i. formed os (sym less i) (sym (add-one (length es)) i)) ∙ (and_parts _ _ h).1) in
    record { operations = r.operations ∙ put_down (piled es) os One; letters = r.letters ∙ append_assoc (letters_piled es) (l ∷ []) ls }
remade (Alternative ∷ os) ls [] h = no h
remade (Alternative ∷ os) ls (b ∷ []) h = no h
remade (Alternative ∷ os) ls (b ∷ (a ∷ es)) h =
    let less : suc (suc (length es)) - 1 ≡ suc (length es) = omega arith in
    remade_alternative os ls es a b (remade os ls (alternative a b ∷ es) (ap (formed os (length ls)) (sym less) ∙ (and_parts _ _ h).1))
remade (Sequence ∷ os) ls [] h = no h
remade (Sequence ∷ os) ls (b ∷ []) h = no h
remade (Sequence ∷ os) ls (b ∷ (a ∷ es)) h =
    let less : suc (suc (length es)) - 1 ≡ suc (length es) = omega arith in
    remade_sequence os ls es a b (remade os ls (sequence a b ∷ es) (ap (formed os (length ls)) (sym less) ∙ (and_parts _ _ h).1))
remade (Star ∷ os) ls [] h = no h
remade (Star ∷ os) ls (a ∷ es) h =
    let r = remade os ls (star a ∷ es) (and_parts _ _ h).1 in
    record { operations = r.operations ∙ simp append_assoc; letters = r.letters }

-- well-formed operations are those of the tree that they make, and so are the letters
pub tree_operations : (os : List Operation) (ls : List Letter) → formed os (length ls) 0 ≡ true → postfix (build os ls []) ≡ os
unfolding piled
tree_operations os ls h = (remade os ls [] h).operations

pub tree_letters : (os : List Operation) (ls : List Letter) → formed os (length ls) 0 ≡ true → leaves (build os ls []) ≡ ls
unfolding letters_piled
tree_letters os ls h = (remade os ls [] h).letters
