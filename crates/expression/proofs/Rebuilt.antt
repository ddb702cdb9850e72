-- The operations and the letters of a tree make that tree.
use Rattle.std.proofs.Common.{◌≡◌, ℕ, ◌-◌, ◌<◌, ◌≤◌, Bool, true, false, cond, leb, Ok, Err, Result, List, [], ◌∷◌, ◌++◌, length, take, drop, sym, refl, ap, ◌∙◌, append_assoc, append-nil, arith, length-append}
use Rattle.std.proofs.lemmas.List.{take-append-le, drop-append-le, take_all, drop_all}
use Rattle.std.proofs.lemmas.Bool.{le-leb, lt-leb, leb-true, leb-false}
use Rattle.expression.specs.Expressions.{Letter, Expr, empty, letter, alternative, sequence, star}
use Rattle.expression.specs.Parsing.{Whole}
use Rattle.expression.specs.Reading.{Reading, trees, refusal, with_write, then_write, read_text, read_contract, Outcome, refused}
use Rattle.expression.specs.Tables.{postfix, leaves, build, formed}
use Rattle.expression.proofs.Formed.{tree_formed}
use Rattle.expression.specs.declared.operation.Operation.{Operation}
use Rattle.expression.specs.declared.operation.Operation.TheVariants as operation
use Rattle.expression.specs.Texts.{text_number, long_in}
use Rattle.expression.specs.declared.texts.Text.{Text}
use Rattle.expression.specs.declared.texts.Text.TheVariants.{Read, Write}
use Rattle.expression.specs.declared.texts.TextRefusal.{TextRefusal}
use Rattle.lexer.specs.declared.refusal.Reason.TheVariants.{Long}

-- the operations of two trees and one more, before others
regroup : {A : Type 0} (a b : List A) (x : A) (c : List A) → (a ++ (b ++ (x ∷ []))) ++ c ≡ a ++ (b ++ (x ∷ c))
regroup a b x c = append_assoc a (b ++ (x ∷ [])) c ∙ ap (λ w. a ++ w) (append_assoc b (x ∷ []) c)

-- a tree's operations put the tree upon the operands that lie there
puts : (e : Expr) (os : List Operation) (ls : List Letter) (es : List Expr) → build (postfix e ++ os) (leaves e ++ ls) es ≡ build os ls (e ∷ es)
unfolding build postfix leaves
puts empty os ls es = refl
puts (letter l) os ls es = refl
puts (alternative a b) os ls es =
    (λ i. build (regroup (postfix a) (postfix b) operation.Alternative os i) (append_assoc (leaves a) (leaves b) ls i) es)
    ∙ puts a (postfix b ++ (operation.Alternative ∷ os)) (leaves b ++ ls) es ∙ puts b (operation.Alternative ∷ os) ls (a ∷ es)
puts (sequence a b) os ls es =
    (λ i. build (regroup (postfix a) (postfix b) operation.Sequence os i) (append_assoc (leaves a) (leaves b) ls i) es)
    ∙ puts a (postfix b ++ (operation.Sequence ∷ os)) (leaves b ++ ls) es ∙ puts b (operation.Sequence ∷ os) ls (a ∷ es)
puts (star a) os ls es =
    ap (λ w. build w (leaves a ++ ls) es) (append_assoc (postfix a) (operation.Star ∷ []) os) ∙ puts a (operation.Star ∷ os) ls es

pub rebuilt : (e : Expr) → build (postfix e) (leaves e) [] ≡ e
unfolding build
rebuilt e = (λ i. build (sym (append-nil (postfix e)) i) (sym (append-nil (leaves e)) i) []) ∙ puts e [] [] []

-- a row of letters in two parts
module _ {A : Type 0} (a b c : List A) (n : ℕ) (is : c ≡ a ++ b) (long : n ≡ length a) where
  pub front_part : take n c ≡ a
  front_part = ap (take n) is ∙ take-append-le n a b (omega arith) ∙ take_all n a (omega arith)

  pub back_part : drop n c ≡ b
  back_part = ap (drop n) is ∙ drop-append-le n a b (omega arith) ∙ ap (λ w. w ++ b) (drop_all n a (omega arith))

-- two texts were read, the second after the first: o and u hold their operations, l had no letter, and n counts those of
-- the first
module _ {read write : List ℕ} {l m k : List Letter} {o u : List Operation} (none : l ≡ []) (reads : Whole read l m o) (writes : Whole write m k u) (n : ℕ) (counted : n ≡ length m) where
  first_letters : m ≡ leaves reads.tree
  first_letters = reads.letters ∙ ap (λ w. w ++ leaves reads.tree) none

  first_count : n ≡ length (leaves reads.tree)
  first_count = counted ∙ ap length first_letters

  all_letters : k ≡ leaves reads.tree ++ leaves writes.tree
  all_letters = writes.letters ∙ ap (λ w. w ++ leaves writes.tree) first_letters

  pub read_built : build o (take n k) [] ≡ reads.tree
  read_built = (λ i. build (reads.operations i) (front_part _ _ _ n all_letters first_count i) []) ∙ rebuilt reads.tree

  pub write_built : build u (drop n k) [] ≡ writes.tree
  write_built = (λ i. build (writes.operations i) (back_part _ _ _ n all_letters first_count i) []) ∙ rebuilt writes.tree

  pub reads_formed : formed o n 0 ≡ true
  reads_formed = (λ i. formed (reads.operations i) (first_count i) 0) ∙ tree_formed reads.tree

  pub writes_formed : (all : ℕ) → all ≡ length k → formed u (all - n) 0 ≡ true
  writes_formed all is =
      let sum = is ∙ ap length all_letters ∙ length-append (leaves reads.tree) (leaves writes.tree) in
      let left : all - n ≡ length (leaves writes.tree) = omega (arith, first_count, sum) in
      (λ i. formed (writes.operations i) (left i) 0) ∙ tree_formed writes.tree

-- what the test of a text's length tells
module _ (t : Text) (bytes : List ℕ) where
  pub brief_if : {u : Unit {0}} → Ok u ≡ long_in t bytes → length bytes ≤ 400
  brief_if e = go (leb (length bytes) 400) refl e
    where
      go : (b : Bool) → leb (length bytes) 400 ≡ b → Ok tt ≡ cond {A = Result (Unit {0}) TextRefusal} b (Ok tt) (Err (record { reason = Long; text = t; place = 0 })) → length bytes ≤ 400
      go true is e = leb-true (length bytes) 400 is
      go false is e = let z : ◌≡◌ {A = ℕ} 0 1 = cc in absurd (omega arith)

  long_if : (x : TextRefusal) → Err x ≡ long_in t bytes → (400 < length bytes) × (record { reason = Long; text = t; place = 0 } ≡ x)
  long_if x e = go (leb (length bytes) 400) refl e
    where
      go : (b : Bool) → leb (length bytes) 400 ≡ b → Err x ≡ cond {A = Result (Unit {0}) TextRefusal} b (Ok tt) (Err (record { reason = Long; text = t; place = 0 })) → (400 < length bytes) × (record { reason = Long; text = t; place = 0 } ≡ x)
      go true is e = let z : ◌≡◌ {A = ℕ} 0 1 = cc in absurd (omega arith)
      go false is e = (omega (arith, leb-false (length bytes) 400 is), cc)

-- what is told of a refusal
abbrev refusal_of : TextRefusal → Reading
refusal_of x = refusal x.reason (text_number x.text) x.place

pub read_long : (read write : List ℕ) {x : TextRefusal} → Err x ≡ long_in Read read → refusal_of x ≡ read_contract read write
unfolding read_contract
read_long read write {x} e =
    let long = long_if Read read x e in
    ap refusal_of (sym long.1) ∙ sym (rw (le-leb 401 (length read) (omega (arith, long.0))))

module _ (read write : List ℕ) (short : length read ≤ 400) where
  pub write_long : {x : TextRefusal} → Err x ≡ long_in Write write → refusal_of x ≡ read_contract read write
  unfolding read_contract
  write_long {x} e =
      let long = long_if Write write x e in
      ap refusal_of (sym long.1) ∙ sym (rw (lt-leb 401 (length read) (omega arith), le-leb 401 (length write) (omega (arith, long.0))))

  module _ (brief : length write ≤ 400) (l : List Letter) (none : l ≡ []) where
    past_long : (x : Outcome) → read_text (length l) read ≡ x → read_contract read write ≡ then_write x write
    unfolding read_contract
    past_long x e =
        rw (lt-leb 401 (length read) (omega arith), lt-leb 401 (length write) (omega arith))
        (ap (λ w. then_write (read_text (length w) read) write) (sym none) ∙ ap (λ y. then_write y write) e)

    pub read_refused : {y : TextRefusal} → (read_text (length l) read ≡ refused y.reason y.place) × (y.text ≡ Read) → refusal_of y ≡ read_contract read write
    read_refused {y} h = ap (λ t. refusal y.reason (text_number t) y.place) h.1 ∙ sym (past_long _ h.0)

    pub write_refused : {y : TextRefusal} {m : List Letter} {o : List Operation} → Whole read l m o → (read_text (length m) write ≡ refused y.reason y.place) × (y.text ≡ Write) → refusal_of y ≡ read_contract read write
    write_refused {y} w h = ap (λ t. refusal y.reason (text_number t) y.place) h.1 ∙ sym (past_long _ w.is ∙ ap (with_write w.tree) h.0)

    pub contract_read : {m k : List Letter} {o u : List Operation} (reads : Whole read l m o) (writes : Whole write m k u) {e d : Expr} → e ≡ reads.tree → d ≡ writes.tree → trees e d ≡ read_contract read write
    contract_read reads writes e d = (λ i. trees (e i) (d i)) ∙ sym (past_long _ reads.is ∙ ap (with_write reads.tree) writes.is)
