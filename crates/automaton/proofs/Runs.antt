-- A pass over the operations of a tree finds what is known of the tree.
use Rattle.std.proofs.Common.{◌≡◌, ℕ, ◌+◌, ◌<◌, ◌≤◌, Bool, false, ◌&&◌, ◌||◌, ltb, List, [], ◌∷◌, ◌++◌, length, get_or, drop, sym, refl, ap, ◌∙◌, append_assoc, append-nil, le_trans, le_refl, add-zero, add_assoc, add-one, arith, drop-cons}
use lib.Seq.{drop-length}
use Rattle.expression.specs.Expressions.{Expr, empty, letter, alternative, sequence, star}
use Rattle.expression.specs.Tables.{postfix}
use Rattle.expression.specs.declared.operation.Operation.{Operation}
use Rattle.expression.specs.declared.operation.Operation.TheVariants.{Empty, Letter, Alternative, Sequence, Star}
use Rattle.automaton.specs.Passes.{Summary, Pass, on_last, on_two, step, run}
use Rattle.automaton.specs.Positions.{size, first, last, follow}
use Rattle.automaton.specs.Tells.{summary}

-- ---- operation by operation

-- the next operation
pub run_next : (os : List Operation) (i : ℕ) (m : Pass) → i < length os
    → run (drop i os) m ≡ run (drop (i + 1) os) (step (get_or os i Empty) m)
unfolding run
run_next os i m h = rw (add-one i) (ap (λ (l : List Operation). run l m) (drop-cons os i Empty h))

-- no operation is left
pub run_end : (os : List Operation) (i : ℕ) (m : Pass) → i ≡ length os → run (drop i os) m ≡ m
unfolding run
run_end os i m e = ap (λ n. run (drop n os) m) e ∙ ap (λ (l : List Operation). run l m) (drop-length os)

-- ---- the count never falls

two_count : (m : Pass) (ss : List Summary) (f : Summary → Summary → List Summary → Pass)
    → ((a b : Summary) (ts : List Summary) → (f a b ts).count ≡ m.count) → (on_two m ss f).count ≡ m.count
two_count m [] f h = refl
two_count m (b ∷ []) f h = refl
two_count m (b ∷ (a ∷ ss)) f h = h a b ss

last_count : (m : Pass) (ss : List Summary) (f : Summary → List Summary → Pass)
    → ((a : Summary) (ts : List Summary) → (f a ts).count ≡ m.count) → (on_last m ss f).count ≡ m.count
last_count m [] f h = refl
last_count m (a ∷ ss) f h = h a ss

step_count : (o : Operation) (m : Pass) → m.count ≤ (step o m).count
unfolding step
step_count Empty m = le_refl m.count
step_count Letter m = omega arith
step_count Alternative m = let e : (step Alternative m).count ≡ m.count = two_count m m.pile _ (λ a b ts. refl) in omega arith
step_count Sequence m = let e : (step Sequence m).count ≡ m.count = two_count m m.pile _ (λ a b ts. refl) in omega arith
step_count Star m = let e : (step Star m).count ≡ m.count = last_count m m.pile _ (λ a ts. refl) in omega arith

pub run_count : (os : List Operation) (m : Pass) → m.count ≤ (run os m).count
unfolding run
run_count [] m = le_refl m.count
run_count (o ∷ os) m = le_trans (step_count o m) (run_count os (step o m))

-- ---- the operations of a tree

-- the pass with a tree put on the pile
abbrev pub after : Expr → Pass → Pass
after e m = record {
  pile = summary e m.count ∷ m.pile;
  count = m.count + size e;
  link = λ x y. m.link x y || (ltb x 62 && follow e m.count x y);
}

-- what the parts link, and what is linked between them
links_two : (l t a b : Bool) → ((l || (t && a)) || (t && b)) ≡ (l || (t && (a || b)))
links_two l t a b = grind arith

links_three : (l t a b c : Bool) → (((l || (t && a)) || (t && b)) || (t && c)) ≡ (l || (t && (a || (b || c))))
links_three l t a b c = grind arith

links_none : (l t : Bool) → l ≡ (l || (t && false))
links_none l t = grind arith

-- the operations of two parts, and then one more
run_parts : (a b : Expr) (o : Operation) (os : List Operation) (m : Pass)
    → ((rest : List Operation) (n : Pass) → run (postfix a ++ rest) n ≡ run rest (after a n))
    → ((rest : List Operation) (n : Pass) → run (postfix b ++ rest) n ≡ run rest (after b n))
    → run ((postfix a ++ (postfix b ++ (o ∷ []))) ++ os) m ≡ run os (step o (after b (after a m)))
unfolding run
run_parts a b o os m first second =
    ap (λ l. run l m) (append_assoc (postfix a) (postfix b ++ (o ∷ [])) os ∙ ap (λ l. postfix a ++ l) (append_assoc (postfix b) (o ∷ []) os))
    ∙ first (postfix b ++ (o ∷ os)) m ∙ second (o ∷ os) (after a m)

run_tree : (e : Expr) (os : List Operation) (m : Pass) → run (postfix e ++ os) m ≡ run os (after e m)
unfolding run step postfix size first last follow
run_tree empty os m =
    ap (run os) (λ i. record {
      pile = summary empty m.count ∷ m.pile;
      count = sym (add-zero m.count) i;
      link = λ x y. links_none (m.link x y) (ltb x 62) i;
    })
run_tree (letter l) os m =
    ap (run os) (λ i. record {
      pile = summary (letter l) m.count ∷ m.pile;
      count = m.count + 1;
      link = λ x y. links_none (m.link x y) (ltb x 62) i;
    })
run_tree (alternative a b) os m =
    run_parts a b Alternative os m (run_tree a) (run_tree b)
    ∙ ap (run os) (λ i. record {
      pile = summary (alternative a b) m.count ∷ m.pile;
      count = add_assoc m.count (size a) (size b) i;
      link = λ x y. links_two (m.link x y) (ltb x 62) (follow a m.count x y) (follow b (m.count + size a) x y) i;
    })
run_tree (sequence a b) os m =
    run_parts a b Sequence os m (run_tree a) (run_tree b)
    ∙ ap (run os) (λ i. record {
      pile = summary (sequence a b) m.count ∷ m.pile;
      count = add_assoc m.count (size a) (size b) i;
      link = λ x y. links_three (m.link x y) (ltb x 62) (follow a m.count x y) (follow b (m.count + size a) x y) (last a m.count x && first b (m.count + size a) y) i;
    })
run_tree (star a) os m =
    ap (λ l. run l m) (append_assoc (postfix a) (Star ∷ []) os) ∙ run_tree a (Star ∷ os) m
    ∙ ap (run os) (λ i. record {
      pile = summary (star a) m.count ∷ m.pile;
      count = m.count + size a;
      link = λ x y. links_two (m.link x y) (ltb x 62) (follow a m.count x y) (last a m.count x && first a m.count y) i;
    })

-- the operations of a tree alone
pub tree_run : (e : Expr) (m : Pass) → run (postfix e) m ≡ after e m
unfolding run
tree_run e m = ap (λ l. run l m) (sym (append-nil (postfix e))) ∙ run_tree e [] m
