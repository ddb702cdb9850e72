-- States inside an expression: which tokens they let pass, and which states let the same tokens pass.
use Rattle.std.proofs.Common.{◌≡◌, ℕ, Bool, true, false, cond, not, eqb, List, [], ◌∷◌, Some, None, Option, sym, refl, ap, ◌∙◌}
use Rattle.std.proofs.lemmas.Bool.{not-true, both_ways}
use Rattle.lexer.specs.Names.{Name}
use Rattle.lexer.specs.Readers.{tokens_from, next_of, next_place}
use Rattle.lexer.specs.Tokens.{Lexeme, name, number, sign, equals, end, bad, is_the_sign}
use Rattle.lexer.specs.declared.reader.Reader.{Reader}
use Rattle.script.specs.Reading.{Pending, Level, joined, sum, after_times, after_term, after_comparison, compare, at_level, close_bracket, expression_of, Purpose, assigning, writing, saying, testing, repeating, end_expression, end_condition, Spot, wanting, asked, named, dotted, held, atom, Inner, inner, inner_word, inner_advance, goes_inside, word_in, Frame, advance, advance_at, finish, name_in, if_plain, read}
use Rattle.script.specs.Trees.{Step, Operator, plus, minus, times, less, same, Expr, binary}
use Rattle.script.specs.Words.{Word, if_word, else_word, while_word, say_word, cut_word, has_word, plain_word, word_of}
use Rattle.parser.specs.Operators.{none_of, operator_at}
use Rattle.parser.specs.Parsing.{Around, in_expression, Trail, Approach}
use Rattle.parser.specs.declared.node.Operator.{Operator as Held}
use Rattle.parser.specs.declared.node.Operator.TheVariants.{Plus, Minus, Times, Less, Same}
use Rattle.parser.specs.declared.operators.Rank.TheVariants.{Product}
use Rattle.parser.proofs.Advances.{reads_alike}

-- a choice between equals
pub cond_same : {A : Type 0} (b : Bool) (x : A) → cond b x x ≡ x
cond_same true x = refl
cond_same false x = refl

-- no script ends inside an expression
pub no_end_inside : (a : Around) (outer : List Level) (l : Level) (s : Spot) → finish (in_expression a outer l s) a.frames (in_expression a outer l s).stand ≡ None
no_end_inside a outer l s = go a.frames
  where
    go : (fs : List Frame) → finish (in_expression a outer l s) fs (in_expression a outer l s).stand ≡ None
    go [] = refl
    go (f ∷ fs) = refl

-- a keyword is no name
pub by_word : {A : Type 0} (n : Name) (f : Word → Option A) → f if_word ≡ None → f else_word ≡ None → f while_word ≡ None → f say_word ≡ None → f cut_word ≡ None → f has_word ≡ None → name_in (name n) ≡ None → f (word_of n) ≡ None
by_word {A} n f i e w s c h none = go (word_of n) none
  where
    go : (x : Word) → if_plain x n ≡ None → f x ≡ None
    go if_word k = i
    go else_word k = e
    go while_word k = w
    go say_word k = s
    go cut_word k = c
    go has_word k = h
    go plain_word k = cc

-- ---- paths

module _ (a : Around) (outer : List Level) (l : Level) (h : Bool) where
  -- after the dot of a path only a name comes
  pub stuck_dotted : (v : Name) (ss : List Step) (t : Lexeme) (at : ℕ) → name_in t ≡ None → advance t at (in_expression a outer l (dotted h v ss)) ≡ None
  unfolding advance_at inner_advance
  stuck_dotted v ss (name n) at none =
      by_word n (λ w. goes_inside (in_expression a outer l (dotted h v ss)) a.purpose (inner_word w n at (inner outer l (dotted h v ss)))) refl refl refl refl refl refl none
  stuck_dotted v ss (number k) at none = refl
  stuck_dotted v ss (sign b) at none = simp cond_same
  stuck_dotted v ss equals at none = refl
  stuck_dotted v ss end at none = refl
  stuck_dotted v ss bad at none = refl

  -- the names after dots of a variable
  unfoldable pub trail_inside : Name → Trail
  unfolding advance_at inner_advance
  trail_inside v = record {
    named = λ ss. in_expression a outer l (named h v ss);
    dotted = λ ss. in_expression a outer l (dotted h v ss);
    dot = λ at ss. refl;
    step = λ n at ss plain. ap (λ w. goes_inside (in_expression a outer l (dotted h v ss)) a.purpose (inner_word w n at (inner outer l (dotted h v ss)))) plain;
    stuck = λ t at ss none. stuck_dotted v ss t at none;
    unfinished = λ ss. no_end_inside a outer l (dotted h v ss);
    after = λ ss. refl;
  }

  -- after a path that no dot follows
  pub settled : (r : Reader) (vs : List Name) (v : Name) (ss : List Step) → is_the_sign 46 (next_of r) ≡ false → read vs (in_expression a outer l (named h v ss)) (tokens_from r) ≡ read vs (in_expression a outer l (held (atom h v ss))) (tokens_from r)
  unfolding advance_at inner_advance
  settled r vs v ss no_dot =
      reads_alike (in_expression a outer l (named h v ss)) (in_expression a outer l (held (atom h v ss))) (no_end_inside a outer l (named h v ss) ∙ sym (no_end_inside a outer l (held (atom h v ss)))) refl refl r vs (by (next_of r) (next_place r) no_dot)
    where
      by : (t : Lexeme) (at : ℕ) → is_the_sign 46 t ≡ false → advance t at (in_expression a outer l (named h v ss)) ≡ advance t at (in_expression a outer l (held (atom h v ss)))
      by (name n) at e = by_words (word_of n)
        where
          by_words : (w : Word) → goes_inside (in_expression a outer l (named h v ss)) a.purpose (inner_word w n at (inner outer l (named h v ss))) ≡ goes_inside (in_expression a outer l (held (atom h v ss))) a.purpose (inner_word w n at (inner outer l (held (atom h v ss))))
          by_words if_word = refl
          by_words else_word = refl
          by_words while_word = refl
          by_words say_word = refl
          by_words cut_word = refl
          by_words has_word = refl
          by_words plain_word = refl
      by (number k) at e = refl
      by (sign b) at e = rw e
      by equals at e = refl
      by end at e = refl
      by bad at e = refl

-- a path where an atom must come
unfoldable pub path_inside : Around → List Level → Level → Approach
unfolding advance_at inner_advance trail_inside
path_inside a outer l = record {
  start = in_expression a outer l wanting;
  trail = trail_inside a outer l false;
  ready_for = λ t. not (none_of (name_in t));
  first = λ n at plain. ap (λ w. goes_inside (in_expression a outer l wanting) a.purpose (inner_word w n at (inner outer l wanting))) plain;
  stuck = λ t at some none. absurd (both_ways (none_of (name_in t)) (not-true _ some) (ap none_of none));
  unfinished = no_end_inside a outer l wanting;
  after = refl;
}

-- and after has
unfoldable pub path_asked : Around → List Level → Level → Approach
unfolding advance_at inner_advance trail_inside
path_asked a outer l = record {
  start = in_expression a outer l asked;
  trail = trail_inside a outer l true;
  ready_for = λ t. true;
  first = λ n at plain. ap (λ w. goes_inside (in_expression a outer l asked) a.purpose (inner_word w n at (inner outer l asked))) plain;
  stuck = λ t at _ none. stuck_asked t at none;
  unfinished = no_end_inside a outer l asked;
  after = refl;
}
  where
    stuck_asked : (t : Lexeme) (at : ℕ) → name_in t ≡ None → advance t at (in_expression a outer l asked) ≡ None
    stuck_asked (name n) at none = by_word n (λ w. goes_inside (in_expression a outer l asked) a.purpose (inner_word w n at (inner outer l asked))) refl refl refl refl refl refl none
    stuck_asked (number k) at none = refl
    stuck_asked (sign b) at none = simp cond_same
    stuck_asked equals at none = refl
    stuck_asked end at none = refl
    stuck_asked bad at none = refl

-- ---- where an atom must come

-- a token that begins no atom
pub record BeginsNone (t : Lexeme) : Type 0 where
  pub no_name : name_in t ≡ None
  pub no_has : word_in t ≡ has_word → ⊥
  pub no_number : (n : ℕ) → t ≡ number n → ⊥
  pub no_bracket : is_the_sign 40 t ≡ false

pub stuck_wanting : (a : Around) (outer : List Level) (l : Level) (t : Lexeme) (at : ℕ) → BeginsNone t → advance t at (in_expression a outer l wanting) ≡ None
unfolding advance_at inner_advance
stuck_wanting a outer l (name n) at h = go (word_of n) h.no_name h.no_has
  where
    go : (w : Word) → if_plain w n ≡ None → (w ≡ has_word → ⊥) → goes_inside (in_expression a outer l wanting) a.purpose (inner_word w n at (inner outer l wanting)) ≡ None
    go if_word k no_has = refl
    go else_word k no_has = refl
    go while_word k no_has = refl
    go say_word k no_has = refl
    go cut_word k no_has = refl
    go has_word k no_has = absurd (no_has refl)
    go plain_word k no_has = cc
stuck_wanting a outer l (number k) at h = absurd (h.no_number k refl)
stuck_wanting a outer l (sign b) at h = rw h.no_bracket (simp cond_same)
stuck_wanting a outer l equals at h = refl
stuck_wanting a outer l end at h = refl
stuck_wanting a outer l bad at h = refl

-- ---- operators

-- the operator of the tree
abbrev pub meant : Held → Operator
meant Plus = plus
meant Minus = minus
meant Times = times
meant Less = less
meant Same = same

abbrev pub pending : Operator → ℕ → Expr → Pending
pending o at d = record { operator = o; place = at; left = d }

-- the level after an operator of a rank, where no operator waits below that rank
abbrev pub after_product : Option Pending → Option Pending → Pending → Level
after_product c s p = record { compared = c; summed = s; multiplied = Some p }

abbrev pub after_sum : Option Pending → Pending → Level
after_sum c p = record { compared = c; summed = Some p; multiplied = None }

abbrev pub after_compared : Pending → Level
after_compared p = record { compared = Some p; summed = None; multiplied = None }

-- two levels inside the same brackets, with atoms last, read on alike where they let the same token pass
module _ (a : Around) (outer : List Level) (k l : Level) (d e : Expr) where
  pub levels_alike : (r : Reader) (vs : List Name) → advance (next_of r) (next_place r) (in_expression a outer k (held d)) ≡ advance (next_of r) (next_place r) (in_expression a outer l (held e)) → read vs (in_expression a outer k (held d)) (tokens_from r) ≡ read vs (in_expression a outer l (held e)) (tokens_from r)
  levels_alike r vs alike =
      reads_alike (in_expression a outer k (held d)) (in_expression a outer l (held e)) (no_end_inside a outer k (held d) ∙ sym (no_end_inside a outer l (held e))) refl refl r vs alike

  -- words pass after no atom
  pub words_alike : (n : Name) (at : ℕ) (w : Word) → goes_inside (in_expression a outer k (held d)) a.purpose (inner_word w n at (inner outer k (held d))) ≡ goes_inside (in_expression a outer l (held e)) a.purpose (inner_word w n at (inner outer l (held e)))
  words_alike n at if_word = refl
  words_alike n at else_word = refl
  words_alike n at while_word = refl
  words_alike n at say_word = refl
  words_alike n at cut_word = refl
  words_alike n at has_word = refl
  words_alike n at plain_word = refl

-- two levels with the same whole, after whose trees only `*` may tell them apart: the same signs pass
module _ (a : Around) (outer : List Level) (k l : Level) (d e : Expr) (sums : sum k d ≡ sum l e) (compared : k.compared ≡ l.compared) where
  ends : (ls : List Level) → expression_of (inner outer k (held d)) ls (Some d) ≡ expression_of (inner outer l (held e)) ls (Some e)
  ends [] = λ i. Some (joined (compared i) (sums i))
  ends (x ∷ xs) = refl

  finishes : (q : Purpose) (m : Option Expr) → end_expression (in_expression a outer k (held d)) q m ≡ end_expression (in_expression a outer l (held e)) q m
  finishes q None = refl
  finishes (assigning v) (Some x) = refl
  finishes (writing v ss) (Some x) = refl
  finishes (saying at) (Some x) = refl
  finishes (testing at) (Some x) = refl
  finishes (repeating at) (Some x) = refl

  branches : (q : Purpose) (m : Option Expr) → end_condition (in_expression a outer k (held d)) q m ≡ end_condition (in_expression a outer l (held e)) q m
  branches q None = refl
  branches (assigning v) (Some x) = refl
  branches (writing v ss) (Some x) = refl
  branches (saying at) (Some x) = refl
  branches (testing at) (Some x) = refl
  branches (repeating at) (Some x) = refl

  goes_on : (q : Purpose) (m : Option Inner) → goes_inside (in_expression a outer k (held d)) q m ≡ goes_inside (in_expression a outer l (held e)) q m
  goes_on q None = refl
  goes_on q (Some i) = refl

  closes : (ls : List Level) → close_bracket (inner outer k (held d)) ls (Some d) ≡ close_bracket (inner outer l (held e)) ls (Some e)
  closes [] = refl
  closes (x ∷ xs) = λ i. Some (inner xs x (held (joined (compared i) (sums i))))

  compares : (o : Operator) (at : ℕ) (c : Option Pending) → at_level (inner outer k (held d)) (after_comparison o at k d c) ≡ at_level (inner outer l (held e)) (after_comparison o at l e c)
  compares o at None = λ i. Some (inner outer (record { compared = Some (pending o at (sums i)); summed = None; multiplied = None }) wanting)
  compares o at (Some c) = refl

  compares_on : (o : Operator) (at : ℕ) → at_level (inner outer k (held d)) (compare o at k d) ≡ at_level (inner outer l (held e)) (compare o at l e)
  compares_on o at = compares o at k.compared ∙ ap (λ c. at_level (inner outer l (held e)) (after_comparison o at l e c)) compared

  -- `==` passes in both
  pub equals_alike : (at : ℕ) → advance equals at (in_expression a outer k (held d)) ≡ advance equals at (in_expression a outer l (held e))
  unfolding advance_at inner_advance
  equals_alike at = goes_on a.purpose _ ∙ ap (goes_inside (in_expression a outer l (held e)) a.purpose) (compares_on same at)

  -- the sign passes in both, if it does where it is `*`
  pub signs_alike : (b at : ℕ) → ((m : Option Inner) → cond (eqb b 42) (at_level (inner outer k (held d)) (after_times at k d)) m ≡ cond (eqb b 42) (at_level (inner outer l (held e)) (after_times at l e)) m) → advance (sign b) at (in_expression a outer k (held d)) ≡ advance (sign b) at (in_expression a outer l (held e))
  unfolding advance_at inner_advance
  signs_alike b at times_alike =
      let S = in_expression a outer l (held e) in
      let added : (o : Operator) → at_level (inner outer k (held d)) (after_term o at k d) ≡ at_level (inner outer l (held e)) (after_term o at l e) = λ o i. Some (inner outer (record { compared = compared i; summed = Some (pending o at (sums i)); multiplied = None }) wanting) in
      let inward : inner_advance (sign b) at (inner outer k (held d)) ≡ inner_advance (sign b) at (inner outer l (held e)) =
      ap (λ m. cond (eqb b 40) None (cond (eqb b 41) (close_bracket (inner outer k (held d)) outer (Some d)) (cond (eqb b 46) None m))) (times_alike _)
      ∙ (λ i. cond (eqb b 40) None (cond (eqb b 41) (closes outer i) (cond (eqb b 46) None (cond (eqb b 42) (at_level (inner outer l (held e)) (after_times at l e)) (cond (eqb b 43) (added plus i) (cond (eqb b 45) (added minus i) (cond (eqb b 60) (compares_on less at i) None))))))) in
      λ i. cond (eqb b 59) ((finishes a.purpose _ ∙ ap (end_expression S a.purpose) (ends outer)) i) (cond (eqb b 123) ((branches a.purpose _ ∙ ap (end_condition S a.purpose) (ends outer)) i) ((goes_on a.purpose _ ∙ ap (goes_inside S a.purpose) inward) i))

-- where `*` does not come, it does not matter what it would pass
no_star : {A : Type 0} (t : Bool) (x y m : A) → none_of (cond t (Some Times) None) ≡ true → cond t x m ≡ cond t y m
no_star true x y m h = cc
no_star false x y m h = refl

module _ (a : Around) (outer : List Level) (r : Reader) (vs : List Name) (o : Operator) (at : ℕ) (d e : Expr) where
  -- after the last atom of a product
  pub multiplies : (c s : Option Pending) → read vs (in_expression a outer (after_product c s (pending o at d)) (held e)) (tokens_from r) ≡ read vs (in_expression a outer (record { compared = c; summed = s; multiplied = None }) (held (binary o at d e))) (tokens_from r)
  unfolding advance_at inner_advance
  multiplies c s = levels_alike a outer (after_product c s (pending o at d)) _ e (binary o at d e) r vs (by (next_of r) (next_place r))
    where
      by : (t : Lexeme) (p : ℕ) → advance t p (in_expression a outer (after_product c s (pending o at d)) (held e)) ≡ advance t p (in_expression a outer (record { compared = c; summed = s; multiplied = None }) (held (binary o at d e)))
      by (name n) p = words_alike a outer (after_product c s (pending o at d)) _ e (binary o at d e) n p (word_of n)
      by (number n) p = refl
      by (sign b) p = signs_alike a outer (after_product c s (pending o at d)) (record { compared = c; summed = s; multiplied = None }) e (binary o at d e) refl refl b p (λ m. refl)
      by equals p = equals_alike a outer (after_product c s (pending o at d)) (record { compared = c; summed = s; multiplied = None }) e (binary o at d e) refl refl p
      by end p = refl
      by bad p = refl

  -- after the last product of a sum, which no `*` follows
  pub adds : (c : Option Pending) → none_of (operator_at Product (next_of r)) ≡ true → read vs (in_expression a outer (after_sum c (pending o at d)) (held e)) (tokens_from r) ≡ read vs (in_expression a outer (record { compared = c; summed = None; multiplied = None }) (held (binary o at d e))) (tokens_from r)
  unfolding advance_at inner_advance
  adds c no_times = levels_alike a outer (after_sum c (pending o at d)) _ e (binary o at d e) r vs (by (next_of r) (next_place r) no_times)
    where
      by : (t : Lexeme) (p : ℕ) → none_of (operator_at Product t) ≡ true → advance t p (in_expression a outer (after_sum c (pending o at d)) (held e)) ≡ advance t p (in_expression a outer (record { compared = c; summed = None; multiplied = None }) (held (binary o at d e)))
      by (name n) p h = words_alike a outer (after_sum c (pending o at d)) _ e (binary o at d e) n p (word_of n)
      by (number n) p h = refl
      by (sign b) p h = signs_alike a outer (after_sum c (pending o at d)) (record { compared = c; summed = None; multiplied = None }) e (binary o at d e) refl refl b p (λ m. no_star (eqb b 42) _ _ m h)
      by equals p h = equals_alike a outer (after_sum c (pending o at d)) (record { compared = c; summed = None; multiplied = None }) e (binary o at d e) refl refl p
      by end p h = refl
      by bad p h = refl
