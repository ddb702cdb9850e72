-- The letters at the positions of two trees, one after the other.
use Rattle.std.proofs.Common.{◌≡◌, ℕ, ◌+◌, ◌≤◌, true, List, [], ◌++◌, map, length, get_or, sym, refl, ap, ◌∙◌, subst, append_assoc, append-nil, arith, length-append}
use lib.ListN.{get_or-map, length-map}
use lib.Seq.{get_or_at}
use Rattle.bounded.specs.Rows.{entries_of}
use Rattle.lexer.specs.Names.{Name, lawful}
use Rattle.lexer.specs.Spelled.{spelled}
use Rattle.std.proofs.lemmas.Slice.Eq.{bytes_eq-Decides}
use Rattle.expression.specs.Expressions.{Letter, any, Expr, empty, letter, alternative, sequence, star, fits}
use Rattle.expression.specs.Held.{read_tree, write_tree}
use Rattle.expression.specs.Tables.{letter_of, leaves}
use Rattle.expression.specs.declared.letter.Letter.{Letter as Held}
use Rattle.expression.specs.declared.letter.Letter.TheVariants.{Any, Named}
use Rattle.expression.specs.declared.trees.Trees.{Trees}
use Rattle.expression.proofs.Tabled.{letters_are}
use Rattle.automaton.specs.Positions.{size, Labelled}
use Rattle.automaton.specs.Tells.{letter_at}

-- a tree has as many positions as letters
pub size_is : (e : Expr) → size e ≡ length (leaves e)
unfolding size leaves
size_is empty = refl
size_is (letter l) = refl
size_is (alternative a b) = omega (arith, size_is a, size_is b, length-append (leaves a) (leaves b))
size_is (sequence a b) = omega (arith, size_is a, size_is b, length-append (leaves a) (leaves b))
size_is (star a) = size_is a

-- a row with the letters of a tree, from a place on
abbrev Row : List Letter → Expr → ℕ → Type 0
Row ls e i = (before : List Letter) × (after : List Letter) × (i ≡ length before) × (ls ≡ before ++ (leaves e ++ after))

row_first : (ls : List Letter) (a b : Expr) (i : ℕ) (before after : List Letter) → i ≡ length before
    → ls ≡ before ++ ((leaves a ++ leaves b) ++ after) → Row ls a i
row_first ls a b i before after n h = (before, leaves b ++ after, n, h ∙ ap (λ w. before ++ w) (append_assoc (leaves a) (leaves b) after))

row_second : (ls : List Letter) (a b : Expr) (i : ℕ) (before after : List Letter) → i ≡ length before
    → ls ≡ before ++ ((leaves a ++ leaves b) ++ after) → Row ls b (i + size a)
row_second ls a b i before after n h = (
  before ++ leaves a,
  after,
  omega (arith, size_is a, length-append before (leaves a)),
  h ∙ ap (λ w. before ++ w) (append_assoc (leaves a) (leaves b) after) ∙ sym (append_assoc before (leaves a) (leaves b ++ after)),
)

-- such a row labels the tree
row_labels : (ls : List Letter) (e : Expr) (i : ℕ) → Row ls e i → Labelled (λ x. get_or ls x any) e i
unfolding leaves
row_labels ls empty i r = tt
row_labels ls (letter l) i (before, after, n, h) = ap (λ w. get_or w i any) h ∙ get_or_at before l after any i (sym n)
row_labels ls (alternative a b) i (before, after, n, h) =
    (row_labels ls a i (row_first ls a b i before after n h), row_labels ls b (i + size a) (row_second ls a b i before after n h))
row_labels ls (sequence a b) i (before, after, n, h) =
    (row_labels ls a i (row_first ls a b i before after n h), row_labels ls b (i + size a) (row_second ls a b i before after n h))
row_labels ls (star a) i r = row_labels ls a i r

-- the letters that the code holds label both trees
module _ (held : List Held) (a b : Expr) (are : map letter_of held ≡ leaves a ++ leaves b) where
  letters_at : letter_at held ≡ (λ x. get_or (leaves a ++ leaves b) x any)
  letters_at = λ i x. (sym (get_or-map letter_of held x Any) ∙ ap (λ (l : List Letter). get_or l x any) are) i

  pub first_labelled : Labelled (letter_at held) a 0
  first_labelled =
      subst (λ f. Labelled f a 0) (sym letters_at) (row_labels _ a 0 ([], leaves b, refl, refl))

  pub second_labelled : Labelled (letter_at held) b (size a)
  second_labelled =
      subst (λ f. Labelled f b (size a)) (sym letters_at)
      (row_labels _ b (size a) (leaves a, [], size_is a, ap (λ w. leaves a ++ w) (sym (append-nil (leaves b)))))

-- the letters of two trees
abbrev pub held_by : Trees → List Held
held_by t = entries_of t.letters

-- there are at most 62
pub few_letters : (t : Trees) → size (read_tree t) + size (write_tree t) ≤ 62
few_letters t =
    omega (
      arith,
      size_is (read_tree t),
      size_is (write_tree t),
      length-append (leaves (read_tree t)) (leaves (write_tree t)),
      ap length (letters_are t),
      length-map (entries_of t.letters) letter_of,
      t.few,
    )

pub few_reads : (t : Trees) → length (leaves (read_tree t)) ≤ 62
few_reads t = omega (arith, few_letters t, size_is (read_tree t))

-- a letter stands for lawful names only
pub fits_lawful : (l : Held) (p : Name) → fits (letter_of l) p ≡ true → lawful p ≡ true
unfolding fits
fits_lawful Any p h = h
fits_lawful (Named n) p h = subst (λ q. lawful q ≡ true) ((bytes_eq-Decides (spelled n) p).0 h) n.ok
