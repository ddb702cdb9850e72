-- What a pass over the operations of a tree finds.
use Rattle.std.proofs.Common.{◌≡◌, ℕ, ◌<◌, false, ◌&&◌, ◌||◌, List, length, replicate, sym, ap, ◌∙◌, arith}
use Rattle.std.proofs.lemmas.Bool.{lt-ltb}
use Rattle.std.proofs.lemmas.List.{get_or-replicate}
use Rattle.expression.specs.Expressions.{Expr}
use Rattle.expression.specs.Tables.{postfix, leaves}
use Rattle.expression.specs.declared.operation.Operation.{Operation}
use Rattle.automaton.specs.Bits.{bit}
use Rattle.automaton.specs.Passes.{run, top}
use Rattle.automaton.specs.Positions.{size, follow as may_follow}
use Rattle.automaton.specs.Tells.{summary_of, summary, Tells, link_of, begun}
use Rattle.automaton.specs.declared.facts.Facts.{Facts}
use Rattle.automaton.proofs.Labels.{size_is}
use Rattle.automaton.proofs.Masks.{bit_of_zero}
use Rattle.automaton.proofs.Runs.{tree_run}

-- a table of zeros links nothing
no_links : (x y : ℕ) → x < 62 → link_of (replicate 62 0) x y ≡ false
no_links x y low = ap (λ m. bit m y) (get_or-replicate 62 x 0 0 low) ∙ bit_of_zero y

-- the facts of the tree, its positions numbered from n on
pub tells : (e : Expr) (os : List Operation) (from n : ℕ) (follow : List ℕ) (f : Facts) → os ≡ postfix e → from ≡ n
    → summary_of f ≡ top (run os (begun from follow)).pile → Tells f e n
tells e os from n follow f are same h =
    h ∙ ap (λ (l : List Operation). top (run l (begun from follow)).pile) are ∙ ap (λ m. top m.pile) (tree_run e (begun from follow)) ∙ ap (summary e) same

-- the links that a pass adds to a table
adds_links : (e : Expr) (os : List Operation) (from : ℕ) (follow table : List ℕ) → os ≡ postfix e → link_of table ≡ (run os (begun from follow)).link
    → (x y : ℕ) → x < 62 → link_of table x y ≡ (link_of follow x y || may_follow e from x y)
adds_links e os from follow table are h x y low =
    ap (λ l. l x y) (h ∙ ap (λ (l : List Operation). (run l (begun from follow)).link) are ∙ ap (λ m. m.link) (tree_run e (begun from follow)))
    ∙ ap (λ b. link_of follow x y || (b && may_follow e from x y)) (lt-ltb x 62 low)

-- two trees add their links to an empty table, one after the other
pub both_links : (a b : Expr) (os ps : List Operation) (once twice : List ℕ) (n : ℕ) → os ≡ postfix a → ps ≡ postfix b → n ≡ length (leaves a)
    → link_of once ≡ (run os (begun 0 (replicate 62 0))).link → link_of twice ≡ (run ps (begun n once)).link
    → (x y : ℕ) → x < 62 → link_of twice x y ≡ (may_follow a 0 x y || may_follow b (size a) x y)
both_links a b os ps once twice n are are' e h k x y low =
    let none = no_links x y low in
    let first = adds_links a os 0 (replicate 62 0) once are h x y low in
    adds_links b ps n once twice are' k x y low
    ∙ ap (λ m. link_of once x y || may_follow b m x y) (e ∙ sym (size_is a)) ∙ grind arith
