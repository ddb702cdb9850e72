-- What a contract by path expressions permits from its start, and the laws that it keeps.
use Rattle.std.specs.Prelude.{◌≡◌, ℕ, true, [], ◌∷◌, is_some, None, refl}
use Rattle.std.proofs.Common.{ap, ◌∙◌}
use Rattle.automaton.specs.Residues.{starts, read_start, trees_of, reads_left, writes_left}
use Rattle.automaton.specs.declared.automaton.Automaton.{Automaton}
use Rattle.automaton.specs.declared.positions.Positions.{Positions}
use Rattle.automaton.proofs.Laws.{beginnings_are_left, residues_are_lawful, starts_leave_all}
use Rattle.expression.specs.Expressions.{empty}
use Rattle.expression.specs.Held.{read_tree, write_tree}
use Rattle.expression.specs.Languages.{derivative, remaining, begins}
use Rattle.lexer.specs.Names.{Path}
use Rattle.contract.specs.ExpressionTerms.{expression_terms, by_trees, is_empty, only_empty}
use Rattle.contract.specs.Terms.{Terms, Orderly}
use Rattle.contract.specs.declared.expressions.Expression.{Expression}
use Rattle.contract.specs.Quotients.{same_terms}

pub orderly : (c : Expression) (r : Positions) → Orderly (expression_terms c r)
orderly c r = record {
  beginnings = beginnings_are_left c.automaton r.mask;
  readable_lawful = λ p. (residues_are_lawful c.automaton r.mask p).reads;
  writable_lawful = λ p. (residues_are_lawful c.automaton r.mask p).writes;
}

-- what a residue leaves
abbrev left : Automaton → ℕ → Terms
left a r = record { reads = reads_left a r; writes = writes_left a r }

-- texts were read: what their trees permit
pub given_terms : (a : Automaton) (r : ℕ) → r ≡ starts → left a r ≡ by_trees (read_tree (trees_of a)) (write_tree (trees_of a))
given_terms a r is = ap (left a) is ∙ same_terms _ _ (λ q. (starts_leave_all a q).reads) (λ q. (starts_leave_all a q).writes)

-- nothing remains after nothing
nothing_left : (q : Path) → remaining None q ≡ None
unfolding remaining
nothing_left [] = refl
nothing_left (p ∷ q) = refl

begins_empty : (q : Path) → begins empty q ≡ is_empty q
unfolding remaining derivative
begins_empty [] = refl
begins_empty (p ∷ q) = ap is_some (nothing_left q)

-- no texts were read: the empty path, for reading
pub new_terms : (a : Automaton) (r : ℕ) → r ≡ read_start → read_tree (trees_of a) ≡ empty → left a r ≡ only_empty
new_terms a r is e =
    ap (left a) is ∙ same_terms _ _ (λ q. (starts_leave_all a q).reads_alone ∙ ap (λ d. begins d q) e ∙ begins_empty q) (λ q. (starts_leave_all a q).writes_alone)

-- each start leaves the empty path to be read
pub starts_open : (a : Automaton) (r : ℕ) → r ≡ starts → reads_left a r [] ≡ true
unfolding remaining
starts_open a r is = ap (λ n. reads_left a n []) is ∙ (starts_leave_all a []).reads

pub read_start_opens : (a : Automaton) (r : ℕ) → r ≡ read_start → reads_left a r [] ≡ true
unfolding remaining
read_start_opens a r is = ap (λ n. reads_left a n []) is ∙ (starts_leave_all a []).reads_alone
