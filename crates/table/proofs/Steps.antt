-- What one put does to the cells, and so to what the table means.
use Rattle.std.proofs.Common.{◌≡◌, ℕ, ◌+◌, ◌-◌, ◌<◌, ◌≤◌, true, List, length, get_or, take, set, Some, None, sym, refl, ap, ◌∙◌, subst, arith}
use Rattle.lexer.specs.Names.{Name}
use Rattle.store.specs.Cells.{owner, called, CellsApart}
use Rattle.store.specs.Meaning.{changed}
use Rattle.store.specs.Records.{fits, last_place}
use Rattle.store.specs.declared.cell.Cell.{Cell}
use Rattle.store.specs.declared.value.Value.TheVariants.{Nothing, Number, Reference}
use Rattle.store.specs.declared.value.Value.{Value}
use Rattle.store.proofs.Apart.{apart_removed}
use Rattle.table.specs.Tables.{graph_of}
use Rattle.table.specs.Usable.{holds}
use Rattle.table.proofs.Removal.{latest_absent, latest_removed}

-- the graph after each kind of put
module _ (cells : List Cell) (used o : ℕ) (n : Name) (v : Value) (p : ℕ) (q : Name) where
  pub graph_removed : (i : ℕ) (z : Cell) → 0 < used → used ≤ length cells → CellsApart cells used → last_place (fits owner called o n) (take used cells) ≡ Some i → z ≡ get_or cells (used - 1) z → v ≡ Nothing → graph_of (take (used - 1) (set cells i z)) p q ≡ changed (graph_of (take used cells)) o n v p q
  graph_removed i z some long apart at last none =
      let back : used - 1 + 1 ≡ used = omega arith in
      latest_removed o n p q cells (used - 1) i z (omega arith) (subst (λ u. CellsApart cells u) (sym back) apart) (ap (λ u. last_place (fits owner called o n) (take u cells)) back ∙ at) last
      ∙ ap (λ u. changed (graph_of (take u cells)) o n Nothing p q) back
      ∙ ap (λ w. changed (graph_of (take used cells)) o n w p q) (sym none)

  pub graph_absent : last_place (fits owner called o n) (take used cells) ≡ None → v ≡ Nothing → graph_of (take used cells) p q ≡ changed (graph_of (take used cells)) o n v p q
  graph_absent at none =
      latest_absent o n p q (take used cells) at ∙ ap (λ w. changed (graph_of (take used cells)) o n w p q) (sym none)

-- cells stay apart where the last one goes to the place of another
pub apart_freed : (cells : List Cell) (used i : ℕ) (z : Cell) → i < used → used ≤ length cells → z ≡ get_or cells (used - 1) z → CellsApart cells used → CellsApart (set cells i z) (used - 1)
apart_freed cells used i z within long last apart =
    let back : used ≡ used - 1 + 1 = omega arith in
    apart_removed owner called cells (used - 1) i z (omega arith) (omega arith) last (subst (λ u. CellsApart cells u) back apart)

-- a value other than nothing is something
pub holds_from : (v : Value) → (v ≡ Nothing → ⊥) → holds v ≡ true
holds_from Nothing h = absurd (h refl)
holds_from (Number i) h = refl
holds_from (Reference o) h = refl
