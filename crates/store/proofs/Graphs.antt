-- What a write of one cell does to the graph of cells over another, and so to what they mean.
use Rattle.std.proofs.Common.{◌≡◌, ℕ, ◌+◌, ◌-◌, ◌<◌, List, [], length, take, set, Some, ap, ◌∙◌}
use mathlib.Core.Path.{fun_ext}
use lib.Seq.{take-set-lt}
use Rattle.std.proofs.lemmas.List.{take_more_set}
use Rattle.lexer.specs.Names.{Name}
use Rattle.store.specs.Cells.{owner, called, graph_over}
use Rattle.store.specs.Meaning.{Graph, Meaning, changed, set_in}
use Rattle.store.specs.Records.{fits, last_place}
use Rattle.store.specs.declared.cell.Cell.{Cell}
use Rattle.store.specs.declared.value.Value.{Value}
use Rattle.store.specs.declared.value.Value.TheVariants.{Nothing}
use Rattle.store.proofs.Changes.{latest_pushed, latest_changed}

-- the cell that stands for a place past the end
abbrev pub none_there : Cell
none_there = record { object = 0; bytes = []; len = 0; value = Nothing }

-- meanings whose graphs agree on each property are one
pub meaning_from : (objects left : ℕ) (g h : Graph) → ((p : ℕ) (q : Name) → g p q ≡ h p q) → ◌≡◌ {A = Meaning} (record { objects = objects; graph = g; left = left }) (record { objects = objects; graph = h; left = left })
meaning_from objects left g h e =
    let make : Graph → Meaning = λ f. record { objects = objects; graph = f; left = left } in
    ap make (fun_ext (λ p. fun_ext (λ q. e p q)))

-- a cell y of the property (o, n) is written
module _ (objects left : ℕ) (read : Cell → Value) (below : Graph) (cells : List Cell) (used o : ℕ) (n : Name) (v : Value) (y : Cell) (owned : owner y ≡ o) (named : called y ≡ n) (held : read y ≡ v) where
  -- what the first k of some cells mean
  abbrev meant : List Cell → ℕ → ℕ → Meaning
  meant xs k l = record { objects = objects; graph = graph_over read below (take k xs); left = l }

  pub meant_changed : (i : ℕ) → i < used → last_place (fits owner called o n) (take used cells) ≡ Some i → meant (set cells i y) used (left - 1) ≡ set_in (meant cells used left) o n v
  meant_changed i within at =
      meaning_from objects (left - 1) (graph_over read below (take used (set cells i y))) (changed (graph_over read below (take used cells)) o n v)
      (λ p q.
      ap (λ xs. graph_over read below xs p q) (take-set-lt used cells i y within)
      ∙ latest_changed owner called read o n p q (take used cells) i y (below p q) at owned named
      ∙ ap (λ w. changed (graph_over read below (take used cells)) o n w p q) held)

  pub meant_pushed : used < length cells → meant (set cells used y) (used + 1) (left - 1) ≡ set_in (meant cells used left) o n v
  meant_pushed within =
      meaning_from objects (left - 1) (graph_over read below (take (used + 1) (set cells used y))) (changed (graph_over read below (take used cells)) o n v)
      (λ p q.
      ap (λ xs. graph_over read below xs p q) (take_more_set cells used y within)
      ∙ latest_pushed owner called read o n p q (take used cells) y (below p q) owned named
      ∙ ap (λ w. changed (graph_over read below (take used cells)) o n w p q) held)
