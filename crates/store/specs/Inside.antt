-- References stay inside where cells lie over a graph.
use Rattle.std.specs.Prelude.{◌≡◌, ℕ, suc, ◌<◌, Bool, true, false, cond, List, [], ◌∷◌, length, take}
use Rattle.std.specs.List.{AllWithin}
use Rattle.std.proofs.Common.{arith, length-take, get_or-take}
use Rattle.lexer.specs.Names.{Name}
use Rattle.store.specs.Cells.{owner, called, graph_over}
use Rattle.store.specs.Meaning.{Graph, inside}
use Rattle.store.specs.Records.{fits, latest}
use Rattle.store.specs.declared.cell.Cell.{Cell}
use Rattle.store.specs.declared.value.Value.{Value}

inside_cond : (objects : ℕ) (b : Bool) (v w : Value) → inside objects v ≡ true → inside objects w ≡ true → inside objects (cond b v w) ≡ true
inside_cond objects true v w h k = h
inside_cond objects false v w h k = k

inside_latest : (objects : ℕ) (read : Cell → Value) (p : Cell → Bool) (cells : List Cell) (d : Value) → AllWithin (λ c. inside objects (read c) ≡ true) cells 0 (length cells) → inside objects d ≡ true → inside objects (latest read p cells d) ≡ true
inside_latest objects read p [] d h k = k
inside_latest objects read p (c ∷ cells) d h k =
    inside_latest objects read p cells (cond (p c) (read c) d) (λ i e m l. h (suc i) e (omega arith) (omega arith)) (inside_cond objects (p c) (read c) d (h 0 c (omega arith) (omega arith)) k)

pub inside_graph_over : (objects : ℕ) (read : Cell → Value) (below : Graph) (cells : List Cell) (n : ℕ) → ((o : ℕ) (q : Name) → inside objects (below o q) ≡ true) → AllWithin (λ c. inside objects (read c) ≡ true) cells 0 n → (o : ℕ) (q : Name) → inside objects (graph_over read below (take n cells) o q) ≡ true
inside_graph_over objects read below cells n closed each o q =
    inside_latest objects read (fits owner called o q) (take n cells) (below o q)
    (λ k d m h. let l = length-take n cells in let u : k < n = omega arith in rw get_or-take (each k d m u)) (closed o q)
