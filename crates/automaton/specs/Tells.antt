-- What the masks of the code tell.
use Rattle.std.specs.Prelude.{◌≡◌, ℕ, Bool, List, [], slice_index, slice_index_or}
use Rattle.expression.specs.Expressions.{Letter, Expr}
use Rattle.expression.specs.Languages.{nullable}
use Rattle.expression.specs.Tables.{letter_of}
use Rattle.expression.specs.declared.letter.Letter.{Letter as Held}
use Rattle.expression.specs.declared.letter.Letter.TheVariants.{Any}
use Rattle.automaton.specs.Bits.{bit}
use Rattle.automaton.specs.Passes.{Summary, Pass}
use Rattle.automaton.specs.Positions.{first, last}
use Rattle.automaton.specs.declared.facts.Facts.{Facts}

abbrev pub summary_of : Facts → Summary
summary_of f = record { nullable = f.nullable; first = bit f.first.mask; last = bit f.last.mask }

-- what is known of a tree whose positions are numbered from i on
abbrev pub summary : Expr → ℕ → Summary
summary e i = record { nullable = nullable e; first = first e i; last = last e i }

-- the facts are those of the tree, its positions numbered from i on
abbrev pub Tells : Facts → Expr → ℕ → Type 0
Tells f e i = summary_of f ≡ summary e i

-- the letter at a position
abbrev pub letter_at : List Held → ℕ → Letter
letter_at letters x = letter_of (slice_index_or letters x Any)

-- the position y may follow the position x, by a table
abbrev pub link_of : List ℕ → ℕ → ℕ → Bool
link_of follow x y = bit (slice_index follow x) y

-- a pass that begins at a number, with the links made so far
abbrev pub begun : ℕ → List ℕ → Pass
begun from follow = record { pile = []; count = from; link = link_of follow }
