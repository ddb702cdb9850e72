-- What the operands and a state of the code tell of a pass.
use Rattle.std.specs.Prelude.{List, map, reverse}
use Rattle.bounded.specs.Rows.{entries_of}
use Rattle.bounded.specs.declared.row.Row.{Row}
use Rattle.automaton.specs.Passes.{Summary, Pass}
use Rattle.automaton.specs.Tells.{summary_of, link_of}
use Rattle.automaton.specs.declared.facts.Facts.{Facts}
use Rattle.automaton.specs.declared.pass.State.{State}

-- what is known of the operands, the last first
abbrev pub piled : List Facts → List Summary
piled fs = map summary_of (reverse fs)

abbrev pub pass_of : Row Facts 400 → State → Pass
pass_of r s = record { pile = piled (entries_of r); count = s.count; link = link_of s.follow }
