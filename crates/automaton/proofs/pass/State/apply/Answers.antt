use Rattle.std.proofs.Common.{◌≡◌, ◌∷◌, ◌++◌, [], ap, ◌∙◌, arith, rules}
use Rattle.bounded.specs.Rows.{entries_of}
use Rattle.automaton.specs.Passes.{step}
use Rattle.automaton.specs.States.{piled}
use Rattle.automaton.specs.Tells.{link_of}
use Rattle.automaton.proofs.Piles.{piled_put, piled_two, empty_told, popped}
use Rattle.automaton.proofs.pass.State.apply.Goals as goal
use Rattle.automaton.proofs.pass.State.apply.Goals.{in-Empty, in-Letter, in-Alternative+in-Some, in-Sequence+in-Some-pop_two, in-Star+in-Some-pop}

pub returns-clause-made : goal.returns-clause-made
unfolding step
returns-clause-made c =
    let s = c.match-operation.self in
    let r = c.match-operation.operands in
    let f = c.match-operation.made in
    let entries : entries_of c.push.new.self ≡ entries_of r ++ f ∷ [] = search rules in
    (λ i. record { pile = (ap piled entries ∙ piled_put (entries_of r) f) i; count = s.count; link = link_of s.follow })
    ∙ elim c.match-operation.branch [
      | in-Empty w ↦ grind (arith, empty_told)
      | in-Letter w ↦ grind arith
      | in-Alternative+in-Some w ↦ grind (arith, piled_two)
      | in-Sequence+in-Some-pop_two w ↦ grind (arith, piled_two)
      | in-Star+in-Some-pop w ↦
          let e = popped (entries_of c.args.operands.now) (entries_of w.pop.new.self) w.in-Some-pop.inner w.in-Some-pop.ensures.last w.in-Some-pop.ensures.entries in
          grind (arith, piled_put)
    ]
