use Rattle.std.proofs.Common.{◌≡◌, cond, ltb, List, [], ◌∷◌, ◌++◌, map, length, take, drop, ap, ◌∙◌}
use Rattle.bounded.specs.Rows.{entries_of}
use Rattle.expression.specs.Tables.{letter_of, formed, build}
use Rattle.expression.specs.declared.operation.Operation.{Operation}
use Rattle.expression.specs.declared.operation.Operation.TheVariants.{Empty}
use Rattle.expression.proofs.trees.Trees.empty.Goals as goal

-- one operation in a row that had none
one : {os us : List Operation} → us ≡ cond (ltb (length os) 400) (os ++ Empty ∷ []) os → os ≡ [] → us ≡ Empty ∷ []
one pushed none = pushed ∙ ap (λ os. cond (ltb (length os) 400) (os ++ Empty ∷ []) os) none

pub invariant_of-tree : goal.invariant_of-tree
unfolding formed
invariant_of-tree c = record { formed = ap (λ os. formed os 0 0) (one c.push.ensures.entries c.new-operations.ensures.entries) }

pub returns-clause-reads : goal.returns-clause-reads
unfolding build
returns-clause-reads c = ap (λ os. build os (take 0 (map letter_of (entries_of c.new.result))) []) (one c.push.ensures.entries c.new-operations.ensures.entries)

pub returns-clause-writes : goal.returns-clause-writes
unfolding build
returns-clause-writes c = ap (λ os. build os (drop 0 (map letter_of (entries_of c.new.result))) []) (one c.push.ensures.entries c.new-operations.ensures.entries)
