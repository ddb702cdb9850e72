use Rattle.std.proofs.Common.{sym, ap, ◌∙◌}
use Rattle.std.proofs.lemmas.List.{at_drop_all}
use Rattle.contract.specs.Paths.{path_of}
use Rattle.contract.specs.Terms.{along}
use Rattle.contract.proofs.Walks.{along_more}
use Rattle.contract.proofs.permits.residue_after.Goals as goal

pub loop-name-preserved : goal.loop-name-preserved
loop-name-preserved g c =
    let k = g.C.Contract in
    along_more (k.terms c.args.contract.now c.loop-name.at) (k.terms c.args.contract.now c.step-at.result) c.args.path.now c.loop-name.name-index c.name-item.result c.as_bytes.result.now c.loop-name-test.true c.name-item.is c.as_bytes.ensures c.step-at.ensures
    ∙ c.loop-name.invariant

pub returns : goal.returns
returns g c =
    let k = g.C.Contract in
    let done = at_drop_all path_of c.args.path.now c.loop-name.name-index c.loop-name-test.false in
    sym (ap (λ p. along p (k.terms c.args.contract.now c.loop-name.at)) done) ∙ c.loop-name.invariant
