use Rattle.std.proofs.Common.{◌≡◌, drop}
use Rattle.contract.specs.Paths.{path_of}
use Rattle.contract.specs.Terms.{along}
use Rattle.contract.proofs.permits.residue_after.Given as goal

abbrev pub invariant-loop-name : goal.invariant-loop-name
invariant-loop-name g l =
    let k = g.C.Contract in
    along (path_of (drop l.name-index l.path)) (k.terms l.contract l.at) ≡ along (path_of l.path) (k.terms l.contract (k.starts l.contract))
