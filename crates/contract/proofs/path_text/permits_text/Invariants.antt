use Rattle.std.proofs.Common.{◌≡◌, ◌-◌, ◌≤◌, take, drop}
use Rattle.contract.specs.PathTexts.{spell, read_path, permitted}
use Rattle.contract.proofs.path_text.permits_text.Given as goal

abbrev pub invariant-loop-place : goal.invariant-loop-place
invariant-loop-place g l =
    let k = g.C.Contract in
    (l.from ≤ l.place) × (permitted (k.terms l.contract l.at) (spell l.place (take (l.place - l.from) (drop l.from l.text)) (drop l.place l.text)) ≡ permitted (k.terms l.contract (k.starts l.contract)) (read_path l.text))
