use Rattle.std.proofs.Common.{refl}
use Rattle.contract.specs.Quotients.{after_unlawful}
use Rattle.contract.proofs.laws.lawful_residue.Goals as goal

pub returns : goal.returns
returns g c =
    let k = g.C.Contract in
    let own = c.args.contract.now in
    let o = g.met.C.Contract.orderly own c.args.at in
    record {
      same = refl;
      laws = record { orderly = o; opened = g.met.C.Contract.opened own; unlawful = after_unlawful (k.terms own c.args.at) o };
    }
