use Rattle.std.proofs.Common.{[], ap, ◌∙◌, append-nil}
use Rattle.contract.specs.Paths.{path_of}
use Rattle.contract.specs.Permissions.{permission}
use Rattle.contract.proofs.Walks.{along_reads, along_writes}
use Rattle.contract.proofs.permits.permits.Goals as goal

pub returns : goal.returns
returns g c =
    let start = g.C.Contract.terms c.args.contract.now (g.C.Contract.starts c.args.contract.now) in
    let path = path_of c.args.path.now in
    c.permission_at.ensures ∙ ap (λ t. permission t []) c.residue_after.ensures
    ∙ (λ i. record {
      read = (along_reads path [] start ∙ ap start.reads (append-nil path)) i;
      write = (along_writes path [] start ∙ ap start.writes (append-nil path)) i;
    })
