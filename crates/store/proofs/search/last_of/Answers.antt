use Rattle.std.proofs.Common.{rules}
use Rattle.store.specs.Records.{fits, Found}
use Rattle.store.proofs.Latest.{last_place-found}
use Rattle.store.proofs.search.last_of.Goals as goal

pub returns-clause-place : goal.returns-clause-place
returns-clause-place g c =
    let test = fits g.R.Record.owner g.R.Record.called c.args.object c.args.name.now in
    let found : Found test c.args.records.now c.rposition.result = search rules in
    last_place-found test c.args.records.now c.rposition.result found
