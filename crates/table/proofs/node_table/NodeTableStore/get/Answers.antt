use Rattle.std.proofs.Common.{◌≡◌, get_or, Ok, sym, ap, ◌∙◌}
use Rattle.std.proofs.lemmas.List.{get_or-take}
use Rattle.store.specs.Meaning.{if_passed}
use Rattle.store.specs.Records.{fits}
use Rattle.store.specs.declared.value.Value.TheVariants.{Nothing}
use Rattle.store.proofs.Latest.{latest_place, latest_none}
use Rattle.store.specs.Cells.{owner, called, value_of}
use Rattle.store.proofs.Graphs.{none_there}
use Rattle.table.specs.Tables.{graph_of, used_of}
use Rattle.table.proofs.node_table.NodeTableStore.get.Goals as goal

pub returns-in-Some : goal.returns-in-Some
returns-in-Some c =
    let t = c.args.self.now in
    let o = c.args.object in
    let n = c.args.name.now in
    let i = c.in-Some.i in
    let d = none_there in
    let found = c.in-Some.ensures in
    let value : graph_of (used_of t) o n ≡ (get_or t.cells.now i d).value =
    latest_place value_of (fits owner called o n) (used_of t) i d Nothing (sym found.place) ∙ ap value_of (get_or-take t.used t.cells.now i d found.within) in
    ap Ok (sym value) ∙ ap (λ passed. if_passed passed (graph_of (used_of t) o n)) c.in_ok-check_get.ensures

pub returns-in-None : goal.returns-in-None
returns-in-None c =
    let t = c.args.self.now in
    let o = c.args.object in
    let n = c.args.name.now in
    let value : graph_of (used_of t) o n ≡ Nothing = latest_none value_of (fits owner called o n) (used_of t) Nothing (sym c.in-None.ensures.place) in
    ap Ok (sym value) ∙ ap (λ passed. if_passed passed (graph_of (used_of t) o n)) c.in_ok-check_get.ensures
