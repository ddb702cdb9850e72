use Rattle.std.proofs.Common.{◌≡◌, get_or, take, Ok, sym, ap, ◌∙◌}
use Rattle.std.proofs.lemmas.List.{get_or-take}
use Rattle.store.specs.Cells.{owner, called, graph_over}
use Rattle.store.specs.Meaning.{get_test, if_passed}
use Rattle.store.specs.Records.{fits}
use Rattle.store.proofs.Latest.{latest_place, latest_none}
use Rattle.store.proofs.Graphs.{none_there}
use Rattle.overlay.specs.Over.{checked, read_in}
use Rattle.overlay.proofs.overlay.OverlayStore.get.Goals as goal

pub returns-in-Some : goal.returns-in-Some
returns-in-Some g c =
    let t = c.args.self.now in
    let m = g.S.Store.means t.changes.below in
    let xs = take t.changes.used t.changes.entries in
    let o = c.args.object in
    let n = c.args.name.now in
    let i = c.in-Some.i in
    let d = none_there in
    let found = c.in-Some.ensures in
    let value = graph_over (read_in m.objects) m.graph xs o n in
    let read : value ≡ checked m.objects (get_or t.changes.entries i d).value =
    latest_place (read_in m.objects) (fits owner called o n) xs i d (m.graph o n) (sym found.place) ∙ ap (read_in m.objects) (get_or-take t.changes.used t.changes.entries i d found.within) in
    ap Ok (c.checked.ensures ∙ ap (λ k. checked k (get_or t.changes.entries i d).value) c.count-objects.ensures ∙ sym read)
    ∙ ap (λ passed. if_passed passed value) c.in_ok-check_get.ensures
    ∙ ap (λ k. if_passed (get_test k o n) value) c.count-objects.ensures

pub returns-in-None : goal.returns-in-None
returns-in-None g c =
    let t = c.args.self.now in
    let m = g.S.Store.means t.changes.below in
    let xs = take t.changes.used t.changes.entries in
    let o = c.args.object in
    let n = c.args.name.now in
    let value : graph_over (read_in m.objects) m.graph xs o n ≡ m.graph o n = latest_none (read_in m.objects) (fits owner called o n) xs (m.graph o n) (sym c.in-None.ensures.place) in
    c.get.ensures ∙ ap (if_passed (get_test m.objects o n)) (sym value)
