use Rattle.std.proofs.Common.{◌≡◌, ℕ, ◌<◌, true, cond, length, get_or, take_all, sym, ap, ◌∙◌, arith}
use Rattle.store.specs.Cells.{owner, called, with_value}
use Rattle.store.specs.Meaning.{inside}
use Rattle.store.specs.declared.value.Value.{Value}
use Rattle.store.specs.declared.value.Value.TheVariants.{Nothing}
use Rattle.store.proofs.Apart.{apart_over, apart_past, owner-found, called-found}
use Rattle.store.proofs.Graphs.{meant_changed, meant_pushed, none_there}
use Rattle.overlay.specs.Over.{checked, read_in}
use Rattle.overlay.proofs.overlay.Overlay.set.Goals as goal

-- a value that is inside reads as it is
checked_same : (n : ℕ) (v : Value) → inside n v ≡ true → checked n v ≡ v
checked_same n v h = ap (λ b. cond b v Nothing) h

pub invariant_of-self-in-Some : goal.invariant_of-self-in-Some
invariant_of-self-in-Some g c =
    let t = c.args.self.now in
    let i = c.in-Some.i in
    let es = t.changes.entries in
    let d = none_there in
    let x = get_or es i d in
    let y = with_value x c.args.value in
    let found = c.in-Some.ensures in
    let is = c.change.ensures in
    let room = t.room in
    let full = t.changes.full in
    let within = t.changes.within in record {
      room = omega (arith, is.used);
      apart = rw (is.used, is.entries d) (apart_over owner called es t.changes.used t.apart c.args.object c.args.name.now y (owner-found owner called es t.changes.used c.args.object c.args.name.now i d found.within (sym found.place)) (called-found owner called es t.changes.used c.args.object c.args.name.now i d found.within (sym found.place)) i (omega arith) found.within (sym found.place));
    }

pub invariant_of-self-in-None : goal.invariant_of-self-in-None
invariant_of-self-in-None g c =
    let t = c.args.self.now in
    let y = c.new.result in
    let is = c.add.ensures in
    let named = c.new.ensures.called ∙ take_all 24 c.args.name.now c.requires.short in
    let room = t.room in
    let full = t.changes.full in
    let some_left = c.requires.left in
    let free : t.changes.used < length t.changes.entries = omega arith in record {
      room = omega (arith, is.used);
      apart = rw (is.used, is.entries) (apart_past owner called t.changes.entries t.changes.used t.apart c.args.object c.args.name.now y c.new.ensures.owner named free (sym c.in-None.ensures.place));
    }

pub returns-in-Some : goal.returns-in-Some
returns-in-Some g c =
    let t = c.args.self.now in
    let i = c.in-Some.i in
    let es = t.changes.entries in
    let d = none_there in
    let y = with_value (get_or es i d) c.args.value in
    let found = c.in-Some.ensures in
    let is = c.change.ensures in
    record {
      beneath = is.below;
      after = λ m ok. rw (is.used, is.entries d) (meant_changed m.objects t.left (read_in m.objects) m.graph es t.changes.used c.args.object c.args.name.now c.args.value y (owner-found owner called es t.changes.used c.args.object c.args.name.now i d found.within (sym found.place)) (called-found owner called es t.changes.used c.args.object c.args.name.now i d found.within (sym found.place)) (checked_same m.objects c.args.value ok) i found.within (sym found.place));
    }

pub returns-in-None : goal.returns-in-None
returns-in-None g c =
    let t = c.args.self.now in
    let y = c.new.result in
    let is = c.add.ensures in
    let named = c.new.ensures.called ∙ take_all 24 c.args.name.now c.requires.short in
    let room : t.changes.used < length t.changes.entries = let r = t.room in let f = t.changes.full in let l = c.requires.left in omega arith in
    record {
      beneath = is.below;
      after = λ m ok. rw (is.used, is.entries) (meant_pushed m.objects t.left (read_in m.objects) m.graph t.changes.entries t.changes.used c.args.object c.args.name.now c.args.value y c.new.ensures.owner named (ap (checked m.objects) c.new.ensures.value ∙ checked_same m.objects c.args.value ok) room);
    }
