use Rattle.std.proofs.Common.{◌≡◌, ◌-◌, ◌<◌, true, length, get_or, take, take_all, set, sym, refl, ap, ◌∙◌, arith}
use Rattle.std.proofs.lemmas.List.{get_or_default, length-set, drop-set-lt}
use Rattle.std.proofs.lemmas.List.Elements.{AllWithin-set, AllWithin-more_set, AllWithin-upto}
use Rattle.store.specs.Cells.{owner, called, value_of}
use Rattle.store.specs.Meaning.{changed, inside}
use Rattle.store.specs.declared.value.Value.TheVariants.{Nothing}
use Rattle.store.proofs.Apart.{apart_over, apart_past}
use Rattle.store.proofs.Graphs.{meaning_from, meant_changed, meant_pushed, none_there}
use Rattle.table.specs.Tables.{graph_of, used_of}
use Rattle.table.specs.Usable.{holds}
use Rattle.table.proofs.Steps.{graph_removed, graph_absent, apart_freed, holds_from}
use Rattle.table.proofs.node_table.NodeTable.set.Goals as goal

pub invariant_of-self-in-Some : goal.invariant_of-self-in-Some
invariant_of-self-in-Some c =
    let t = c.args.self.now in
    let cells = t.cells.now in
    let i = c.in-Some.i in
    let z = get_or cells (t.used - 1) none_there in
    let found = c.in-Some.ensures in
    let room = t.room in
    let within : i < length cells = omega (arith, found.within) in
    let last : z ≡ get_or cells (t.used - 1) z = get_or_default cells (t.used - 1) none_there z (omega arith) in
    let some : t.used - 1 < t.used = omega (arith, found.within) in record {
      room = simp length-set (omega arith);
      some = t.some;
      few = t.few;
      apart = apart_freed cells t.used i z found.within (omega arith) last t.apart;
      holding = AllWithin-upto (λ x. holds x.value ≡ true) (set cells i z) 0 t.used (t.used - 1) (omega arith) (AllWithin-set (λ x. holds x.value ≡ true) cells 0 t.used i z within (t.holding (t.used - 1) none_there (omega arith) some) t.holding);
      closed = AllWithin-upto (λ x. inside t.objects x.value ≡ true) (set cells i z) 0 t.used (t.used - 1) (omega arith) (AllWithin-set (λ x. inside t.objects x.value ≡ true) cells 0 t.used i z within (t.closed (t.used - 1) none_there (omega arith) some) t.closed);
    }

pub invariant_of-self-in-Some-place : goal.invariant_of-self-in-Some-place
invariant_of-self-in-Some-place c =
    let t = c.args.self.now in
    let cells = t.cells.now in
    let i = c.in-Some-place.i in
    let y = c.new.result in
    let is = c.new.ensures in
    let named = is.called ∙ take_all 24 c.args.name.now c.requires.short in
    let found = c.in-Some-place.ensures in
    let room = t.room in
    let within : i < length cells = omega (arith, found.within) in record {
      room = simp length-set (omega arith);
      some = t.some;
      few = t.few;
      apart = apart_over owner called cells t.used t.apart c.args.object c.args.name.now y is.owner named i (omega arith) found.within (sym found.place);
      holding = AllWithin-set (λ x. holds x.value ≡ true) cells 0 t.used i y within (ap holds is.value ∙ holds_from c.args.value c.in_default.not-Nothing) t.holding;
      closed = AllWithin-set (λ x. inside t.objects x.value ≡ true) cells 0 t.used i y within (ap (inside t.objects) is.value ∙ c.requires.target) t.closed;
    }

pub invariant_of-self-in-None : goal.invariant_of-self-in-None
invariant_of-self-in-None c =
    let t = c.args.self.now in
    let cells = t.cells.now in
    let y = c.new-in-None.result in
    let is = c.new-in-None.ensures in
    let named = is.called ∙ take_all 24 c.args.name.now c.requires.short in
    let room = t.room in
    let some_left = c.requires.left in
    let free : t.used < length cells = omega arith in record {
      room = simp length-set (omega arith);
      some = t.some;
      few = t.few;
      apart = apart_past owner called cells t.used t.apart c.args.object c.args.name.now y is.owner named free (sym c.in-None.ensures.place);
      holding = AllWithin-more_set cells t.used y free (λ x. holds x.value ≡ true) t.holding (ap holds is.value ∙ holds_from c.args.value c.in_default.not-Nothing);
      closed = AllWithin-more_set cells t.used y free (λ x. inside t.objects x.value ≡ true) t.closed (ap (inside t.objects) is.value ∙ c.requires.target);
    }

pub returns-in-Some : goal.returns-in-Some
returns-in-Some c =
    let t = c.args.self.now in
    let cells = t.cells.now in
    let i = c.in-Some.i in
    let z = get_or cells (t.used - 1) none_there in
    let found = c.in-Some.ensures in
    let room = t.room in
    let last : z ≡ get_or cells (t.used - 1) z = get_or_default cells (t.used - 1) none_there z (omega (arith, found.within)) in
    let few : i < 4096 = omega (arith, found.within) in
    record {
      means =
          meaning_from t.objects (t.left - 1) (graph_of (take (t.used - 1) (set cells i z))) (changed (graph_of (used_of t)) c.args.object c.args.name.now c.args.value)
          (λ p q. graph_removed cells t.used c.args.object c.args.name.now c.args.value p q i z (omega (arith, found.within)) (omega arith) t.apart (sym found.place) last c.in-Nothing.is);
      spares = record { lender = refl; size = length-set cells i z; past = drop-set-lt 4096 cells i z few };
    }

pub returns-in_default-place : goal.returns-in_default-place
returns-in_default-place c =
    let t = c.args.self.now in
    record {
      means =
          meaning_from t.objects (t.left - 1) (graph_of (used_of t)) (changed (graph_of (used_of t)) c.args.object c.args.name.now c.args.value)
          (λ p q. graph_absent t.cells.now t.used c.args.object c.args.name.now c.args.value p q (sym c.in_default-place.ensures.place) c.in-Nothing.is);
      spares = record { lender = refl; size = refl; past = refl };
    }

pub returns-in-Some-place : goal.returns-in-Some-place
returns-in-Some-place c =
    let t = c.args.self.now in
    let i = c.in-Some-place.i in
    let y = c.new.result in
    let is = c.new.ensures in
    let named = is.called ∙ take_all 24 c.args.name.now c.requires.short in
    let found = c.in-Some-place.ensures in
    let room = t.room in
    let few : i < 4096 = omega (arith, found.within) in
    record {
      means = meant_changed t.objects t.left value_of (λ o n. Nothing) t.cells.now t.used c.args.object c.args.name.now c.args.value y is.owner named is.value i found.within (sym found.place);
      spares = record { lender = refl; size = length-set t.cells.now i y; past = drop-set-lt 4096 t.cells.now i y few };
    }

pub returns-in-None : goal.returns-in-None
returns-in-None c =
    let t = c.args.self.now in
    let y = c.new-in-None.result in
    let is = c.new-in-None.ensures in
    let named = is.called ∙ take_all 24 c.args.name.now c.requires.short in
    let room = t.room in
    let some_left = c.requires.left in
    let free : t.used < length t.cells.now = omega arith in
    let few : t.used < 4096 = omega arith in
    record {
      means = meant_pushed t.objects t.left value_of (λ o n. Nothing) t.cells.now t.used c.args.object c.args.name.now c.args.value y is.owner named is.value free;
      spares = record { lender = refl; size = length-set t.cells.now t.used y; past = drop-set-lt 4096 t.cells.now t.used y few };
    }
