use Rattle.std.proofs.Common.{◌≡◌, ◌<◌, ◌≤◌, length, take, Ok, Err, Bool, cond, sym, refl, ap, arith, length-set}
use lib.Seq.{take-set-lt}
use Rattle.std.proofs.lemmas.List.{length-take-le, drop-set-lt, set_past}
use Rattle.std.proofs.lemmas.Bool.{lt-ltb, le-ltb}
use Rattle.bounded.proofs.Bounded.replace.Goals as goal

pub returns-then-at-self : goal.returns-then-at-self
returns-then-at-self g c =
    let b = c.args.self.now in
    let was : length (take b.used b.places.now) ≡ b.used = length-take-le b.used b.places.now (omega arith) in
    let past : length (take b.used b.places.now) ≤ c.args.at = omega arith in
    record {
      there = sym (ap (λ (r : Bool). cond r (Ok tt) (Err c.args.entry)) (le-ltb c.args.at (length (take b.used b.places.now)) past));
      filled = sym (set_past (take b.used b.places.now) c.args.at c.args.entry past);
      rest = refl;
      size = refl;
      lender = refl;
    }

pub returns : goal.returns
returns g c =
    let b = c.args.self.now in
    let was : length (take b.used b.places.now) ≡ b.used = length-take-le b.used b.places.now (omega arith) in
    let before : c.args.at < b.used = omega arith in
    record {
      there = sym (ap (λ (r : Bool). cond r (Ok tt) (Err c.args.entry)) (lt-ltb c.args.at (length (take b.used b.places.now)) (omega arith)));
      filled = take-set-lt b.used b.places.now c.args.at c.args.entry before;
      rest = drop-set-lt b.used b.places.now c.args.at c.args.entry before;
      size = length-set b.places.now c.args.at c.args.entry;
      lender = refl;
    }
