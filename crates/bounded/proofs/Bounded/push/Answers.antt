use Rattle.std.proofs.Common.{◌≡◌, ◌+◌, ◌<◌, Bool, true, cond, [], ◌∷◌, ◌++◌, length, take, drop, Ok, Err, sym, refl, ap, ◌∙◌, arith, length-set}
use Rattle.std.proofs.lemmas.List.{length-take-le, take_more_set, drop-set-lt, drop-drop}
use Rattle.std.proofs.lemmas.Bool.{lt-ltb}
use Rattle.bounded.specs.Filled.{filled, rest, has_room}
use Rattle.bounded.proofs.Bounded.push.Goals as goal

pub returns : goal.returns
returns g c =
    let b = c.args.self.now in
    let places = b.places.now in
    let entry = c.args.entry in
    let within : b.used < length places = omega arith in
    let was : length (take b.used places) ≡ b.used = length-take-le b.used places (omega arith) in
    let room : has_room b ≡ true = lt-ltb (length (take b.used places)) (length places) (omega arith) in
    record {
      room = sym (ap (λ (r : Bool). cond r (Ok tt) (Err entry)) room);
      filled = take_more_set places b.used entry within ∙ sym (ap (λ (r : Bool). cond r (filled b ++ entry ∷ []) (filled b)) room);
      rest = drop-set-lt (b.used + 1) places b.used entry (omega arith) ∙ sym (drop-drop 1 b.used places) ∙ sym (ap (λ (r : Bool). cond r (drop 1 (rest b)) (rest b)) room);
      size = length-set places b.used entry;
      lender = refl;
    }
