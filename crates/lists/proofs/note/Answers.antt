-- The one entry fills the first place, and the others are as they were.
use Rattle.std.proofs.Common.{◌≡◌, Bool, true, false, cond, Ok, Err, Result, refl, ltb, List, [], ◌∷◌, ◌++◌, length, take, drop, set, sym, ap, ◌∙◌, arith, rules}
use Rattle.std.specs.Prelude.{is_ok}
use Rattle.std.proofs.lemmas.List.{take-append-drop}
use Rattle.std.proofs.lemmas.Bool.{lt-ltb}
use Rattle.lists.proofs.note.Goals as goal

-- what fills the places, and what stands past it
noted : {X : Type 0} (xs : List X) (x : X) (f r : List X) → f ≡ cond (ltb 0 (length xs)) (x ∷ []) [] → r ≡ cond (ltb 0 (length xs)) (drop 1 xs) xs → f ++ r ≡ set xs 0 x
noted [] x f r e d = λ i. e i ++ d i
noted (y ∷ ys) x f r e d =
    let some : ltb 0 (length (y ∷ ys)) ≡ true = lt-ltb 0 (length (y ∷ ys)) (omega arith) in
    (λ i. (e ∙ ap (λ b. cond b (x ∷ []) []) some) i ++ (d ∙ ap (λ b. cond b ys (y ∷ ys)) some) i)

-- an answer that hangs on a test alone tells the test
passed : {X : Type 0} (b : Bool) (x : X) → is_ok (cond {A = Result (Unit {0}) X} b (Ok tt) (Err x)) ≡ b
passed true x = refl
passed false x = refl

pub returns : goal.returns
returns g c =
    let start = c.new-list.ensures in
    let one = c.push.ensures in
    let b0 = c.new-list.result in
    let b1 = c.push.new.self in
    let p0 = b0.places.now in
    let p1 = b1.places.now in
    let behind : drop b0.used p0 ≡ p0 = ap (λ w. w ++ drop b0.used p0) (sym start.empty) ∙ take-append-drop b0.used p0 in
    let room : ltb (length (take b0.used p0)) (length p0) ≡ ltb 0 (length c.args.places.now) = λ i. ltb (length (start.empty i)) (length (start.places i)) in
    let f = one.filled ∙ (λ i. cond (room i) (start.empty i ++ c.args.entry ∷ []) (start.empty i)) in
    let r = one.rest ∙ (λ i. cond (room i) (drop 1 ((behind ∙ start.places) i)) ((behind ∙ start.places) i)) in
    record {
      told = c.is_ok.ensures.value ∙ ap is_ok one.room ∙ passed _ c.args.entry ∙ room;
      after =
          let whole : p1 ≡ set c.args.places.now 0 c.args.entry = sym (take-append-drop b1.used p1) ∙ noted c.args.places.now c.args.entry _ _ f r in
          let lender = sym (one.lender ∙ start.lender) in
          search rules;
    }
