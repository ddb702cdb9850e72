-- What is written down of a letter, if there is room.
use Rattle.std.proofs.Common.{◌≡◌, ◌<◌, ◌≤◌, true, false, cond, ltb, List, [], ◌∷◌, ◌++◌, map, length, Ok, Err, Result, ap, ◌∙◌, arith}
use Rattle.std.proofs.lemmas.Bool.{ltb-true, ltb-false}
use Rattle.std.proofs.lemmas.List.{length-map, map-append}
use Rattle.std.specs.Prelude.{is_err}
use Rattle.bounded.proofs.Room.{full, room}
use Rattle.expression.specs.Tables.{letter_of}
use Rattle.expression.specs.declared.letter.Letter.{Letter}

module _ (ps : List Letter) (x : Letter) {qs : List Letter} {r : Result (Unit {0}) Letter} (answer : r ≡ cond (ltb (length ps) 62) (Ok tt) (Err x)) (after : qs ≡ cond (ltb (length ps) 62) (ps ++ x ∷ []) ps) where
  pub letters_full : is_err r ≡ true → 62 ≤ length (map letter_of ps)
  letters_full h =
      let many = ltb-false (length ps) 62 (full r _ x answer h) in
      omega (arith, many, length-map ps letter_of)

  module _ (h : is_err r ≡ false) where
    few : length ps < 62
    few = ltb-true (length ps) 62 (room r _ x answer h)

    pub letters_fit : length (map letter_of ps) < 62
    letters_fit = omega (arith, few, length-map ps letter_of)

    pub letters_added : map letter_of qs ≡ map letter_of ps ++ (letter_of x ∷ [])
    letters_added =
        ap (map letter_of) (after ∙ ap (λ b. cond b (ps ++ x ∷ []) ps) (room r _ x answer h)) ∙ map-append letter_of ps (x ∷ [])
