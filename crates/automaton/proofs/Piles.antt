-- The operands of a pass.
use Rattle.std.proofs.Common.{◌≡◌, ◌+◌, ◌-◌, suc, true, List, [], ◌∷◌, ◌++◌, length, get_or, slice_get, take, map, Some, sym, refl, ap, ap₂, ◌∙◌, append_assoc, arith}
use Rattle.std.specs.Option.{unwrap_or}
use Rattle.std.proofs.lemmas.List.{take_more, reverse-append}
use Rattle.std.proofs.lemmas.Option.{slice_get_within, get_or_from_slice_get, slice_get-get_or}
use Rattle.automaton.specs.Passes.{of_empty, top}
use Rattle.automaton.specs.States.{piled}
use Rattle.automaton.specs.Tells.{summary_of}
use Rattle.automaton.specs.declared.facts.Facts.{Facts}
use Rattle.automaton.proofs.Masks.{bit_of_zero}
use lib.Seq.{take-length}

-- the entries of a row, after one is taken
pub popped : {X : Type 0} (xs ys : List X) (x : X) → Some x ≡ slice_get xs (length xs - 1) → ys ≡ take (length xs - 1) xs → xs ≡ ys ++ x ∷ []
popped xs ys x h k =
    let low = slice_get_within xs (length xs - 1) x (sym h) in
    let up : length xs ≡ length xs - 1 + 1 = omega arith in
    sym (take-length xs) ∙ ap (λ n. take n xs) up ∙ take_more xs (length xs - 1) x low
    ∙ ap₂ (λ zs y. zs ++ y ∷ []) (sym k) (get_or_from_slice_get xs (length xs - 1) x x (sym h))

-- and after two are taken
pub popped_two : {X : Type 0} (xs ys zs : List X) (x y : X) → Some y ≡ slice_get xs (length xs - 1) → ys ≡ take (length xs - 1) xs
    → Some x ≡ slice_get ys (length ys - 1) → zs ≡ take (length ys - 1) ys → xs ≡ zs ++ (x ∷ (y ∷ []))
popped_two xs ys zs x y h k m n =
    popped xs ys y h k ∙ ap (λ ws. ws ++ y ∷ []) (popped ys zs x m n) ∙ append_assoc zs (x ∷ []) (y ∷ [])

-- an operand put on the pile
pub piled_put : (fs : List Facts) (f : Facts) → piled (fs ++ f ∷ []) ≡ summary_of f ∷ piled fs
piled_put fs f = ap (map summary_of) (reverse-append fs (f ∷ []))

pub piled_two : (fs : List Facts) (f g : Facts) → piled (fs ++ f ∷ g ∷ []) ≡ summary_of g ∷ (summary_of f ∷ piled fs)
piled_two fs f g = ap (map summary_of) (reverse-append fs (f ∷ (g ∷ [])))

-- the facts of the empty tree
pub empty_told : summary_of (record { nullable = true; first = record { mask = 0 }; last = record { mask = 0 } }) ≡ of_empty
empty_told = λ i. record { nullable = true; first = λ x. bit_of_zero x i; last = λ x. bit_of_zero x i }

-- the last operand, and the facts of the empty tree where there is none
pub top_piled : (fs : List Facts)
    → top (piled fs) ≡ summary_of (unwrap_or (slice_get fs (length fs - 1)) (record { nullable = true; first = record { mask = 0 }; last = record { mask = 0 } }))
top_piled [] = sym empty_told
top_piled (f ∷ fs) =
    let n = length fs in
    let e : slice_get (f ∷ fs) (suc n - 1) ≡ Some (get_or (f ∷ fs) (suc n - 1) f) = slice_get-get_or (f ∷ fs) (suc n - 1) f (omega arith) in
    ap (λ l. top (piled l)) (popped (f ∷ fs) (take (suc n - 1) (f ∷ fs)) (get_or (f ∷ fs) (suc n - 1) f) (sym e) refl)
    ∙ ap top (piled_put (take (suc n - 1) (f ∷ fs)) (get_or (f ∷ fs) (suc n - 1) f))
    ∙ sym (ap (λ r. summary_of (unwrap_or r (record { nullable = true; first = record { mask = 0 }; last = record { mask = 0 } }))) e)
