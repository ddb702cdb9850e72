-- One pass over the operations of a tree. It keeps a pile of what is known of the operands, the last first, counts the
-- letters, and links the positions that may follow one another.
use Rattle.std.specs.Prelude.{ℕ, ◌+◌, Bool, true, false, ◌&&◌, ◌||◌, List, [], ◌∷◌, ◌==◌, nat_lt}
use Rattle.expression.specs.declared.operation.Operation.{Operation}
use Rattle.expression.specs.declared.operation.Operation.TheVariants.{Empty, Letter, Alternative, Sequence, Star}

-- what is known of an operand: whether it may be empty, and which positions may come first and last
pub record Summary : Type 0 where
  pub nullable : Bool
  pub first : ℕ → Bool
  pub last : ℕ → Bool

-- ---- what each operation makes of its operands

abbrev pub of_empty : Summary
of_empty = record { nullable = true; first = λ x. false; last = λ x. false }

-- the letter with the number k
abbrev pub of_letter : ℕ → Summary
of_letter k = record { nullable = false; first = λ x. (x == k); last = λ x. (x == k) }

abbrev pub of_alternative : Summary → Summary → Summary
of_alternative a b = record {
  nullable = a.nullable || b.nullable;
  first = λ x. a.first x || b.first x;
  last = λ x. a.last x || b.last x;
}

abbrev pub of_sequence : Summary → Summary → Summary
of_sequence a b = record {
  nullable = a.nullable && b.nullable;
  first = λ x. a.first x || (a.nullable && b.first x);
  last = λ x. b.last x || (b.nullable && a.last x);
}

abbrev pub of_star : Summary → Summary
of_star a = record { nullable = true; first = a.first; last = a.last }

-- ---- the pass

pub record Pass : Type 0 where
  pub pile : List Summary
  pub count : ℕ
  pub link : ℕ → ℕ → Bool

-- each position of `to` may follow each of `from` below 62
abbrev pub linked : (ℕ → Bool) → (ℕ → Bool) → (ℕ → ℕ → Bool) → ℕ → ℕ → Bool
linked from to link x y = link x y || (nat_lt x 62 && (from x && to y))

-- takes up the last operand, if there is one
abbrev pub on_last : Pass → List Summary → (Summary → List Summary → Pass) → Pass
on_last m [] f = m
on_last m (a ∷ ss) f = f a ss

-- takes up the last two operands, if there are two
abbrev pub on_two : Pass → List Summary → (Summary → Summary → List Summary → Pass) → Pass
on_two m [] f = m
on_two m (b ∷ []) f = m
on_two m (b ∷ (a ∷ ss)) f = f a b ss

unfoldable pub step : Operation → Pass → Pass
step Empty m = record { pile = of_empty ∷ m.pile; count = m.count; link = m.link }
step Letter m = record { pile = of_letter m.count ∷ m.pile; count = m.count + 1; link = m.link }
step Alternative m = on_two m m.pile (λ a b ss. record { pile = of_alternative a b ∷ ss; count = m.count; link = m.link })
step Sequence m =
    on_two m m.pile (λ a b ss. record { pile = of_sequence a b ∷ ss; count = m.count; link = linked a.last b.first m.link })
step Star m =
    on_last m m.pile (λ a ss. record { pile = of_star a ∷ ss; count = m.count; link = linked a.last a.first m.link })

unfoldable pub run : List Operation → Pass → Pass
run [] m = m
run (o ∷ os) m = run os (step o m)

-- the last operand
abbrev pub top : List Summary → Summary
top [] = of_empty
top (a ∷ ss) = a
