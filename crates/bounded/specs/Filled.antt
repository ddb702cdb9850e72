-- A bounded list: the places lent to it, the entries that fill them from the first on, and the places past these.
use Rattle.std.specs.Prelude.{Bool, cond, List, [], ◌∷◌, ◌++◌, length, take, drop, nat_lt}
use Rattle.bounded.specs.declared.Bounded.{Bounded}

abbrev pub places_of : {T : Type 0} → Bounded T → List T
places_of b = b.places.now

abbrev pub filled : {T : Type 0} → Bounded T → List T
filled b = take b.used (places_of b)

-- what the places past the filled part hold
abbrev pub rest : {T : Type 0} → Bounded T → List T
rest b = drop b.used (places_of b)

abbrev pub has_room : {T : Type 0} → Bounded T → Bool
has_room b = nat_lt (length (filled b)) (length (places_of b))

-- the entries after a push: a full list refuses it
abbrev pub filled_after : {T : Type 0} → Bounded T → T → List T
filled_after b x = cond (has_room b) (filled b ++ x ∷ []) (filled b)

-- what the places past them hold: a push fills the first of these, and the others keep what they held
abbrev pub rest_after : {T : Type 0} → Bounded T → List T
rest_after b = cond (has_room b) (drop 1 (rest b)) (rest b)
