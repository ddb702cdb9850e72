-- The class of a byte, by ranges.
use Rattle.std.specs.Prelude.{ℕ, Bool, true, false, cond, ◌&&◌, ◌||◌, List, [], ◌∷◌, ◌==◌, nat_le}
use Rattle.std.specs.List.{list_any}
use Rattle.lexer.specs.declared.class.Class.{Class}
use Rattle.lexer.specs.declared.class.Class.TheVariants.{Other, Blank, Letter, Digit, Sign}

abbrev pub among : List ℕ → ℕ → Bool
among [] b = false
among (x ∷ xs) b = b == x || among xs b

abbrev pub between : ℕ → ℕ → ℕ → Bool
between low high b = nat_le low b && nat_le b high

-- tab, line feed, carriage return, space
abbrev pub is_blank : ℕ → Bool
is_blank b = among (9 ∷ 10 ∷ 13 ∷ 32 ∷ []) b

-- A to Z, a to z, underscore
abbrev pub is_letter : ℕ → Bool
is_letter b = between 65 90 b || between 97 122 b || b == 95

-- 0 to 9
abbrev pub is_digit : ℕ → Bool
is_digit b = between 48 57 b

-- . = ; { } ( ) < + - * | ?
abbrev pub is_sign : ℕ → Bool
is_sign b = among (46 ∷ 61 ∷ 59 ∷ 123 ∷ 125 ∷ 40 ∷ 41 ∷ 60 ∷ 43 ∷ 45 ∷ 42 ∷ 124 ∷ 63 ∷ []) b

unfoldable pub class_of : ℕ → Class
class_of b = cond (is_blank b) Blank (cond (is_letter b) Letter (cond (is_digit b) Digit (cond (is_sign b) Sign Other)))

-- whether two classes are one
abbrev pub same : Class → Class → Bool
same Other Other = true
same Blank Blank = true
same Letter Letter = true
same Digit Digit = true
same Sign Sign = true
same k l = false

-- a class is one of these
abbrev pub one_of : List Class → Class → Bool
one_of ls k = list_any (λ l. same l k) ls

-- the class of b is one of these
abbrev pub classed : List Class → ℕ → Bool
classed ks b = one_of ks (class_of b)

abbrev pub letters : List Class
letters = Letter ∷ []

abbrev pub digits : List Class
digits = Digit ∷ []

abbrev pub letters_or_digits : List Class
letters_or_digits = Letter ∷ Digit ∷ []

abbrev pub blanks : List Class
blanks = Blank ∷ []
