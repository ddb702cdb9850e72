-- Classes that are the same, and lists of classes.
use Rattle.std.proofs.Common.{◌≡◌, T, refl}
use Rattle.lexer.specs.Classes.{same}
use Rattle.lexer.specs.declared.class.Class.{Class}
use Rattle.lexer.specs.declared.class.Class.TheVariants.{Other, Blank, Letter, Digit, Sign}

pub same_is : (k l : Class) → T (same k l) → k ≡ l
same_is Other Other h = refl
same_is Other Blank h = absurd h
same_is Other Letter h = absurd h
same_is Other Digit h = absurd h
same_is Other Sign h = absurd h
same_is Blank Other h = absurd h
same_is Blank Blank h = refl
same_is Blank Letter h = absurd h
same_is Blank Digit h = absurd h
same_is Blank Sign h = absurd h
same_is Letter Other h = absurd h
same_is Letter Blank h = absurd h
same_is Letter Letter h = refl
same_is Letter Digit h = absurd h
same_is Letter Sign h = absurd h
same_is Digit Other h = absurd h
same_is Digit Blank h = absurd h
same_is Digit Letter h = absurd h
same_is Digit Digit h = refl
same_is Digit Sign h = absurd h
same_is Sign Other h = absurd h
same_is Sign Blank h = absurd h
same_is Sign Letter h = absurd h
same_is Sign Digit h = absurd h
same_is Sign Sign h = refl
