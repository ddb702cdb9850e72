-- Trees as operations in postfix order and a row of letters.
use Rattle.std.specs.Prelude.{ℕ, ◌+◌, ◌-◌, Bool, ◌&&◌, List, [], ◌∷◌, ◌++◌, map, ◌==◌, nat_le}
use Rattle.bounded.specs.Rows.{entries_of}
use Rattle.bounded.specs.declared.row.Row.{Row}
use Rattle.lexer.specs.Spelled.{spelled}
use Rattle.expression.specs.Expressions.{Letter, any, named, Expr, empty, letter, alternative, sequence, star}
use Rattle.expression.specs.declared.letter.Letter.{Letter as Held}
use Rattle.expression.specs.declared.letter.Letter.TheVariants.{Any, Named}
use Rattle.expression.specs.declared.operation.Operation.{Operation}
use Rattle.expression.specs.declared.operation.Operation.TheVariants as operation

-- the letter that the code holds
abbrev pub letter_of : Held → Letter
letter_of Any = any
letter_of (Named n) = named (spelled n)

-- the letters that a row holds
abbrev pub letters_of : Row Held 62 → List Letter
letters_of r = map letter_of (entries_of r)

-- the operations of a tree: those of its parts, and then its own
unfoldable pub postfix : Expr → List Operation
postfix empty = operation.Empty ∷ []
postfix (letter l) = operation.Letter ∷ []
postfix (alternative a b) = postfix a ++ (postfix b ++ (operation.Alternative ∷ []))
postfix (sequence a b) = postfix a ++ (postfix b ++ (operation.Sequence ∷ []))
postfix (star a) = postfix a ++ (operation.Star ∷ [])

-- the letters of a tree, from left to right
unfoldable pub leaves : Expr → List Letter
leaves empty = []
leaves (letter l) = l ∷ []
leaves (alternative a b) = leaves a ++ leaves b
leaves (sequence a b) = leaves a ++ leaves b
leaves (star a) = leaves a

-- the tree that operations make of letters, upon operands that lie there already, the last first
unfoldable pub build : List Operation → List Letter → List Expr → Expr
build [] ls [] = empty
build [] ls (e ∷ es) = e
build (operation.Empty ∷ os) ls es = build os ls (empty ∷ es)
build (operation.Letter ∷ os) [] es = empty
build (operation.Letter ∷ os) (l ∷ ls) es = build os ls (letter l ∷ es)
build (operation.Alternative ∷ os) ls [] = empty
build (operation.Alternative ∷ os) ls (b ∷ []) = empty
build (operation.Alternative ∷ os) ls (b ∷ (a ∷ es)) = build os ls (alternative a b ∷ es)
build (operation.Sequence ∷ os) ls [] = empty
build (operation.Sequence ∷ os) ls (b ∷ []) = empty
build (operation.Sequence ∷ os) ls (b ∷ (a ∷ es)) = build os ls (sequence a b ∷ es)
build (operation.Star ∷ os) ls [] = empty
build (operation.Star ∷ os) ls (a ∷ es) = build os ls (star a ∷ es)

-- operations that make one operand of so many letters, where so many operands lie already
unfoldable pub formed : List Operation → ℕ → ℕ → Bool
formed [] letters height = letters == 0 && height == 1
formed (operation.Empty ∷ os) letters height = formed os letters (height + 1)
formed (operation.Letter ∷ os) letters height = nat_le 1 letters && formed os (letters - 1) (height + 1)
formed (operation.Alternative ∷ os) letters height = nat_le 2 height && formed os letters (height - 1)
formed (operation.Sequence ∷ os) letters height = nat_le 2 height && formed os letters (height - 1)
formed (operation.Star ∷ os) letters height = nat_le 1 height && formed os letters height
