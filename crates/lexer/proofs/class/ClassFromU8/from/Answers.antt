-- The rule of the table is one test, which the checker computes at each of the entries.
use Rattle.std.proofs.Common.{ℕ, ◌<◌, Bool, List, [], ◌∷◌, get_or, rules}
use Rattle.lexer.specs.Classes.{class_of, same}
use Rattle.lexer.specs.declared.class.Class.{Class}
use Rattle.lexer.specs.declared.class.Class.TheVariants.{Blank as B, Digit as D, Letter as L, Other as O, Sign as S}
use Rattle.lexer.proofs.Classes.{same_is}
use Rattle.lexer.proofs.Table.{at}
use Rattle.lexer.proofs.class.ClassFromU8.from.Goals as goal

classes : List Class
classes =
    O ∷ O ∷ O ∷ O ∷ O ∷ O ∷ O ∷ O ∷ O ∷ B ∷ B ∷ O ∷ O ∷ B ∷ O ∷ O ∷
    O ∷ O ∷ O ∷ O ∷ O ∷ O ∷ O ∷ O ∷ O ∷ O ∷ O ∷ O ∷ O ∷ O ∷ O ∷ O ∷
    B ∷ O ∷ O ∷ O ∷ O ∷ O ∷ O ∷ O ∷ S ∷ S ∷ S ∷ S ∷ O ∷ S ∷ S ∷ O ∷
    D ∷ D ∷ D ∷ D ∷ D ∷ D ∷ D ∷ D ∷ D ∷ D ∷ O ∷ S ∷ S ∷ S ∷ O ∷ S ∷
    O ∷ L ∷ L ∷ L ∷ L ∷ L ∷ L ∷ L ∷ L ∷ L ∷ L ∷ L ∷ L ∷ L ∷ L ∷ L ∷
    L ∷ L ∷ L ∷ L ∷ L ∷ L ∷ L ∷ L ∷ L ∷ L ∷ L ∷ O ∷ O ∷ O ∷ O ∷ L ∷
    O ∷ L ∷ L ∷ L ∷ L ∷ L ∷ L ∷ L ∷ L ∷ L ∷ L ∷ L ∷ L ∷ L ∷ L ∷ L ∷
    L ∷ L ∷ L ∷ L ∷ L ∷ L ∷ L ∷ L ∷ L ∷ L ∷ L ∷ S ∷ S ∷ S ∷ O ∷ O ∷
    O ∷ O ∷ O ∷ O ∷ O ∷ O ∷ O ∷ O ∷ O ∷ O ∷ O ∷ O ∷ O ∷ O ∷ O ∷ O ∷
    O ∷ O ∷ O ∷ O ∷ O ∷ O ∷ O ∷ O ∷ O ∷ O ∷ O ∷ O ∷ O ∷ O ∷ O ∷ O ∷
    O ∷ O ∷ O ∷ O ∷ O ∷ O ∷ O ∷ O ∷ O ∷ O ∷ O ∷ O ∷ O ∷ O ∷ O ∷ O ∷
    O ∷ O ∷ O ∷ O ∷ O ∷ O ∷ O ∷ O ∷ O ∷ O ∷ O ∷ O ∷ O ∷ O ∷ O ∷ O ∷
    O ∷ O ∷ O ∷ O ∷ O ∷ O ∷ O ∷ O ∷ O ∷ O ∷ O ∷ O ∷ O ∷ O ∷ O ∷ O ∷
    O ∷ O ∷ O ∷ O ∷ O ∷ O ∷ O ∷ O ∷ O ∷ O ∷ O ∷ O ∷ O ∷ O ∷ O ∷ O ∷
    O ∷ O ∷ O ∷ O ∷ O ∷ O ∷ O ∷ O ∷ O ∷ O ∷ O ∷ O ∷ O ∷ O ∷ O ∷ O ∷
    O ∷ O ∷ O ∷ O ∷ O ∷ O ∷ O ∷ O ∷ O ∷ O ∷ O ∷ O ∷ O ∷ O ∷ O ∷ O ∷ []

right : ℕ → Class → Bool
right k x = same x (class_of k)

pub returns : goal.returns
unfolding classes right class_of
returns c = let low : c.args.b < 256 = search rules in same_is (get_or classes c.args.b O) (class_of c.args.b) (at right classes tt c.args.b O low)
