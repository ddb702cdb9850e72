-- What the code holds of a contract that was read, and what it tells of one that was refused.
use Rattle.std.specs.Prelude.{[], take, drop, Ok, Err, Result}
use Rattle.bounded.specs.Rows.{entries_of}
use Rattle.expression.specs.Expressions.{Expr}
use Rattle.expression.specs.Reading.{Reading, trees, refusal}
use Rattle.expression.specs.Tables.{letters_of, build}
use Rattle.expression.specs.Texts.{text_number}
use Rattle.expression.specs.declared.texts.Text.{Text}
use Rattle.expression.specs.declared.texts.Text.TheVariants.{Read, Write}
use Rattle.expression.specs.declared.texts.TextRefusal.{TextRefusal}
use Rattle.expression.specs.declared.trees.Tree.{Tree}
use Rattle.expression.specs.declared.trees.Trees.{Trees}

abbrev pub read_tree : Trees → Expr
read_tree t = build (entries_of t.read.operations) (take t.read.letters (letters_of t.letters)) []

abbrev pub write_tree : Trees → Expr
write_tree t = build (entries_of t.write.operations) (drop t.read.letters (letters_of t.letters)) []

-- what the code holds of one of the texts, and its tree
abbrev pub held_tree : Text → Trees → Tree
held_tree Read t = t.read
held_tree Write t = t.write

abbrev pub tree_of : Text → Trees → Expr
tree_of Read t = read_tree t
tree_of Write t = write_tree t

abbrev pub reading_of : Result Trees TextRefusal → Reading
reading_of (Ok t) = trees (read_tree t) (write_tree t)
reading_of (Err x) = refusal x.reason (text_number x.text) x.place
