-- What the tables of two trees hold.
use Rattle.std.proofs.Common.{◌≡◌, true, ◌++◌, length, take, drop, sym, ap, ◌∙◌, arith}
use Rattle.std.proofs.lemmas.List.{length-map, length-take-le, length-drop, take-append-drop}
use Rattle.bounded.specs.Rows.{entries_of}
use Rattle.expression.specs.Held.{read_tree, write_tree, tree_of, held_tree}
use Rattle.expression.specs.Tables.{letter_of, letters_of, postfix, leaves, formed}
use Rattle.expression.specs.declared.texts.Text.{Text}
use Rattle.expression.specs.declared.texts.Text.TheVariants.{Read, Write}
use Rattle.expression.specs.declared.trees.Trees.{Trees}
use Rattle.expression.proofs.Formed.{tree_operations, tree_letters}

module _ (t : Trees) where
  count : length (letters_of t.letters) ≡ length (entries_of t.letters)
  count = length-map (entries_of t.letters) letter_of

  -- how many letters each text has
  read_count : length (take t.read.letters (letters_of t.letters)) ≡ t.read.letters
  read_count = let all = t.all in length-take-le t.read.letters (letters_of t.letters) (omega (arith, count))

  write_count : length (drop t.read.letters (letters_of t.letters)) ≡ t.write.letters
  write_count = let all = t.all in length-drop t.read.letters (letters_of t.letters) ∙ omega (arith, count)

  reads : formed (entries_of t.read.operations) (length (take t.read.letters (letters_of t.letters))) 0 ≡ true
  reads = ap (λ n. formed (entries_of t.read.operations) n 0) read_count ∙ t.read.formed

  writes : formed (entries_of t.write.operations) (length (drop t.read.letters (letters_of t.letters))) 0 ≡ true
  writes = ap (λ n. formed (entries_of t.write.operations) n 0) write_count ∙ t.write.formed

  pub operations_are : (text : Text) → entries_of (held_tree text t).operations ≡ postfix (tree_of text t)
  operations_are Read = sym (tree_operations _ _ reads)
  operations_are Write = sym (tree_operations _ _ writes)

  pub letters_are : letters_of t.letters ≡ leaves (read_tree t) ++ leaves (write_tree t)
  letters_are = sym (take-append-drop t.read.letters (letters_of t.letters)) ∙ (λ i. sym (tree_letters _ _ reads) i ++ sym (tree_letters _ _ writes) i)

  pub letter_counts_are : (text : Text) → (held_tree text t).letters ≡ length (leaves (tree_of text t))
  letter_counts_are Read = sym (ap length (tree_letters _ _ reads) ∙ read_count)
  letter_counts_are Write = sym (ap length (tree_letters _ _ writes) ∙ write_count)
