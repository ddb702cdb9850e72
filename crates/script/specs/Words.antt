-- The words of scripts that are no names.
use Rattle.std.specs.Prelude.{ℕ, cond, List, codes}
use Rattle.std.specs.Str.{bytes_eq}

pub data Word : Type 0 where
  if_word : Word
  else_word : Word
  while_word : Word
  say_word : Word
  cut_word : Word
  has_word : Word
  -- any other
  plain_word : Word

unfoldable pub word_of : List ℕ → Word
word_of w =
    cond (bytes_eq w (codes "if")) if_word
    (cond (bytes_eq w (codes "else")) else_word
    (cond (bytes_eq w (codes "while")) while_word
    (cond (bytes_eq w (codes "say")) say_word
    (cond (bytes_eq w (codes "cut")) cut_word
    (cond (bytes_eq w (codes "has")) has_word plain_word)))))
