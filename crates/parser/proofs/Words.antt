-- The words told apart by their lengths and bytes, as a match on the bytes tells them.
use Rattle.std.proofs.Common.{◌≡◌, ℕ, ◌+◌, ◌≤◌, cond, eqb, ltb, List, [], ◌∷◌, length, get_or, codes, Bool, true, false, ◌&&◌, refl, arith}
use Rattle.std.proofs.Math.Bool.{and-true, and-false}
use Rattle.std.proofs.lemmas.Bool.{le-ltb}
use Rattle.script.specs.Words.{Word, if_word, else_word, while_word, say_word, cut_word, has_word, plain_word, word_of}

-- a word where the bytes from a place on are these, and else another
abbrev pub reads : List ℕ → ℕ → List ℕ → Word → Word → Word
reads s i [] word other = word
reads s i (c ∷ cs) word other = cond (eqb (get_or s i 0) c) (reads s (i + 1) cs word other) other

abbrev pub by_length : ℕ → List ℕ → Word
by_length n s =
    cond (ltb n 2) plain_word
    (cond (ltb n 3) (reads s 0 (codes "if") if_word plain_word)
    (cond (ltb n 4) (reads s 0 (codes "say") say_word (reads s 0 (codes "cut") cut_word (reads s 0 (codes "has") has_word plain_word)))
    (cond (ltb n 5) (reads s 0 (codes "else") else_word plain_word)
    (cond (ltb n 6) (reads s 0 (codes "while") while_word plain_word) plain_word))))

cond_and : (a b : Bool) (x y : Word) → cond (a && b) x y ≡ cond a (cond b x y) y
cond_and true b x y = refl
cond_and false b x y = refl

pub word_by_length : (s : List ℕ) → word_of s ≡ by_length (length s) s
unfolding word_of
word_by_length [] = refl
word_by_length (a ∷ []) = simp and-false
word_by_length (a ∷ b ∷ []) = simp (and-false, and-true, cond_and)
word_by_length (a ∷ b ∷ c ∷ []) = simp (and-false, and-true, cond_and)
word_by_length (a ∷ b ∷ c ∷ d ∷ []) = simp (and-false, and-true, cond_and)
word_by_length (a ∷ b ∷ c ∷ d ∷ e ∷ []) = simp (and-false, and-true, cond_and)
word_by_length (a ∷ b ∷ c ∷ d ∷ e ∷ f ∷ s) =
    let long : (k : ℕ) → k ≤ 6 → ltb (length (a ∷ b ∷ c ∷ d ∷ e ∷ f ∷ s)) k ≡ false = λ k few. le-ltb _ k (omega arith) in
    simp (and-false, long 2 (omega arith), long 3 (omega arith), long 4 (omega arith), long 5 (omega arith), long 6 (omega arith))
