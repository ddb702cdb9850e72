-- Residues, by the masks of an automaton.
use Rattle.std.proofs.Common.{◌≡◌, ℕ, ◌+◌, ◌<◌, ◌≤◌, Bool, true, false, ◌&&◌, ◌||◌, ltb, leb, List, [], ◌∷◌, ◌++◌, map, length, is_some, Some, None, Option, sym, refl, ap, ◌∙◌, true≢false, arith, length-append}
use lib.ListN.{length-map}
use Rattle.lexer.specs.Names.{Name, Path}
use Rattle.std.proofs.lemmas.Bool.{lt-ltb, le-ltb}
use Rattle.std.proofs.lemmas.Bool.Decides.{nat_tests}
use Rattle.expression.specs.Expressions.{Expr, fits}
use Rattle.expression.specs.Held.{read_tree, write_tree}
use Rattle.expression.specs.Languages.{ends}
use Rattle.expression.specs.Tables.{letter_of, leaves}
use Rattle.expression.specs.declared.letter.Letter.{Letter as Held}
use Rattle.automaton.specs.Bits.{bit, Marks}
use Rattle.automaton.specs.Positions.{size, last, rest, some, left_by, beginning, whole_path, reached}
use Rattle.automaton.specs.Residues.{reads_left, writes_left}
use Rattle.automaton.specs.Tells.{letter_at, link_of}
use Rattle.automaton.specs.declared.automaton.Automaton.{Automaton}
use Rattle.automaton.proofs.Labels.{size_is, first_labelled, second_labelled, few_letters}
use Rattle.automaton.proofs.Rests.{rest_some, rest_ends, positions_tell_the_empty_path}
use Rattle.automaton.proofs.Stepped.{not_first, not_follow, reached_by, whole_step, begun_step}
use Rattle.automaton.proofs.Sums.{some_same, some_positions}

-- nothing does not end
nothing_ends : (x : Option Expr) → is_some x ≡ false → ends x ≡ false
nothing_ends None h = refl
nothing_ends (Some e) h = absurd (true≢false h)

-- the numbers below n are those from 0 on
from_zero : (x n : ℕ) → ltb x n ≡ (leb 0 x && ltb x (0 + n))
from_zero x n = grind (arith, nat_tests)

-- the positions that the masks give to a residue, whatever the name
abbrev pub next : Automaton → ℕ → ℕ → Bool
next a at y =
    some 62 (λ x. bit at x && link_of a.follow x y) || ((bit at 62 && bit a.reads.first.mask y) || (bit at 63 && bit a.writes.first.mask y))

-- the positions whose letters stand for the name
abbrev pub matched : List Held → Name → ℕ → Bool
matched held p y = ltb y (length held) && fits (letter_at held y) p

module _ (a : Automaton) where
  abbrev R : Expr
  R = read_tree a.trees

  abbrev W : Expr
  W = write_tree a.trees

  -- ---- one step

  module _ (at : ℕ) (p : Name) (r : ℕ) (held : List Held) (are : map letter_of held ≡ leaves R ++ leaves W)
      (got : Marks r (λ y. next a at y && matched held p y)) where
    count : length held ≡ size R + size W
    count = omega (arith, simp (length-map, length-append) at (ap length are), size_is R, size_is W)

    -- neither start is marked
    over : (k : ℕ) → 62 ≤ k → bit r k ≡ false
    over k h =
        let few = few_letters a.trees in
        let past : ltb k (length held) ≡ false = le-ltb k (length held) (omega (arith, count)) in
        let g = got k in
        grind arith

    -- a letter at a position within the count fits where it stands for the name
    fit : (y : ℕ) → y < size R + size W → matched held p y ≡ fits (letter_at held y) p
    fit y h = ap (λ b. b && fits (letter_at held y) p) (lt-ltb y (length held) (omega (arith, count)))

    read_agrees : (y : ℕ) → is_some (rest R 0 y) ≡ true → bit r y ≡ reached (letter_at held) R 0 (bit at) (bit at 62) p y
    read_agrees y h =
        let low : y < size R = let k = rest_some R 0 y in grind (arith, nat_tests) in
        let out : is_some (rest W (size R) y) ≡ false = let k = rest_some W (size R) y in grind (arith, nat_tests) in
        got y
        ∙ reached_by R 0 (letter_at held) (bit at) (bit at 62) p y
        (λ x. link_of a.follow x y) ((bit at 62 && bit a.reads.first.mask y) || (bit at 63 && bit a.writes.first.mask y)) (matched held p y)
        (λ x l. let k = a.links x y l in let n = not_follow W (size R) x y out in grind arith)
        (let k = ap (λ s. s.first y) a.read in let m = ap (λ s. s.first y) a.write in let n = not_first W (size R) y out in grind arith)
        (fit y (omega arith))

    write_agrees : (y : ℕ) → is_some (rest W (size R) y) ≡ true → bit r y ≡ reached (letter_at held) W (size R) (bit at) (bit at 63) p y
    write_agrees y h =
        let low : y < size R + size W = let k = rest_some W (size R) y in grind (arith, nat_tests) in
        let out : is_some (rest R 0 y) ≡ false = let k = rest_some R 0 y in let m = rest_some W (size R) y in grind (arith, nat_tests) in
        got y
        ∙ reached_by W (size R) (letter_at held) (bit at) (bit at 63) p y
        (λ x. link_of a.follow x y) ((bit at 62 && bit a.reads.first.mask y) || (bit at 63 && bit a.writes.first.mask y)) (matched held p y)
        (λ x l. let k = a.links x y l in let n = not_follow R 0 x y out in grind arith)
        (let k = ap (λ s. s.first y) a.read in let m = ap (λ s. s.first y) a.write in let n = not_first R 0 y out in grind arith)
        (fit y low)

    pub reads_step : (q : Path) → reads_left a r q ≡ reads_left a at (p ∷ q)
    unfolding reads_left
    reads_step q =
        ap (λ s. left_by beginning R 0 (bit r) s q) (over 62 (omega arith))
        ∙ begun_step R 0 (letter_at held) (bit at) (bit at 62) p (bit r) read_agrees (first_labelled held R W are) (omega (arith, few_letters a.trees)) q

    pub writes_step : (q : Path) → writes_left a r q ≡ writes_left a at (p ∷ q)
    unfolding writes_left
    writes_step q =
        ap (λ s. left_by whole_path W (size R) (bit r) s q) (over 63 (omega arith))
        ∙ whole_step W (size R) (letter_at held) (bit at) (bit at 63) p (bit r) write_agrees (second_labelled held R W are) (few_letters a.trees) q

  -- ---- the empty path

  module _ (at : ℕ) where
    pub reads_empty : (n mask : ℕ) → n ≡ length (leaves R) → Marks mask (λ x. ltb x n)
        → reads_left a at [] ≡ (some 64 (λ x. bit at x && bit mask x) || bit at 62)
    unfolding reads_left
    reads_empty n mask e marks =
        let few = few_letters a.trees in
        let count = size_is R in
        let out : (x : ℕ) → 62 ≤ x → (bit at x && bit mask x) ≡ false =
        λ x l. let m = marks x in let k : ltb x n ≡ false = le-ltb x n (omega arith) in grind arith in
        let each : (x : ℕ) → x < 62 → (bit at x && bit mask x) ≡ (bit at x && (leb 0 x && ltb x (0 + size R))) =
        λ x l. let k : n ≡ size R = omega arith in ap (λ b. bit at x && b) (marks x ∙ ap (ltb x) k ∙ from_zero x (size R)) in
        (positions_tell_the_empty_path R 0 (bit at) (bit at 62)).begun
        ∙ sym (ap (λ b. b || bit at 62)
        (some_positions (λ x. bit at x && bit mask x) (out 62 (omega arith)) (out 63 (omega arith)) ∙ some_same 62 _ _ each))

    -- a last position is below 62
    last_below : (x : ℕ) → 62 ≤ x → last W (size R) x ≡ false
    last_below x l =
        let few = few_letters a.trees in
        let out : is_some (rest W (size R) x) ≡ false = let s = rest_some W (size R) x in grind (arith, nat_tests) in
        sym (rest_ends W (size R) x) ∙ nothing_ends (rest W (size R) x) out

    pub writes_empty : writes_left a at [] ≡ (some 64 (λ x. bit at x && bit a.writes.last.mask x) || (bit at 63 && a.writes.nullable))
    unfolding writes_left
    writes_empty =
        let out : (x : ℕ) → 62 ≤ x → (bit at x && bit a.writes.last.mask x) ≡ false =
        λ x l. let m = ap (λ s. s.last x) a.write in let k = last_below x l in grind arith in
        let met =
        some_positions (λ x. bit at x && bit a.writes.last.mask x) (out 62 (omega arith)) (out 63 (omega arith))
        ∙ some_same 62 _ (λ x. bit at x && last W (size R) x) (λ x l. ap (λ b. bit at x && b) (ap (λ s. s.last x) a.write)) in
        (positions_tell_the_empty_path W (size R) (bit at) (bit at 63)).whole
        ∙ sym (λ i. met i || (bit at 63 && (a.write i).nullable))
