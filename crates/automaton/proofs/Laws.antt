-- The laws of residues.
use Rattle.std.proofs.Common.{◌≡◌, ℕ, ◌+◌, ◌^◌, ◌<◌, Bool, true, false, ◌&&◌, ◌||◌, eqb, [], ◌∷◌, ◌++◌, get_or, Some, Option, sym, refl, ap, ◌∙◌, subst, inl, inr, arith}
use Rattle.lexer.specs.Names.{Name, Path, lawful, all_lawful}
use Rattle.std.proofs.lemmas.Bool.{and_from, ne_eqb}
use Rattle.std.proofs.lemmas.Bool.Decides.{nat_tests}
use Rattle.expression.specs.Expressions.{Letter, Expr, empty, letter, alternative, sequence, star, fits}
use Rattle.expression.specs.Held.{read_tree, write_tree}
use Rattle.expression.specs.Languages.{Repeated, none, more, In, before, remaining}
use Rattle.expression.specs.declared.letter.Letter.TheVariants.{Any}
use Rattle.expression.proofs.Languages.{Within, ends_in, remaining_in, some_in, union_in, before_in, cond_in}
use Rattle.expression.proofs.Tabled.{letters_are}
use Rattle.automaton.specs.Bits.{bit}
use Rattle.automaton.specs.Positions.{size, rest, Labelled, left_by, beginning, whole_path}
use Rattle.automaton.specs.Residues.{reads_left, writes_left, BeginningsAreLeft, ResiduesAreLawful, StartsLeaveAll}
use Rattle.automaton.specs.Tells.{letter_at}
use Rattle.automaton.proofs.Labels.{held_by, fits_lawful, first_labelled, second_labelled}
use Rattle.automaton.proofs.Lefts.{left_decides, front_begins}
use Rattle.automaton.proofs.Masks.{bit_of_or, bit_of_one}
use Rattle.automaton.proofs.Sums.{some_none}

-- ---- beginnings

pub beginnings_are_left : BeginningsAreLeft
unfolding reads_left
beginnings_are_left a r p q h =
    let e = read_tree a.trees in
    (left_decides beginning e 0 (bit r) (bit r 62) p).1
    (elim ((left_decides beginning e 0 (bit r) (bit r 62) (p ++ q)).0 h) [
      | inl (x, l, (m, b)) ↦ inl (x, l, (m, front_begins (rest e 0 x) p q b))
      | inr (m, b) ↦ inr (m, front_begins (Some e) p q b)
    ])

-- ---- lawful names

-- the names of joined paths are those of both
all_lawful-append : (u v : Path) → all_lawful (u ++ v) ≡ (all_lawful u && all_lawful v)
all_lawful-append [] v = refl
all_lawful-append (p ∷ u) v = let h = all_lawful-append u v in grind arith

front_lawful : (u v : Path) → all_lawful (u ++ v) ≡ true → all_lawful u ≡ true
front_lawful u v h = let e = all_lawful-append u v in grind arith

joined_lawful : {w : Path} (u v : Path) → u ++ v ≡ w → all_lawful u ≡ true → all_lawful v ≡ true → all_lawful w ≡ true
joined_lawful u v e h k = let l = all_lawful-append u v in grind arith

repeated_lawful : (P : Path → Type 0) → ((u : Path) → P u → all_lawful u ≡ true) → {w : Path} → Repeated P w → all_lawful w ≡ true
repeated_lawful P each none = refl
repeated_lawful P each (more u v e h s) = joined_lawful u v e (each u h) (repeated_lawful P each s)

module _ (f : ℕ → Letter) (ok : (y : ℕ) (p : Name) → fits (f y) p ≡ true → lawful p ≡ true) where
  -- the paths of a tree with such letters have lawful names
  in_lawful : (e : Expr) (i : ℕ) → Labelled f e i → (w : Path) → In e w → all_lawful w ≡ true
  in_lawful empty i l w h = subst (λ t. all_lawful t ≡ true) (sym h) refl
  in_lawful (letter n) i l w (p, e, h) =
      subst (λ t. all_lawful t ≡ true) (sym e) (and_from (lawful p) true (ok i p (ap (λ t. fits t p) l ∙ h)) refl)
  in_lawful (alternative a b) i l w (inl h) = in_lawful a i l.0 w h
  in_lawful (alternative a b) i l w (inr h) = in_lawful b (i + size a) l.1 w h
  in_lawful (sequence a b) i l w (u, v, e, h, k) =
      joined_lawful u v e (in_lawful a i l.0 u h) (in_lawful b (i + size a) l.1 v k)
  in_lawful (star a) i l w h = repeated_lawful (In a) (in_lawful a i l) h

  -- and so have those after a position
  rest_lawful : (e : Expr) (i x : ℕ) → Labelled f e i → (w : Path) → Within (rest e i x) w → all_lawful w ≡ true
  unfolding rest
  rest_lawful empty i x l w h = absurd h
  rest_lawful (letter n) i x l w h = subst (λ t. all_lawful t ≡ true) (sym ((cond_in (eqb x i) (Some empty) w).0 h).1) refl
  rest_lawful (alternative a b) i x l w h =
      elim ((union_in (rest a i x) (rest b (i + size a) x) w).0 h) [
        | inl k ↦ rest_lawful a i x l.0 w k
        | inr k ↦ rest_lawful b (i + size a) x l.1 w k
      ]
  rest_lawful (sequence a b) i x l w h =
      elim ((union_in (before (rest a i x) b) (rest b (i + size a) x) w).0 h) [
        | inl k ↦
            let (u, v, e, m, n) = (before_in (rest a i x) b w).0 k in
            joined_lawful u v e (rest_lawful a i x l.0 u m) (in_lawful b (i + size a) l.1 v n)
        | inr k ↦ rest_lawful b (i + size a) x l.1 w k
      ]
  rest_lawful (star a) i x l w h =
      let (u, v, e, m, n) = (before_in (rest a i x) (star a) w).0 h in
      joined_lawful u v e (rest_lawful a i x l u m) (in_lawful (star a) i l v n)

  -- and so have all that a set of positions leaves, by a way to tell a path that tells lawful paths only
  left_lawful : (told : Option Expr → Path → Bool)
      → ((x : Option Expr) (q : Path) → ((w : Path) → Within x w → all_lawful w ≡ true) → told x q ≡ true → all_lawful q ≡ true)
      → (e : Expr) (i : ℕ) → Labelled f e i → (marked : ℕ → Bool) (start : Bool) (q : Path)
      → left_by told e i marked start q ≡ true → all_lawful q ≡ true
  left_lawful told each e i l marked start q h =
      elim ((left_decides told e i marked start q).0 h) [
        | inl (x, _, (m, b)) ↦ each (rest e i x) q (rest_lawful e i x l) b
        | inr (m, b) ↦ each (Some e) q (in_lawful e i l) b
      ]

begun_lawful : (x : Option Expr) (q : Path) → ((w : Path) → Within x w → all_lawful w ≡ true) → beginning x q ≡ true → all_lawful q ≡ true
begun_lawful x q each h =
    let (v, k) = (some_in (remaining x q)).0 h in front_lawful q v (each (q ++ v) ((remaining_in x q v).0 k))

whole_lawful : (x : Option Expr) (q : Path) → ((w : Path) → Within x w → all_lawful w ≡ true) → whole_path x q ≡ true → all_lawful q ≡ true
whole_lawful x q each h = front_lawful q [] (each (q ++ []) ((remaining_in x q []).0 ((ends_in (remaining x q)).0 h)))

pub residues_are_lawful : ResiduesAreLawful
unfolding reads_left writes_left
residues_are_lawful a r q =
    let R = read_tree a.trees in
    let W = write_tree a.trees in
    let held = held_by a.trees in
    let ok = λ (y : ℕ). fits_lawful (get_or held y Any) in
    record {
      reads = left_lawful (letter_at held) ok beginning begun_lawful R 0 (first_labelled held R W (letters_are a.trees)) (bit r) (bit r 62) q;
      writes = left_lawful (letter_at held) ok whole_path whole_lawful W (size R) (second_labelled held R W (letters_are a.trees)) (bit r) (bit r 63) q;
    }

-- ---- the start

-- where no position is marked, the start leaves all or nothing
only_start : (told : Option Expr → Path → Bool) (e : Expr) (i : ℕ) (marked : ℕ → Bool) (start : Bool) (q : Path)
    → ((x : ℕ) → x < 62 → marked x ≡ false) → left_by told e i marked start q ≡ (start && told (Some e) q)
only_start told e i marked start q h =
    ap (λ b. b || (start && told (Some e) q))
    (some_none 62 (λ x. marked x && told (rest e i x) q) (λ x l. ap (λ b. b && told (rest e i x) q) (h x l)))

-- the bits of both starts
both_bits : (x : ℕ) → bit (2 ^ 62 + 2 ^ 63) x ≡ (eqb x 62 || eqb x 63)
both_bits x = bit_of_or (2 ^ 62) (2 ^ 63) x ∙ (λ i. bit_of_one 62 x i || bit_of_one 63 x i)

pub starts_leave_all : StartsLeaveAll
unfolding reads_left writes_left
starts_leave_all a q =
    let R = read_tree a.trees in
    let W = write_tree a.trees in
    let both : (x : ℕ) → x < 62 → bit (2 ^ 62 + 2 ^ 63) x ≡ false = λ x l. both_bits x ∙ grind (arith, nat_tests) in
    let one : (x : ℕ) → x < 62 → bit (2 ^ 62) x ≡ false = λ x l. bit_of_one 62 x ∙ ne_eqb x 62 (λ e. omega arith) in
    record {
      reads = only_start beginning R 0 (bit (2 ^ 62 + 2 ^ 63)) (bit (2 ^ 62 + 2 ^ 63) 62) q both ∙ ap (λ b. b && beginning (Some R) q) (both_bits 62);
      writes = only_start whole_path W (size R) (bit (2 ^ 62 + 2 ^ 63)) (bit (2 ^ 62 + 2 ^ 63) 63) q both ∙ ap (λ b. b && whole_path (Some W) q) (both_bits 63);
      reads_alone = only_start beginning R 0 (bit (2 ^ 62)) (bit (2 ^ 62) 62) q one ∙ ap (λ b. b && beginning (Some R) q) (bit_of_one 62 62);
      writes_alone = only_start whole_path W (size R) (bit (2 ^ 62)) (bit (2 ^ 62) 63) q one ∙ ap (λ b. b && whole_path (Some W) q) (bit_of_one 62 63);
    }
