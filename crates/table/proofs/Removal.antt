-- What a removal does to the graph: the last cell goes to the place of the one that is removed.
use Rattle.std.proofs.Common.{◌≡◌, ℕ, ◌+◌, ◌<◌, ◌≤◌, true, false, cond, ◌⊎◌, List, length, get_or, take, set, Some, None, Option, sym, refl, ap, ◌∙◌, inl, inr, arith}
use Rattle.std.proofs.lemmas.Bool.{both_ways, cases_eq, cases_Bool}
use Rattle.std.proofs.lemmas.Grind.{get_or-set_at}
use Rattle.std.proofs.lemmas.List.{length-set, length-take-le, get_or-take, get_or-set_other, get_or_default}
use Rattle.lexer.specs.Names.{Name}
use Rattle.store.specs.Cells.{owner, called, value_of, CellsApart}
use Rattle.store.specs.Records.{same, fits, last_place}
use Rattle.store.specs.declared.cell.Cell.{Cell}
use Rattle.store.specs.declared.value.Value.TheVariants.{Nothing}
use Rattle.store.proofs.Apart.{alone, apart_removed, fits-found, owner-found, called-found}
use Rattle.store.proofs.Changes.{place_at}
use Rattle.store.proofs.Latest.{place_within, none_passes, place_none_from, place_from, latest_none, latest_place}
use Rattle.store.proofs.Properties.{same_from, same_object, same_name}
use Rattle.table.specs.Tables.{graph_of}

-- the cases of a search, with what it gave
cases_place : (o : Option ℕ) → (o ≡ None) ⊎ ((i : ℕ) × (o ≡ Some i))
cases_place None = inl refl
cases_place (Some i) = inr (i, refl)

-- a property that no cell is of has the default
pub latest_absent : (o : ℕ) (m : Name) (p : ℕ) (q : Name) (xs : List Cell) → last_place (fits owner called o m) xs ≡ None → graph_of xs p q ≡ cond (same o m p q) Nothing (graph_of xs p q)
latest_absent o m p q xs none =
    elim (cases_Bool (same o m p q)) [
      | inl t ↦
          latest_none value_of (fits owner called p q) xs Nothing (sym (place_at owner called xs o m p q (same_object o p m q t) (same_name o p m q t)) ∙ none)
          ∙ sym (ap (λ b. cond b Nothing (graph_of xs p q)) t)
      | inr f ↦ sym (ap (λ b. cond b Nothing (graph_of xs p q)) f)
    ]

-- the graph of the first n cells at the property (p, q)
module _ (cells : List Cell) (n : ℕ) (long : n ≤ length cells) (p : ℕ) (q : Name) where
  graph_none : ((k : ℕ) (d : Cell) → k < n → fits owner called p q (get_or cells k d) ≡ false) → graph_of (take n cells) p q ≡ Nothing
  graph_none none =
      latest_none value_of (fits owner called p q) (take n cells) Nothing
      (place_none_from (fits owner called p q) (take n cells)
      (λ k d h. let len = length-take-le n cells long in let kn : k < n = omega arith in ap (fits owner called p q) (get_or-take n cells k d kn) ∙ none k d kn))

  graph_one : CellsApart cells n → (j : ℕ) (d : Cell) → j < n → fits owner called p q (get_or cells j d) ≡ true → graph_of (take n cells) p q ≡ value_of (get_or cells j d)
  graph_one apart j d jn t =
      let len = length-take-le n cells long in
      let passes : (r : Cell) → fits owner called p q (get_or cells j r) ≡ true = λ r. ap (fits owner called p q) (get_or_default cells j r d (omega arith)) ∙ t in
      latest_place value_of (fits owner called p q) (take n cells) j d Nothing
      (place_from (fits owner called p q) (take n cells) j (omega arith)
      (λ r. ap (fits owner called p q) (get_or-take n cells j r jn) ∙ passes r)
      (λ k r l h. let kn : k < n = omega arith in ap (fits owner called p q) (get_or-take n cells k r kn) ∙ alone owner called cells n apart p q j k r jn kn (omega arith) (passes r)))
      ∙ ap value_of (get_or-take n cells j d jn)

-- the last of n + 1 cells goes to the place i of the one of the property (o, m)
module _ (o : ℕ) (m : Name) (p : ℕ) (q : Name) (cells : List Cell) (n i : ℕ) (z : Cell) (long : n < length cells) (apart : CellsApart cells (n + 1)) (at : last_place (fits owner called o m) (take (n + 1) cells) ≡ Some i) (last : z ≡ get_or cells n z) where
  abbrev new : List Cell
  new = set cells i z

  new_long : n ≤ length new
  new_long = simp length-set (omega arith)

  i_within : i < n + 1
  i_within = let l = length-take-le (n + 1) cells (omega arith) in let h = place_within (fits owner called o m) (take (n + 1) cells) i at in omega arith

  -- where the cell at a place came from
  came : (k : ℕ) (d : Cell) → k < n → record { place : ℕ; within : place < n + 1; other : place ≡ i → ⊥; is : get_or new k d ≡ get_or cells place d }
  came k d h =
      elim (cases_eq k i) [
        | inl e ↦ record { place = n; within = omega arith; other = omega arith; is = get_or-set_at cells i k z d e (omega arith) ∙ last ∙ get_or_default cells n z d long }
        | inr ne ↦ record { place = k; within = omega arith; other = ne; is = get_or-set_other cells i k z d ne }
      ]

  -- where the cell at a place went
  went : (j : ℕ) (d : Cell) → j < n + 1 → (j ≡ i → ⊥) → record { place : ℕ; within : place < n; is : get_or new place d ≡ get_or cells j d }
  went j d h ne =
      let w = i_within in
      elim (cases_eq j n) [
        | inl e ↦ record { place = i; within = omega arith; is = get_or-set_at cells i i z d refl (omega arith) ∙ last ∙ get_or_default cells n z d long ∙ ap (λ a. get_or cells a d) (sym e) }
        | inr f ↦ record { place = j; within = omega arith; is = get_or-set_other cells i j z d ne }
      ]

  -- the property (p, q) is the one that is removed
  removed_here : o ≡ p → m ≡ q → graph_of (take n new) p q ≡ Nothing
  removed_here e f =
      graph_none new n new_long p q
      (λ k d h.
      let c = came k d h in
      let x = get_or cells i d in
      ap (fits owner called p q) c.is
      ∙ alone owner called cells (n + 1) apart p q i c.place d i_within c.within c.other
      (same_from (owner x) p (called x) q (owner-found owner called cells (n + 1) o m i d i_within at ∙ e) (called-found owner called cells (n + 1) o m i d i_within at ∙ f)))

  -- it is another
  removed_other : same o m p q ≡ false → graph_of (take n new) p q ≡ graph_of (take (n + 1) cells) p q
  removed_other g =
      let len = length-take-le (n + 1) cells (omega arith) in
      elim (cases_place (last_place (fits owner called p q) (take (n + 1) cells))) [
        | inl none ↦
            graph_none new n new_long p q
            (λ k d h.
            let c = came k d h in
            ap (fits owner called p q) (c.is ∙ sym (get_or-take (n + 1) cells c.place d c.within)) ∙ none_passes (fits owner called p q) (take (n + 1) cells) none c.place d (omega (arith, c.within)))
            ∙ sym (latest_none value_of (fits owner called p q) (take (n + 1) cells) Nothing none)
        | inr s ↦
            let j = s.0 in
            let jn : j < n + 1 = let h = place_within (fits owner called p q) (take (n + 1) cells) j s.1 in omega arith in
            let x = get_or cells j z in
            let other : j ≡ i → ⊥ =
            λ e.
            let y = ap (λ a. get_or cells a z) e in
            both_ways (same o m p q) g
            (same_from o p m q (sym (owner-found owner called cells (n + 1) o m i z i_within at) ∙ sym (ap owner y) ∙ owner-found owner called cells (n + 1) p q j z jn s.1) (sym (called-found owner called cells (n + 1) o m i z i_within at) ∙ sym (ap called y) ∙ called-found owner called cells (n + 1) p q j z jn s.1)) in
            let w = went j z jn other in
            graph_one new n new_long p q (apart_removed owner called cells n i z long i_within last apart) w.place z w.within (ap (fits owner called p q) w.is ∙ fits-found owner called cells (n + 1) p q j z jn s.1)
            ∙ ap value_of (w.is ∙ sym (get_or-take (n + 1) cells j z jn))
            ∙ sym (latest_place value_of (fits owner called p q) (take (n + 1) cells) j z Nothing s.1)
      ]

  pub latest_removed : graph_of (take n new) p q ≡ cond (same o m p q) Nothing (graph_of (take (n + 1) cells) p q)
  latest_removed =
      elim (cases_Bool (same o m p q)) [
        | inl t ↦ removed_here (same_object o p m q t) (same_name o p m q t) ∙ sym (ap (λ b. cond b Nothing (graph_of (take (n + 1) cells) p q)) t)
        | inr g ↦ removed_other g ∙ sym (ap (λ b. cond b Nothing (graph_of (take (n + 1) cells) p q)) g)
      ]
