-- Records of properties, each of which has an object and a name. Of the records of one property the last counts.
use Rattle.std.specs.Prelude.{◌≡◌, ℕ, suc, ◌<◌, Bool, true, false, cond, ◌&&◌, List, [], ◌∷◌, length, Some, None, Option, MatchOption, ◌==◌, slice_index_or}
use Rattle.std.specs.Str.{bytes_eq}
use Rattle.lexer.specs.Names.{Name}

-- whether two properties are one
abbrev pub same : ℕ → Name → ℕ → Name → Bool
same o n p q = o == p && bytes_eq n q

-- whether a record is of a property
abbrev pub fits : {R : Type 0} → (R → ℕ) → (R → Name) → ℕ → Name → R → Bool
fits owner called o n r = same (owner r) (called r) o n

-- the place in a list, from that in its tail and whether its head passes
abbrev pub next_place : Option ℕ → Bool → Option ℕ
next_place (Some i) here = Some (suc i)
next_place None here = cond here (Some 0) None

-- the place of the last record that passes a test
abbrev pub last_place : {R : Type 0} → (R → Bool) → List R → Option ℕ
last_place p [] = None
last_place p (r ∷ rs) = next_place (last_place p rs) (p r)

-- the value of the last record that passes, or the one given
abbrev pub latest : {R V : Type 0} → (R → V) → (R → Bool) → List R → V → V
latest value p [] d = d
latest value p (r ∷ rs) d = latest value p rs (cond (p r) (value r) d)

-- no record passes
abbrev pub Absent : {R : Type 0} → (R → Bool) → List R → Type 0
Absent {R} p rs = (k : ℕ) (d : R) → k < length rs → p (slice_index_or rs k d) ≡ false

-- the record at a place passes, and no later one does
pub record Last {R : Type 0} (p : R → Bool) (rs : List R) (i : ℕ) : Type 0 where
  pub within : i < length rs
  pub passes : (d : R) → p (slice_index_or rs i d) ≡ true
  pub later : (k : ℕ) (d : R) → i < k → k < length rs → p (slice_index_or rs k d) ≡ false

-- what a search answers: the place of the last record that passes, or none where none does
abbrev pub Found : {R : Type 0} → (R → Bool) → List R → Option ℕ → Type 0
Found p rs r = MatchOption r (Absent p rs) (Last p rs)

-- no two of the first n records are of one property
abbrev pub Apart : {R : Type 0} → (R → ℕ) → (R → Name) → List R → ℕ → Type 0
Apart {R} owner called rs n = (j k : ℕ) (d : R) → j < n → k < n → owner (slice_index_or rs j d) ≡ owner (slice_index_or rs k d) → called (slice_index_or rs j d) ≡ called (slice_index_or rs k d) → j ≡ k
