-- The variables, and the number of one.
use Rattle.std.proofs.Common.{◌≡◌, ℕ, suc, ◌+◌, ◌<◌, ◌≤◌, Bool, true, false, cond, ◌||◌, List, [], ◌∷◌, ◌++◌, map, length, Some, None, Option, sym, refl, ap, ◌∙◌, add-zero, arith}
use lib.ListN.{length-map}
use Rattle.std.specs.List.{position, position_from}
use Rattle.std.specs.Str.{bytes_eq}
use Rattle.std.proofs.lemmas.Iterator.Adapters.{position_from-zero}
use Rattle.std.proofs.lemmas.Slice.Eq.{bytes_eq-Decides}
use Rattle.std.proofs.lemmas.List.{length_push, map-append}
use Rattle.std.proofs.lemmas.Bool.{or_left, or_right, or_parts}
use Rattle.bounded.specs.Rows.{entries_of}
use Rattle.lexer.specs.Names.{Name}
use Rattle.lexer.specs.Spelled.{spelled}
use Rattle.lexer.specs.declared.name.Name.{Name as Held}
use Rattle.script.specs.Reading.{among}
use Rattle.parser.specs.Numbering.{variables_of, index_of, Sought, Numbered}
use Rattle.parser.specs.declared.variables.Variables.{Variables}

pub few_variables : (v : Variables) → length (variables_of v) ≤ 16
few_variables v = let few = v.few in omega (arith, length-map (entries_of v.names) spelled)

-- a name is the same as itself
same_name : (n : Name) → bytes_eq n n ≡ true
same_name n = (bytes_eq-Decides n n).1 refl

-- ---- the search

-- what a search tells that counts from i on, where a name is known or not, and so many stand before it
abbrev SoughtFrom : ℕ → Bool → ℕ → Option ℕ → Type 0
SoughtFrom i known before (Some j) = (known ≡ true) × (j ≡ i + before)
SoughtFrom i known before None = known ≡ false

position_from_sought : (es : List Held) (n : Name) (i : ℕ) → SoughtFrom i (among (map spelled es) n) (index_of (map spelled es) n) (position_from (λ e. bytes_eq (spelled e) n) i es)
unfolding index_of
position_from_sought [] n i = refl
position_from_sought (e ∷ es) n i = go (bytes_eq (spelled e) n) _ (position_from_sought es n (i + 1))
  where
    go : (here : Bool) (r : Option ℕ) → SoughtFrom (i + 1) (among (map spelled es) n) (index_of (map spelled es) n) r → SoughtFrom i (here || among (map spelled es) n) (cond here 0 (suc (index_of (map spelled es) n))) (cond here (Some i) r)
    go true r later = (refl, sym (add-zero i))
    go false (Some j) later = (later.0, omega arith)
    go false None later = later

pub position_sought : (es : List Held) (n : Name) → Sought (map spelled es) n (position (λ e. bytes_eq (spelled e) n) es)
position_sought es n = go _ (rw (position_from-zero (λ e. bytes_eq (spelled e) n) es) (position_from_sought es n 0))
  where
    go : (r : Option ℕ) → SoughtFrom 0 (among (map spelled es) n) (index_of (map spelled es) n) r → Sought (map spelled es) n r
    go (Some j) told = (told.0, omega arith)
    go None told = told

-- ---- a new variable

among_end : (vs : List Name) (n : Name) → among (vs ++ n ∷ []) n ≡ true
among_end [] n = or_left _ _ (same_name n)
among_end (v ∷ vs) n = or_right _ _ (among_end vs n)

index_end : (vs : List Name) (n : Name) → among vs n ≡ false → index_of (vs ++ n ∷ []) n ≡ length vs
unfolding index_of
index_end [] n e = ap (λ b. cond b 0 1) (same_name n)
index_end (v ∷ vs) n e =
    let parts = or_parts _ _ e in
    ap (λ b. cond b 0 (suc (index_of (vs ++ n ∷ []) n))) parts.0 ∙ ap suc (index_end vs n parts.1)

module _ (es : List Held) (n : Name) (sought : Sought (map spelled es) n None) where
  -- the number of a name that was added
  pub numbered_new : (e : Held) → spelled e ≡ n → (i : ℕ) → i ≡ length es → length es < 16 → Numbered (map spelled es) n (map spelled (es ++ e ∷ [])) (Some i)
  numbered_new e is i at few =
      let names : map spelled (es ++ e ∷ []) ≡ map spelled es ++ n ∷ [] = map-append spelled es (e ∷ []) ∙ ap (λ x. map spelled es ++ x ∷ []) is in
      let counted = length-map es spelled in (
        names ∙ sym (ap (λ b. cond b (map spelled es) (map spelled es ++ n ∷ [])) sought),
        ap (λ us. among us n) names ∙ among_end (map spelled es) n,
        at ∙ sym counted ∙ sym (index_end (map spelled es) n sought) ∙ ap (λ us. index_of us n) (sym names),
        omega (arith, ap length names ∙ length_push (map spelled es) n),
      )
