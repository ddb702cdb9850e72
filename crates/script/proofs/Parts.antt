-- What the place in an expression tells of the tokens before it, kept by each step.
use Rattle.std.proofs.Common.{◌≡◌, ℕ, Bool, true, false, List, [], ◌∷◌, ◌++◌, Some, None, Option, append_assoc, append-nil}
use Rattle.lexer.specs.Names.{Name}
use Rattle.lexer.specs.Tokens.{Lexeme, name, sign}
use Rattle.script.specs.Trees.{Step, Operator, times, Expr, binary}
use Rattle.script.specs.Words.{has_word, word_of}
use Rattle.script.specs.Reading.{Pending, Level, blank, joined, whole, Spot, wanting, asked, named, dotted, held, Inner, inner}
use Rattle.script.specs.Derivations.{Placed, at, Path, variable, longer, atoms, products, sums, expressions, Derives, a_number, a_path, a_has, a_bracket, one_atom, more_atoms, one_product, added, subtracted, one_sum, below, equal}
use Rattle.script.proofs.Steps.{pending, level, Holds, by_path, by_value, Adds, by_plus, by_minus, Compares, by_less, by_same, Steps, path_begins, path_grows, dot_comes, has_comes, number_comes, bracket_opens, bracket_closes, times_comes, term_comes, side_comes}

-- the tokens of a product up to its last `*`
pub data Multiplied : Option Pending → List Placed → Type 0 where
  no_factor : Multiplied None []
  factor : {ts : List Placed} {p : ℕ} {e : Expr} → Derives products ts e → Multiplied (Some (pending times p e)) (ts ++ (at p (sign 42) ∷ []))

-- of a sum up to its last `+` or `-`
pub data Summed : Option Pending → List Placed → Type 0 where
  no_term : Summed None []
  term : {t : Lexeme} {o : Operator} {ts : List Placed} {p : ℕ} {e : Expr} → Adds t o → Derives sums ts e → Summed (Some (pending o p e)) (ts ++ (at p t ∷ []))

-- of a comparison up to its sign
pub data Compared : Option Pending → List Placed → Type 0 where
  no_side : Compared None []
  side : {t : Lexeme} {o : Operator} {ts : List Placed} {p : ℕ} {e : Expr} → Compares t o → Derives sums ts e → Compared (Some (pending o p e)) (ts ++ (at p t ∷ []))

-- the tokens before the last atom of a level
pub data Leads : Level → List Placed → Type 0 where
  leads : {c s m : Option Pending} {rs bs cs : List Placed} → Compared c rs → Summed s bs → Multiplied m cs → Leads (level c s m) (rs ++ (bs ++ cs))

-- the token before a path, if it is has
pub data Asks : Bool → List Placed → Type 0 where
  no_has : Asks false []
  a_word : {p : ℕ} {w : Name} → word_of w ≡ has_word → Asks true (at p (name w) ∷ [])

-- the tokens of the last atom, up to here
pub data Last : Spot → List Placed → Type 0 where
  no_atom : Last wanting []
  has_only : {rs : List Placed} → Asks true rs → Last asked rs
  path_last : {h : Bool} {v : Name} {ss : List Step} {rs ts : List Placed} → Asks h rs → Path ts v ss → Last (named h v ss) (rs ++ ts)
  dot_last : {h : Bool} {v : Name} {ss : List Step} {rs ts : List Placed} (d : ℕ) → Asks h rs → Path ts v ss → Last (dotted h v ss) (rs ++ (ts ++ (at d (sign 46) ∷ [])))
  atom_last : {e : Expr} {us : List Placed} → Derives atoms us e → Last (held e) us

-- the tokens up to the innermost open bracket, with it
pub data Around : List Level → List Placed → Type 0 where
  top : Around [] []
  around : {l : Level} {o : List Level} {rs bs : List Placed} (p : ℕ) → Around o rs → Leads l bs → Around (l ∷ o) (rs ++ (bs ++ (at p (sign 40) ∷ [])))

-- the tokens of an expression, up to here
pub data Within : Inner → List Placed → Type 0 where
  within : {o : List Level} {l : Level} {k : Spot} {rs bs cs : List Placed} → Around o rs → Leads l bs → Last k cs → Within (inner o l k) (rs ++ (bs ++ cs))

-- before the first token of a level
leads_blank : Leads blank []
leads_blank = leads no_side no_term no_factor

-- before the first token of an expression
pub at_first : Within (inner [] blank wanting) []
at_first = within top leads_blank no_atom

-- `+` or `-` between its sides
adds : {t : Lexeme} {o : Operator} {ts us : List Placed} {d e : Expr} (p : ℕ) → Adds t o → Derives sums ts d → Derives products us e → Derives sums (ts ++ (at p t ∷ us)) (binary o p d e)
adds p by_plus x y = added _ _ _ _ _ x y
adds p by_minus x y = subtracted _ _ _ _ _ x y

-- a comparison between its sides
compares : {t : Lexeme} {o : Operator} {ts us : List Placed} {d e : Expr} (p : ℕ) → Compares t o → Derives sums ts d → Derives sums us e → Derives expressions (ts ++ (at p t ∷ us)) (binary o p d e)
compares p by_less x y = below _ _ _ _ _ x y
compares p by_same x y = equal _ _ _ _ _ x y

-- one more atom makes a longer product
product_derives : {m : Option Pending} {cs us : List Placed} {x : Expr} → Multiplied m cs → Derives atoms us x → Derives products (cs ++ us) (joined m x)
product_derives no_factor d = one_atom _ _ d
product_derives (factor c) d = simp append_assoc (more_atoms _ _ _ _ _ c d)

-- one more product makes a longer sum
sum_derives : {s : Option Pending} {bs us : List Placed} {x : Expr} → Summed s bs → Derives products us x → Derives sums (bs ++ us) (joined s x)
sum_derives no_term d = one_product _ _ d
sum_derives (term by c) d = simp append_assoc (adds _ by c d)

-- one more sum makes an expression
side_derives : {s : Option Pending} {rs us : List Placed} {x : Expr} → Compared s rs → Derives sums us x → Derives expressions (rs ++ us) (joined s x)
side_derives no_side d = one_sum _ _ d
side_derives (side by c) d = simp append_assoc (compares _ by c d)

-- the last atom completes a level
whole_derives : {l : Level} {bs us : List Placed} {x : Expr} → Leads l bs → Derives atoms us x → Derives expressions (bs ++ us) (whole l x)
whole_derives (leads a b c) d = simp append_assoc (side_derives a (sum_derives b (product_derives c d)))

-- where an atom stands last, its tokens do
holds_atom : {k : Spot} {e : Expr} {us : List Placed} → Holds k e → Last k us → Derives atoms us e
holds_atom by_path (path_last no_has path) = a_path _ _ _ path
holds_atom by_path (path_last (a_word w) path) = a_has _ _ _ _ _ w path
holds_atom by_value (atom_last d) = d

-- after `*`
leads_times : {c s m : Option Pending} {bs us : List Placed} {e : Expr} (p : ℕ) → Leads (level c s m) bs → Derives atoms us e → Leads (level c s (Some (pending times p (joined m e)))) (bs ++ (us ++ (at p (sign 42) ∷ [])))
leads_times p (leads a b c) d = simp append_assoc (simp append_assoc at (leads a b (factor {p = p} (product_derives c d))))

-- after `+` or `-`
leads_term : {t : Lexeme} {o : Operator} {c s m : Option Pending} {bs us : List Placed} {e : Expr} (p : ℕ) → Adds t o → Leads (level c s m) bs → Derives atoms us e → Leads (level c (Some (pending o p (joined s (joined m e)))) None) (bs ++ (us ++ (at p t ∷ [])))
leads_term p by (leads a b c) d = simp append_assoc (simp (append_assoc, append-nil) at (leads a (term {p = p} by (sum_derives b (product_derives c d))) no_factor))

-- after `<` or `==`
leads_side : {t : Lexeme} {o : Operator} {s m : Option Pending} {bs us : List Placed} {e : Expr} (p : ℕ) → Compares t o → Leads (level None s m) bs → Derives atoms us e → Leads (level (Some (pending o p (joined s (joined m e)))) None None) (bs ++ (us ++ (at p t ∷ [])))
leads_side p by (leads no_side b c) d = simp append_assoc (simp (append_assoc, append-nil) at (leads (side {p = p} by (sum_derives b (product_derives c d))) no_term no_factor))

-- where another atom must come
wanted : {o : List Level} {l : Level} {rs bs : List Placed} → Around o rs → Leads l bs → Within (inner o l wanting) (rs ++ bs)
wanted a b = simp append-nil at (within a b no_atom)

-- each step keeps what the place tells
pub kept_within : {t : Lexeme} {p : ℕ} {i j : Inner} {ws : List Placed} → Steps t p i j → Within i ws → Within j (ws ++ (at p t ∷ []))
kept_within (path_begins true w) (within a b (has_only h)) = simp append_assoc (within a b (path_last h (variable _ _ w)))
kept_within (path_begins false w) (within a b no_atom) = simp (append_assoc, append-nil) (within a b (path_last no_has (variable _ _ w)))
kept_within (path_grows w) (within a b (dot_last _ h path)) = simp append_assoc (within a b (path_last h (longer _ _ _ _ _ _ path w)))
kept_within dot_comes (within a b (path_last h path)) = simp append_assoc (within a b (dot_last _ h path))
kept_within (has_comes w) (within a b no_atom) = simp (append_assoc, append-nil) (within a b (has_only (a_word w)))
kept_within number_comes (within a b no_atom) = simp (append_assoc, append-nil) (within a b (atom_last (a_number _ _)))
kept_within (bracket_opens {p = p}) (within a b no_atom) = simp (append_assoc, append-nil) (simp append_assoc at (wanted (around p a b) leads_blank))
kept_within (bracket_closes {p = q} h) (within (around p a b) c k) = simp append_assoc (simp append_assoc at (within a b (atom_last (a_bracket p q _ _ (whole_derives c (holds_atom h k))))))
kept_within (times_comes {p = p} h) (within a b k) = simp append_assoc (wanted a (leads_times p b (holds_atom h k)))
kept_within (term_comes {p = p} by h) (within a b k) = simp append_assoc (wanted a (leads_term p by b (holds_atom h k)))
kept_within (side_comes {p = p} by h) (within a b k) = simp append_assoc (wanted a (leads_side p by b (holds_atom h k)))

-- where an expression can end, the grammar derives it
pub within_derives : {l : Level} {k : Spot} {e : Expr} {ws : List Placed} → Holds k e → Within (inner [] l k) ws → Derives expressions ws (whole l e)
within_derives h (within top b k) = whole_derives b (holds_atom h k)
