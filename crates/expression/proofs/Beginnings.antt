-- Every state that a run reaches can be left for the end of a text, so the tokens of a run begin a derivation.
use Rattle.std.proofs.Common.{List, [], ◌∷◌, ◌++◌, subst, append_assoc}
use Rattle.lexer.specs.Tokens.{Lexeme}
use Rattle.expression.specs.Expressions.{Expr}
use Rattle.expression.specs.Reading.{Level, Here, opened, wanting, holding, starred, State, state, start}
use Rattle.expression.specs.Derivations.{Derives, alternatives, Beginning}
use Rattle.expression.proofs.Moves.{at_opening, at_gap, Holds, held, starry, Move, name_comes, bracket_closes, Ends, ends, Goes, goes, stays, ◌then◌, one_run, rest_of}
use Rattle.expression.proofs.Complete.{Accepts, complete}
use Rattle.expression.proofs.Sound.{sound}

-- some tokens lead from here to the end of a text
Leaves : State → Type 0
Leaves s = (us : List Lexeme) × (e : Expr) × Accepts s us e

-- a token more in front
sooner : {t : Lexeme} {s next : State} → Move t s next → Leaves next → Leaves s
unfolding Leaves
sooner {t} m (us, e, a) = (t ∷ us, e, record { last = a.last; run = goes m a.run; end = a.end })

-- after an operand, by a closing bracket for each open one
closes_all : {h : Here} {e : Expr} (o : List Level) (l : Level) → Holds h e → Leaves (state o l h)
unfolding Leaves
closes_all [] l h = ([], _, record { last = state [] l _; run = stays; end = ends h })
closes_all (k ∷ o) l h = sooner (bracket_closes h) (closes_all o k held)

-- from anywhere, by a name where an operand must come
leaves : (o : List Level) (l : Level) (h : Here) → Leaves (state o l h)
leaves o l opened = sooner (name_comes {n = 97 ∷ []} at_opening) (closes_all o l held)
leaves o l wanting = sooner (name_comes {n = 97 ∷ []} at_gap) (closes_all o l held)
leaves o l (holding e) = closes_all o l held
leaves o l (starred e) = closes_all o l starry

-- the tokens of a run begin a derivation
pub run_begins : {ws : List Lexeme} {s : State} → Goes start ws s → Beginning ws
unfolding Leaves
run_begins {s = s} run =
    let (us, e, a) = leaves s.outer s.level s.here in
    (us, e, sound (record { last = a.last; run = run then a.run; end = a.end }))

-- a token that goes on a beginning is a move
pub beginning_moves : {t : Lexeme} {ws : List Lexeme} {s : State} → Goes start ws s → Beginning (ws ++ (t ∷ [])) → (next : State) × Move t s next
beginning_moves {t} {ws} {s} run (us, e, d) = first (rest_of run (complete (simp append_assoc at d)).run)
  where
    first : {us : List Lexeme} {to : State} → Goes s (t ∷ us) to → (next : State) × Move t s next
    first (goes m rest) = (_, m)

-- the state after the tokens of a derivation is one where the text can end, with its tree
pub derived_ends : {ws : List Lexeme} {s : State} {e : Expr} → Goes start ws s → Derives alternatives ws e → Ends s e
derived_ends {e = e} run d = subst (λ s. Ends s e) (one_run (complete d).run run) (complete d).end
