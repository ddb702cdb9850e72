-- Every state that a run reaches can be left for the end of a text, so the tokens of a run begin a derivation.
use Rattle.std.proofs.Common.{◌≡◌, ℕ, true, List, [], ◌∷◌, ◌++◌, refl, subst, append_assoc}
use Rattle.lexer.specs.Names.{Name}
use Rattle.lexer.specs.Tokens.{Lexeme}
use Rattle.script.specs.Trees.{Step, Expr, branch, Block, done}
use Rattle.script.specs.Words.{plain_word, word_of}
use Rattle.script.specs.Reading.{Level, Spot, wanting, asked, named, dotted, held, inner, Purpose, assigning, writing, saying, testing, repeating, Stand, ready, chosen, otherwise, target, target_dot, cutting, cut_path, cut_dot, inside, Opened, then_block, else_block, while_block, Frame, State, state, start, followed, close_frame}
use Rattle.script.specs.Derivations.{Placed, at, IsBlock, Beginning}
use Rattle.script.proofs.Steps.{Holds, by_path, by_value, path_begins, path_grows, number_comes, bracket_closes}
use Rattle.script.proofs.Moves.{gives_assign, gives_write, gives_say, begins_then, begins_while, Move, brace_closes, if_ends, else_opens, target_grows, target_sets, cut_begins, cut_dots, cut_grows, cut_ends, goes_on, expression_ends, condition_ends, Ends, ends, ends_if, Goes, goes, stays, ◌then◌, one_run, rest_of}
use Rattle.script.proofs.Complete.{Accepts, complete}
use Rattle.script.proofs.Sound.{sound}

-- some tokens lead from here to the end of a text
record Leaves (s : State) : Type 0 where
  us : List Placed
  tree : Block
  way : Accepts s us tree

-- such tokens
leave : {s to : State} {us : List Placed} {b : Block} → Goes s us to → Ends to b → Leaves s
leave run x = record { us = _; tree = _; way = record { last = _; run = run; end = x } }

-- a token more in front
sooner : {t : Lexeme} {s next : State} → Move t 0 s next → Leaves next → Leaves s
sooner m l = leave (goes m l.way.run) l.way.end

-- what leads on from an ended if leads on from its block
before_end : {fs : List Frame} {b c : Block} {p : ℕ} {e : Expr} {us : List Placed} {to : State} {d : Block} → Goes (state fs (followed b (branch p e c done)) ready) us to → Ends to d → Leaves (state fs b (chosen p e c))
before_end stays ends = leave stays ends_if
before_end (goes m run) x = leave (goes (if_ends m) run) x

-- so the block of an if can be left
chosen_leaves : {fs : List Frame} {b c : Block} {p : ℕ} {e : Expr} → Leaves (state fs (followed b (branch p e c done)) ready) → Leaves (state fs b (chosen p e c))
chosen_leaves l = before_end l.way.run l.way.end

-- after a closing brace
closed_leaves : (fs : List Frame) (a b : Block) (o : Opened) → ((c : Block) → Leaves (state fs c ready)) → Leaves (close_frame fs a b o)
closed_leaves fs a b (then_block p e) on = chosen_leaves (on _)
closed_leaves fs a b (else_block p e c) on = on _
closed_leaves fs a b (while_block p e) on = on _

-- where a statement may begin, by a closing brace for each open one
ready_leaves : (fs : List Frame) (b : Block) → Leaves (state fs b ready)
ready_leaves [] b = leave stays ends
ready_leaves (f ∷ fs) b = sooner brace_closes (closed_leaves fs f.before b f.opened (ready_leaves fs))

-- a name
some_name : Name
some_name = 97 ∷ []

-- it is no keyword
plain : word_of some_name ≡ plain_word
unfolding word_of some_name
plain = refl

module _ (fs : List Frame) (b : Block) where
  -- after an expression, by what it is read for
  whole_leaves : {k : Spot} {e : Expr} (u : Purpose) (l : Level) → Holds k e → Leaves (state fs b (inside u (inner [] l k)))
  whole_leaves (assigning v) l h = sooner (expression_ends h gives_assign) (ready_leaves fs _)
  whole_leaves (writing v ss) l h = sooner (expression_ends h gives_write) (ready_leaves fs _)
  whole_leaves (saying p) l h = sooner (expression_ends h gives_say) (ready_leaves fs _)
  whole_leaves (testing p) l h = sooner (condition_ends h begins_then) (ready_leaves _ done)
  whole_leaves (repeating p) l h = sooner (condition_ends h begins_while) (ready_leaves _ done)

  -- after an atom, by a closing bracket for each open one
  atom_leaves : {k : Spot} {e : Expr} (u : Purpose) (o : List Level) (l : Level) → Holds k e → Leaves (state fs b (inside u (inner o l k)))
  atom_leaves u [] l h = whole_leaves u l h
  atom_leaves u (m ∷ o) l h = sooner (goes_on (bracket_closes h)) (atom_leaves u o m by_value)

  -- from anywhere in an expression
  spot_leaves : (u : Purpose) (o : List Level) (l : Level) (k : Spot) → Leaves (state fs b (inside u (inner o l k)))
  spot_leaves u o l wanting = sooner (goes_on (number_comes {n = 0})) (atom_leaves u o l by_value)
  spot_leaves u o l asked = sooner (goes_on (path_begins true plain)) (atom_leaves u o l by_path)
  spot_leaves u o l (named h v ss) = atom_leaves u o l by_path
  spot_leaves u o l (dotted h v ss) = sooner (goes_on (path_grows plain)) (atom_leaves u o l by_path)
  spot_leaves u o l (held e) = atom_leaves u o l by_value

  -- after a path to cut
  cut_leaves : (v : Name) (ss : List Step) → Leaves (state fs b (cut_path v ss))
  cut_leaves v [] = sooner cut_dots (sooner (cut_grows plain) (sooner cut_ends (ready_leaves fs _)))
  cut_leaves v (s ∷ ss) = sooner cut_ends (ready_leaves fs _)

  -- from anywhere
  leaves : (h : Stand) → Leaves (state fs b h)
  leaves ready = ready_leaves fs b
  leaves (chosen p e c) = chosen_leaves (ready_leaves fs _)
  leaves (otherwise p e c) = sooner else_opens (ready_leaves _ done)
  leaves (target v ss) = sooner target_sets (spot_leaves _ [] _ wanting)
  leaves (target_dot v ss) = sooner (target_grows plain) (sooner target_sets (spot_leaves _ [] _ wanting))
  leaves cutting = sooner (cut_begins plain) (cut_leaves _ [])
  leaves (cut_path v ss) = cut_leaves v ss
  leaves (cut_dot v ss) = sooner (cut_grows plain) (cut_leaves v _)
  leaves (inside u i) = spot_leaves u i.outer i.level i.spot

-- the tokens of a run begin a derivation
pub run_begins : {ws : List Placed} {s : State} → Goes start ws s → Beginning ws
run_begins {s = s} run =
    let l = leaves s.frames s.block s.stand in
    (l.us, l.tree, sound (record { last = l.way.last; run = run then l.way.run; end = l.way.end }))

-- a token that goes on a beginning is a move
pub beginning_moves : {t : Lexeme} {p : ℕ} {ws : List Placed} {s : State} → Goes start ws s → Beginning (ws ++ (at p t ∷ [])) → (next : State) × Move t p s next
beginning_moves {t} {p} {ws} {s} run (us, b, d) = first (rest_of run (complete (simp append_assoc at d)).run)
  where
    first : {us : List Placed} {to : State} → Goes s (at p t ∷ us) to → (next : State) × Move t p s next
    first (goes m rest) = (_, m)

-- the state after the tokens of a derivation is one where the text can end, with its tree
pub derived_ends : {ws : List Placed} {s : State} {b : Block} → Goes start ws s → IsBlock ws b → Ends s b
derived_ends {b = b} run d = subst (λ s. Ends s b) (one_run (complete d).run run) (complete d).end
