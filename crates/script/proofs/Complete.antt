-- What the grammar derives, a run reads: by induction on the derivation.
use Rattle.std.proofs.Common.{◌≡◌, ℕ, true, false, List, [], ◌∷◌, ◌++◌, Some, None, Option, sym, refl, ap, subst}
use Rattle.lexer.specs.Names.{Name}
use Rattle.lexer.specs.Tokens.{Lexeme, name, sign}
use Rattle.script.specs.Trees.{Step, times, Expr, Statement, branch, Block, done, next, binary}
use Rattle.script.specs.Words.{plain_word, word_of}
use Rattle.script.specs.Reading.{Pending, Level, blank, joined, whole, Spot, wanting, named, dotted, held, inner, fresh, step_at, Purpose, ready, chosen, target, target_dot, cutting, cut_path, cut_dot, inside, Opened, then_block, else_block, while_block, Frame, State, state, start, followed, close_frame}
use Rattle.script.specs.Derivations.{Placed, at, Path, variable, longer, Category, atoms, products, sums, expressions, Derives, a_number, a_path, a_has, a_bracket, one_atom, more_atoms, one_product, added, subtracted, one_sum, below, equal, IsStatement, assigns, writes, cuts, says, ifs, if_elses, whiles, IsBlock, no_more, one_more}
use Rattle.script.proofs.Steps.{pending, level, Holds, by_path, by_value, by_plus, by_minus, by_less, by_same, path_begins, path_grows, dot_comes, has_comes, number_comes, bracket_opens, bracket_closes, times_comes, term_comes, side_comes}
use Rattle.script.proofs.Moves.{frame, Gives, gives_assign, gives_write, gives_say, Begins, begins_then, begins_while, heads_if, heads_while, heads_say, Move, head_comes, cut_comes, target_begins, brace_closes, else_comes, if_ends, else_opens, target_dots, target_grows, target_sets, cut_begins, cut_dots, cut_grows, cut_ends, goes_on, expression_ends, condition_ends, Ends, ends, ends_if, Goes, stays, goes, ◌then◌, one}

-- a path is a run wherever its first name, dots and further names can come
path_runs : {ts : List Placed} {v : Name} {ss : List Step} (from : State) (to dot : Name → List Step → State) → ((n : Name) (p : ℕ) → word_of n ≡ plain_word → Move (name n) p from (to n [])) → ((x : Name) (xs : List Step) (p : ℕ) → Move (sign 46) p (to x xs) (dot x xs)) → ((n x : Name) (xs : List Step) (p : ℕ) → word_of n ≡ plain_word → Move (name n) p (dot x xs) (to x (xs ++ (step_at n p ∷ [])))) → Path ts v ss → Goes from ts (to v ss)
path_runs from to dot first dots grows (variable p n w) = one (first n p w)
path_runs from to dot first dots grows (longer ts v ss d p n path w) =
    path_runs from to dot first dots grows path then goes (dots v ss d) (one (grows n v ss p w))

-- in an expression of a statement
module _ (fs : List Frame) (b : Block) (u : Purpose) where
  abbrev in_level : List Level → Level → Spot → State
  in_level o l k = state fs b (inside u (inner o l k))

  -- where a run over the tokens of a part comes from where an atom can come: an atom ends at the same level, a product
  -- begins where no product was, a sum where no sum was, and an expression where nothing was
  abbrev Reaches : Category → List Placed → Expr → Type 0
  Reaches atoms ts e = (o : List Level) (l : Level) → (k : Spot) × Holds k e × Goes (in_level o l wanting) ts (in_level o l k)
  Reaches products ts e =
      (o : List Level) (c s : Option Pending)
      → (m : Option Pending) × (x : Expr) × (k : Spot) × Holds k x × Goes (in_level o (level c s None) wanting) ts (in_level o (level c s m) k) × (joined m x ≡ e)
  Reaches sums ts e =
      (o : List Level) (c : Option Pending)
      → (s : Option Pending) × (m : Option Pending) × (x : Expr) × (k : Spot) × Holds k x × Goes (in_level o (level c None None) wanting) ts (in_level o (level c s m) k) × (joined s (joined m x) ≡ e)
  Reaches expressions ts e =
      (o : List Level)
      → (l : Level) × (x : Expr) × (k : Spot) × Holds k x × Goes (in_level o blank wanting) ts (in_level o l k) × (whole l x ≡ e)

  -- each derivation is such a run
  reaches : {g : Category} {ts : List Placed} {e : Expr} → Derives g ts e → Reaches g ts e
  reaches (a_number p n) = λ o l. (held _, by_value, one (goes_on number_comes))
  reaches (a_path ts v ss path) = λ o l.
      (named false v ss, by_path, path_runs _ (λ x xs. in_level o l (named false x xs)) (λ x xs. in_level o l (dotted false x xs)) (λ n p w. goes_on (path_begins false w)) (λ x xs p. goes_on dot_comes) (λ n x xs p w. goes_on (path_grows w)) path)
  reaches (a_has p w ts v ss is path) = λ o l.
      (named true v ss, by_path, goes (goes_on (has_comes is)) (path_runs _ (λ x xs. in_level o l (named true x xs)) (λ x xs. in_level o l (dotted true x xs)) (λ n p w. goes_on (path_begins true w)) (λ x xs p. goes_on dot_comes) (λ n x xs p w. goes_on (path_grows w)) path))
  reaches (a_bracket p q ts e d) = λ o l.
      let (m, x, k, holds, run, is) = reaches d (l ∷ o) in
      (held e, by_value, rw (← is) (goes (goes_on bracket_opens) (run then one (goes_on (bracket_closes holds)))))
  reaches (one_atom ts e d) = λ o c s. let (k, holds, run) = reaches d o (level c s None) in (None, e, k, holds, run, refl)
  reaches (more_atoms p ts us d e x y) = λ o c s.
      let (m, z, k, holds, run, is) = reaches x o c s in
      let (j, last, rest) = reaches y o (level c s (Some (pending times p (joined m z)))) in
      (Some (pending times p (joined m z)), e, j, last, run then goes (goes_on (times_comes holds)) rest, ap (λ d. binary times p d e) is)
  reaches (one_product ts e d) = λ o c. let (m, x, k, holds, run, is) = reaches d o c None in (None, m, x, k, holds, run, is)
  reaches (added p ts us d e x y) = λ o c.
      let (s, m, z, k, holds, run, is) = reaches x o c in
      let (n, a, j, last, rest, too) = reaches y o c _ in
      (_, n, a, j, last, run then goes (goes_on (term_comes by_plus holds)) rest, cc)
  reaches (subtracted p ts us d e x y) = λ o c.
      let (s, m, z, k, holds, run, is) = reaches x o c in
      let (n, a, j, last, rest, too) = reaches y o c _ in
      (_, n, a, j, last, run then goes (goes_on (term_comes by_minus holds)) rest, cc)
  reaches (one_sum ts e d) = λ o. let (s, m, x, k, holds, run, is) = reaches d o None in (level None s m, x, k, holds, run, is)
  reaches (below p ts us d e x y) = λ o.
      let (s, m, z, k, holds, run, is) = reaches x o None in
      let (r, n, a, j, last, rest, too) = reaches y o _ in
      (level _ r n, a, j, last, run then goes (goes_on (side_comes by_less holds)) rest, cc)
  reaches (equal p ts us d e x y) = λ o.
      let (s, m, z, k, holds, run, is) = reaches x o None in
      let (r, n, a, j, last, rest, too) = reaches y o _ in
      (level _ r n, a, j, last, run then goes (goes_on (side_comes by_same holds)) rest, cc)

-- an expression, and the end of its statement
statement_ends : {us : List Placed} {e : Expr} {u : Purpose} {s : Statement} {fs : List Frame} {b : Block} (q : ℕ) → Derives expressions us e → Gives u e s → Goes (state fs b (inside u fresh)) (us ++ (at q (sign 59) ∷ [])) (state fs (followed b s) ready)
statement_ends {u = u} {s} {fs} {b} q d g =
    let (l, x, k, holds, run, is) = reaches fs b u d [] in
    run then one (expression_ends holds (subst (λ e. Gives u e s) (sym is) g))

-- a condition, and what its brace begins
block_opens : {us ts : List Placed} {e : Expr} {u : Purpose} {o : Opened} {fs : List Frame} {b : Block} {to : State} (q : ℕ) → Derives expressions us e → Begins u e o → Goes (state (frame b o ∷ fs) done ready) ts to → Goes (state fs b (inside u fresh)) (us ++ (at q (sign 123) ∷ ts)) to
block_opens {u = u} {o} {fs} {b} q d g rest =
    let (l, x, k, holds, run, is) = reaches fs b u d [] in
    run then goes (condition_ends holds (subst (λ e. Begins u e o) (sym is) g)) rest

-- a statement may begin, at once or after an if that is ended
data Settles : State → State → Type 0 where
  now : {s : State} → Settles s s
  after_if : {fs : List Frame} {b c : Block} {p : ℕ} {e : Expr} → Settles (state fs b (chosen p e c)) (state fs (followed b (branch p e c done)) ready)

-- what comes there comes before the if is ended
sooner : {t : Lexeme} {p : ℕ} {a b to : State} → Settles a b → Move t p b to → Move t p a to
sooner now m = m
sooner after_if m = if_ends m

-- a run over the tokens from a state to where a statement may begin
record RunsTo (s : State) (ts : List Placed) (to : State) : Type 0 where
  mid : State
  run : Goes s ts mid
  settled : Settles mid to

-- such a run, of its parts
runs_to : {s mid to : State} {ts : List Placed} → Goes s ts mid → Settles mid to → RunsTo s ts to
runs_to run s = record { mid = _; run = run; settled = s }

-- such a run, and then another
joins : {s x y mid to : State} {ts us : List Placed} → Goes s ts x → Settles x y → Goes y us mid → Settles mid to → RunsTo s (ts ++ us) to
joins run now rest z = runs_to (run then rest) z
joins run after_if stays now = runs_to (run then stays) after_if
joins run after_if (goes m rest) z = runs_to (run then goes (if_ends m) rest) z

-- the same, of two such runs
and_then : {s mid to : State} {ts us : List Placed} → RunsTo s ts mid → RunsTo mid us to → RunsTo s (ts ++ us) to
and_then r z = joins r.run r.settled z.run z.settled

-- the statements of one block, and then of another
abbrev both : Block → Block → Block
both done c = c
both (next s b) c = next s (both b c)

-- no statement more
both_done : (b : Block) → both b done ≡ b
both_done done = refl
both_done (next s b) = ap (next s) (both_done b)

-- a statement at the end of the first is one at the start of the second
both_followed : (b c : Block) (s : Statement) → both (followed b s) c ≡ both b (next s c)
unfolding followed
both_followed done c s = refl
both_followed (next t b) c s = ap (next t) (both_followed b c s)

-- a block up to its closing brace
block_closes : {ts : List Placed} {fs : List Frame} {b c : Block} {o : Opened} (q : ℕ) → RunsTo (state (frame b o ∷ fs) done ready) ts (state (frame b o ∷ fs) c ready) → Goes (state (frame b o ∷ fs) done ready) (ts ++ (at q (sign 125) ∷ [])) (close_frame fs b c o)
block_closes q r = r.run then one (sooner r.settled brace_closes)

-- the variable or path that a statement begins with
target_runs : {ts : List Placed} {v : Name} {ss : List Step} (fs : List Frame) (b : Block) → Path ts v ss → Goes (state fs b ready) ts (state fs b (target v ss))
target_runs fs b = path_runs _ (λ x xs. state fs b (target x xs)) (λ x xs. state fs b (target_dot x xs)) (λ n p w. target_begins w) (λ x xs p. target_dots) (λ n x xs p w. target_grows w)

-- the path to cut
cut_runs : {ts : List Placed} {v : Name} {ss : List Step} (fs : List Frame) (b : Block) → Path ts v ss → Goes (state fs b cutting) ts (state fs b (cut_path v ss))
cut_runs fs b = path_runs _ (λ x xs. state fs b (cut_path x xs)) (λ x xs. state fs b (cut_dot x xs)) (λ n p w. cut_begins w) (λ x xs p. cut_dots) (λ n x xs p w. cut_grows w)

mutual
  -- each statement is a run
  statement_runs : {ts : List Placed} {s : Statement} → IsStatement ts s → (fs : List Frame) (b : Block) → RunsTo (state fs b ready) ts (state fs (followed b s) ready)
  statement_runs (assigns p q ts us v e path d) fs b = runs_to (target_runs fs b path then goes target_sets (statement_ends q d gives_assign)) now
  statement_runs (writes p q ts us v s ss e path d) fs b = runs_to (target_runs fs b path then goes target_sets (statement_ends q d gives_write)) now
  statement_runs (cuts p q w ts v s ss is path) fs b = runs_to (goes (cut_comes is) (cut_runs fs b path then one cut_ends)) now
  statement_runs (says p q w ts e is d) fs b = runs_to (goes (head_comes is heads_say) (statement_ends q d gives_say)) now
  statement_runs (ifs p q r w ts us e c is d x) fs b =
      runs_to (goes (head_comes is heads_if) (block_opens q d begins_then (block_closes r (block_runs x (frame b (then_block p e) ∷ fs) done)))) after_if
  statement_runs (if_elses p q r o q2 r2 w v ts us xs e c k is too d x y) fs b =
      runs_to (goes (head_comes is heads_if) (block_opens q d begins_then (block_closes r (block_runs x (frame b (then_block p e) ∷ fs) done) then goes (else_comes too) (goes else_opens (block_closes r2 (block_runs y (frame b (else_block p e c) ∷ fs) done)))))) now
  statement_runs (whiles p q r w ts us e c is d x) fs b =
      runs_to (goes (head_comes is heads_while) (block_opens q d begins_while (block_closes r (block_runs x (frame b (while_block p e) ∷ fs) done)))) now

  -- and so is each block
  block_runs : {ts : List Placed} {c : Block} → IsBlock ts c → (fs : List Frame) (b : Block) → RunsTo (state fs b ready) ts (state fs (both b c) ready)
  block_runs no_more fs b = rw (both_done b) (runs_to stays now)
  block_runs (one_more ts us s c x y) fs b = and_then (statement_runs x fs b) (rw (← both_followed b c s) (block_runs y fs (followed b s)))

-- a run over the tokens to where the text can end, with this tree
pub record Accepts (s : State) (ts : List Placed) (b : Block) : Type 0 where
  pub last : State
  pub run : Goes s ts last
  pub end : Ends last b

-- what the grammar derives is accepted
pub complete : {ts : List Placed} {b : Block} → IsBlock ts b → Accepts start ts b
complete d = let r = block_runs d [] done in record { last = r.mid; run = r.run; end = settles r.settled }
  where
    settles : {mid : State} {b : Block} → Settles mid (state [] b ready) → Ends mid b
    settles now = ends
    settles after_if = ends_if
