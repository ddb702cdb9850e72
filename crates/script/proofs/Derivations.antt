-- The laws of the reading: what it accepts is derived, and what it refuses is refused rightly.
use Rattle.std.proofs.Common.{◌≡◌, ℕ, ◌≤◌, true, false, List, [], ◌∷◌, ◌++◌, length, refl, subst, inl, inr, arith}
use Rattle.lexer.specs.Names.{Name}
use Rattle.lexer.specs.Tokens.{Lexeme, Tokens, ended}
use Rattle.lexer.specs.declared.refusal.Reason.{Reason}
use Rattle.script.specs.Trees.{Block}
use Rattle.script.specs.Reading.{State, start, plan, name_in, after_dot, variables_after, accepted, refused}
use Rattle.script.specs.Derivations.{Placed, at, OneTree, variables_in, placed_in, unbroken, WellFormed, ReadingIsDerivation, Splits, here, past, Wrong, RefusalsAreExact}
use Rattle.script.proofs.Moves.{end_finishes, ◌then◌, one}
use Rattle.script.proofs.Complete.{complete}
use Rattle.script.proofs.Sound.{sound}
use Rattle.script.proofs.Beginnings.{run_begins, beginning_moves, derived_ends}
use Rattle.script.proofs.Limits.{run_depth, shallow_after, run_variables, one_variable, too_deep, too_many}
use Rattle.script.proofs.Walks.{Stops, finishes, unfinished, breaks, blocked, limited, Trail, Walk, walk, accepts}

-- two derivations of a list of tokens are one run
pub one_tree : OneTree
one_tree ts a b p q =
    let x = end_finishes (complete p).end in
    let y = end_finishes (derived_ends (complete p).run q) in
    cc

-- the tokens before the end of a text are all of them, and none is bad
whole : {p : ℕ} {ts : Tokens} {ws : List Placed} → Splits ts ws (ended p) → (placed_in ts ≡ ws) × (unbroken ts ≡ true)
unfolding placed_in unbroken
whole (here _) = (refl, refl)
whole (past t p ts rest ws split) = let (is, tokens) = whole split in (rw is, tokens)

-- what a text is that is read to its end
well_formed : {ts rest : Tokens} {us vs : List Name} {b : Block} {s : State} {ws : List Placed} → Stops us s rest (accepted b vs) → Splits ts ws rest → Trail (plan ∷ []) start ws s us → WellFormed ts b vs
well_formed (finishes x) split trail =
    let (is, tokens) = whole split in
    record {
      tokens = tokens;
      derived = rw is (sound (record { last = _; run = trail.run; end = x }));
      limits = record { brackets = rw is trail.brackets; few = rw (is, trail.variables) trail.few };
      variables = rw is trail.variables;
    }

-- a token that makes too many variables follows 16, and makes 17
seventeen : {us : List Name} {s : State} {ws : List Placed} (t : Lexeme) (p : ℕ) → Trail (plan ∷ []) start ws s us → 17 ≤ length (variables_after us s.stand t) → (length (variables_in false (plan ∷ []) ws) ≡ 16) × (length (variables_in false (plan ∷ []) (ws ++ (at p t ∷ []))) ≡ 17)
seventeen {us} {s} t p trail far =
    let most = one_variable us (after_dot s.stand) (name_in t) in
    let few = trail.few in
    (rw trail.variables (omega arith), rw (run_variables t p (plan ∷ []) trail.run, trail.variables) (omega arith))

-- what is wrong where a text is refused
wrong : {us : List Name} {place : ℕ} {reason : Reason} {s : State} {rest : Tokens} {ws : List Placed} → Stops us s rest (refused reason place) → Trail (plan ∷ []) start ws s us → Wrong ws rest reason place
wrong (unfinished no_end) trail = (refl, refl, λ b d. no_end b (derived_ends trail.run d))
wrong breaks trail = (refl, refl)
wrong (blocked no_move) trail = (refl, inl (refl, λ begun. let (to, m) = beginning_moves trail.run begun in no_move to m))
wrong {ws = ws} (limited m (too_deep o far)) trail =
    (refl, inr (run_begins (trail.run then one m), inl (refl, o, omega (arith, run_depth trail.run, shallow_after ws 0 (omega arith) trail.brackets))))
wrong (limited {p = p} {t = t} m (too_many far)) trail =
    let (all, more) = seventeen t p trail far in
    (refl, inr (run_begins (trail.run then one m), inr (refl, all, more)))

-- a reading that accepts is a walk to the end, and a derivation within the limits is one
pub reading_is_derivation : ReadingIsDerivation
reading_is_derivation ts b vs = (
  λ is. let w = subst (Walk (plan ∷ []) start ts) is (walk ts (plan ∷ []) start (omega arith) (omega arith)) in
      well_formed w.stop w.split w.trail,
  λ w. let a = complete w.derived in
      accepts ts (plan ∷ []) vs start a.last b a.run a.end w.tokens w.limits.brackets w.variables (rw (← w.variables) w.limits.few),
)

-- a reading that refuses is a walk to what is wrong
pub refusals_are_exact : RefusalsAreExact
refusals_are_exact ts reason place is =
    let w = subst (Walk (plan ∷ []) start ts) is (walk ts (plan ∷ []) start (omega arith) (omega arith)) in
    record {
      ws = w.ws;
      rest = w.rest;
      split = w.split;
      begun = run_begins w.trail.run;
      limits = record { brackets = w.trail.brackets; few = rw w.trail.variables w.trail.few };
      wrong = wrong w.stop w.trail;
    }
