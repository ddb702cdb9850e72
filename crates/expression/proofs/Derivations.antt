-- The laws of the reading: what it accepts is derived, and what it refuses is refused rightly.
use Rattle.std.proofs.Common.{◌≡◌, ℕ, true, List, refl, subst, inl, inr, arith}
use Rattle.lexer.specs.Tokens.{Lexeme, Tokens, ended}
use Rattle.lexer.specs.declared.refusal.Reason.{Reason}
use Rattle.expression.specs.Expressions.{Expr}
use Rattle.expression.specs.Reading.{State, start, accepted, refused}
use Rattle.expression.specs.Derivations.{OneTree, lexemes_in, unbroken, WellFormed, ReadingIsDerivation, Splits, here, past, Wrong, RefusalsAreExact}
use Rattle.expression.proofs.Moves.{end_finishes, ◌then◌, one}
use Rattle.expression.proofs.Complete.{complete}
use Rattle.expression.proofs.Sound.{sound}
use Rattle.expression.proofs.Beginnings.{run_begins, beginning_moves, derived_ends}
use Rattle.expression.proofs.Limits.{run_depth, shallow_after, deep, many}
use Rattle.expression.proofs.Walks.{Stops, finishes, unfinished, breaks, blocked, limited, Trail, Walk, walk, accepts}

-- two derivations of a list of tokens are one run
pub one_tree : OneTree
one_tree ts d e p q =
    let x = end_finishes (complete p).end in
    let y = end_finishes (derived_ends (complete p).run q) in
    cc

-- the lexemes before the end of a text are all of them, and none is bad
whole : {at : ℕ} {ts : Tokens} {ws : List Lexeme} → Splits ts ws (ended at) → (lexemes_in ts ≡ ws) × (unbroken ts ≡ true)
unfolding lexemes_in unbroken
whole (here _) = (refl, refl)
whole (past t at ts rest ws split) = let (is, tokens) = whole split in (rw is, tokens)

module _ (letters : ℕ) where
  -- what a text is that is read to its end
  well_formed : {ts rest : Tokens} {total n : ℕ} {e : Expr} {s : State} {ws : List Lexeme} → Stops n s rest (accepted e total) → Splits ts ws rest → Trail letters start ws s n → WellFormed letters ts e total
  well_formed (finishes x) split trail =
      let (is, tokens) = whole split in
      record {
        tokens = tokens;
        derived = rw is (sound (record { last = _; run = trail.run; end = x }));
        limits = record { brackets = rw is trail.brackets; few = rw is (omega arith) };
        count = rw is trail.count;
      }

  -- what is wrong where a text is refused
  wrong : {n place : ℕ} {reason : Reason} {s : State} {rest : Tokens} {ws : List Lexeme} → Stops n s rest (refused reason place) → Trail letters start ws s n → Wrong letters ws rest reason place
  wrong (unfinished no_end) trail = (refl, refl, λ e d. no_end e (derived_ends trail.run d))
  wrong breaks trail = (refl, refl)
  wrong (blocked no_move) trail = (refl, inl (refl, λ begun. let (next, m) = beginning_moves trail.run begun in no_move next m))
  wrong {ws = ws} (limited m (deep o far)) trail =
      (refl, inr (run_begins (trail.run then one m), inl (refl, o, omega (arith, run_depth trail.run, shallow_after ws 0 (omega arith) trail.brackets))))
  wrong (limited m (many w far)) trail = (refl, inr (run_begins (trail.run then one m), inr (refl, w, omega arith)))

-- a reading that accepts is a walk to the end, and a derivation within the limits is one
pub reading_is_derivation : ReadingIsDerivation
reading_is_derivation letters ts e total l = (
  λ is. let w = subst (Walk letters start ts) is (walk ts letters start (omega arith) l) in
      well_formed letters w.stop w.split w.trail,
  λ w. let a = complete w.derived in
      accepts ts letters total start a.last e a.run a.end w.tokens w.limits.brackets w.count (omega arith),
)

-- a reading that refuses is a walk to what is wrong
pub refusals_are_exact : RefusalsAreExact
refusals_are_exact letters ts reason place l is =
    let w = subst (Walk letters start ts) is (walk ts letters start (omega arith) l) in
    record {
      ws = w.ws;
      rest = w.rest;
      split = w.split;
      begun = run_begins w.trail.run;
      limits = record { brackets = w.trail.brackets; few = omega arith };
      wrong = wrong letters w.stop w.trail;
    }
