use Rattle.std.proofs.Common.{◌≡◌, sym, refl, ap, ◌∙◌, arith}
use Rattle.std.proofs.lemmas.Result.{err_from_is_err_and}
use Rattle.lexer.specs.Tokens.{reason_at}
use Rattle.lexer.proofs.Moves.{taken}
use Rattle.expression.proofs.Operands.{sign_refused, other_refused, too_deep, nothing_read, inner_refused, closed_read, unclosed_refused}
use Rattle.expression.proofs.Chains.{set_out, again, breaks, finishes, items, sequences, item_starred, item_plain, at_depth}
use Rattle.expression.proofs.parser.Parser.+grammar.Goals as goal
use Rattle.expression.proofs.parser.Parser.+grammar.Goals.{base-in_default-via-in-Sign-2+else-b-eq40, base-in_default-via-in_default}

pub alternative-loop-self-init : goal.alternative-loop-self-init
alternative-loop-self-init t c = (refl, set_out sequences _ _ _ _)

pub alternative-returns-in_err-sequence-2 : goal.alternative-returns-in_err-sequence-2
alternative-returns-in_err-sequence-2 t c =
    let x = err_from_is_err_and c.from_residual-in_err-sequence-2.result c.from_residual-in_err-sequence-2.ensures.1 in
    let first = c.in_ok-sequence.ensures in
    let kept = c.loop-self.invariant in
    let next = c.in_err-sequence-2.ensures in
    rw (x.1, x.2)
    (record {
      depth = next.depth ∙ kept.0 ∙ first.depth;
      parsed = at_depth first.depth (breaks sequences (at_depth (sym first.depth) first.parsed) kept.1 c.loop-self-test.ensures (at_depth kept.0 next.parsed));
    })

pub alternative-loop-self-preserved : goal.alternative-loop-self-preserved
alternative-loop-self-preserved t c =
    let kept = c.loop-self.invariant in
    let next = c.in_ok-sequence-2.ensures in
    let wrote = c.emit.ensures in
    (wrote.depth ∙ next.depth ∙ kept.0, rw (wrote.reader, wrote.letters) (again sequences kept.1 c.loop-self-test.ensures (at_depth kept.0 next.parsed) wrote.operations))

pub alternative-returns : goal.alternative-returns
alternative-returns t c =
    let first = c.in_ok-sequence.ensures in
    let kept = c.loop-self.invariant in
    record {
      depth = kept.0 ∙ first.depth;
      parsed = at_depth first.depth (finishes sequences (at_depth (sym first.depth) first.parsed) kept.1 c.loop-self-test.ensures);
    }

pub sequence-loop-self-init : goal.sequence-loop-self-init
sequence-loop-self-init t c = (refl, set_out items _ _ _ _)

pub sequence-returns-in_err-item-2 : goal.sequence-returns-in_err-item-2
sequence-returns-in_err-item-2 t c =
    let x = err_from_is_err_and c.from_residual-in_err-item-2.result c.from_residual-in_err-item-2.ensures.1 in
    let first = c.in_ok-item.ensures in
    let kept = c.loop-self.invariant in
    let next = c.in_err-item-2.ensures in
    rw (x.1, x.2)
    (record {
      depth = next.depth ∙ kept.0 ∙ first.depth;
      parsed = at_depth first.depth (breaks items (at_depth (sym first.depth) first.parsed) kept.1 c.loop-self-test.ensures (at_depth kept.0 next.parsed));
    })

pub sequence-loop-self-preserved : goal.sequence-loop-self-preserved
sequence-loop-self-preserved t c =
    let kept = c.loop-self.invariant in
    let next = c.in_ok-item-2.ensures in
    let wrote = c.emit.ensures in
    (wrote.depth ∙ next.depth ∙ kept.0, rw (wrote.reader, wrote.letters) (again items kept.1 c.loop-self-test.ensures (at_depth kept.0 next.parsed) wrote.operations))

pub sequence-returns : goal.sequence-returns
sequence-returns t c =
    let first = c.in_ok-item.ensures in
    let kept = c.loop-self.invariant in
    record {
      depth = kept.0 ∙ first.depth;
      parsed = at_depth first.depth (finishes items (at_depth (sym first.depth) first.parsed) kept.1 c.loop-self-test.ensures);
    }

pub item-returns-then-accept : goal.item-returns-then-accept
item-returns-then-accept t c =
    let base = c.in_ok-base.ensures in
    let wrote = c.emit.ensures in
    record {
      depth = wrote.depth ∙ base.depth;
      parsed = rw (wrote.reader, wrote.letters) (item_starred base.parsed c.if-accept.ensures wrote.operations);
    }

pub item-returns-else-accept : goal.item-returns-else-accept
item-returns-else-accept t c = record { depth = c.in_ok-base.ensures.depth; parsed = item_plain c.in_ok-base.ensures.parsed c.if-accept.ensures }

pub bracket-returns-then-self-ge-MAX_OPEN : goal.bracket-returns-then-self-ge-MAX_OPEN
bracket-returns-then-self-ge-MAX_OPEN t c =
    let passed = taken c.take-opening.result c.take-opening.ensures.is c.take-opening.ensures.after in
    record {
      depth = refl;
      parsed =
          too_deep c.requires.next passed c.if-self-ge-MAX_OPEN.true (ap (λ x. x.reason) c.refused.ensures)
          (ap (λ x. x.place) c.refused.ensures ∙ ap (λ x. x.start) c.take-opening.ensures.is);
    }

pub bracket-returns-then-accept : goal.bracket-returns-then-accept
bracket-returns-then-accept t c =
    let passed = taken c.take-opening.result c.take-opening.ensures.is c.take-opening.ensures.after in
    let wrote = c.emit.ensures in
    record {
      depth = wrote.depth;
      parsed = rw (wrote.reader, wrote.letters) (nothing_read c.requires.next passed c.if-self-ge-MAX_OPEN.false c.if-accept.ensures wrote.operations);
    }

pub bracket-returns-in_err-inner : goal.bracket-returns-in_err-inner
bracket-returns-in_err-inner t c =
    let x = err_from_is_err_and c.from_residual.result c.from_residual.ensures.1 in
    let passed = taken c.take-opening.result c.take-opening.ensures.is c.take-opening.ensures.after in
    let inner = c.in_err-inner.ensures in
    rw (x.1, x.2)
    (record { depth = omega (arith, inner.depth); parsed = inner_refused c.requires.next passed c.if-self-ge-MAX_OPEN.false c.if-accept.ensures inner.parsed })

pub bracket-returns-then-accept-2 : goal.bracket-returns-then-accept-2
bracket-returns-then-accept-2 t c =
    let passed = taken c.take-opening.result c.take-opening.ensures.is c.take-opening.ensures.after in
    let inner = c.in_ok-inner.ensures in
    record {
      depth = omega (arith, inner.depth);
      parsed = closed_read c.requires.next passed c.if-self-ge-MAX_OPEN.false c.if-accept.ensures inner.parsed c.if-accept-2.ensures;
    }

pub bracket-returns-else-accept-2 : goal.bracket-returns-else-accept-2
bracket-returns-else-accept-2 t c =
    let passed = taken c.take-opening.result c.take-opening.ensures.is c.take-opening.ensures.after in
    let inner = c.in_ok-inner.ensures in
    record {
      depth = omega (arith, inner.depth);
      parsed =
          unclosed_refused c.requires.next passed c.if-self-ge-MAX_OPEN.false c.if-accept.ensures inner.parsed c.if-accept-2.ensures refl refl
          (c.misplaced.ensures.reason ∙ ap (λ x. reason_at x.lexeme) c.peek.ensures.is) (c.misplaced.ensures.place ∙ ap (λ x. x.start) c.peek.ensures.is);
    }

pub base-returns-in_default : goal.base-returns-in_default
base-returns-in_default t c = record {
  depth = refl;
  parsed = elim c.in_default.branch [
    | base-in_default-via-in-Sign-2+else-b-eq40 w ↦ sign_refused c.peek-next.result c.peek-next.ensures.is _ c.misplaced.ensures.reason c.misplaced.ensures.place w.in-Sign-2.b w.in-Sign-2.is (λ e. w.if-b-eq63.false (let one : w.in-Sign.b ≡ w.in-Sign-2.b = cc in one ∙ e)) w.if-b-eq40.false
    | base-in_default-via-in_default w ↦ other_refused c.peek-next.result c.peek-next.ensures.is _ c.misplaced.ensures.reason c.misplaced.ensures.place w.in_default.not-Name w.in_default.not-Sign
  ];
}
