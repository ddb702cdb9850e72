use Rattle.std.proofs.Common.{◌≡◌, ℕ, ◌+◌, ◌-◌, ◌<◌, [], ◌∷◌, length, take, drop, Ok, Err, sym, ap, ◌∙◌, arith}
use Rattle.std.proofs.lemmas.Bool.{eqb-true, eqb-false}
use Rattle.contract.specs.PathTexts.{spell, permitted, path}
use Rattle.contract.proofs.Spelled.{from_start, empty_text, starts_name, wrong_start, ends_name, goes_on, wrong_byte, too_long, ends_text, ends_wrong, permitted_starting}
use Rattle.contract.proofs.path_text.permits_text.Goals as goal
use Rattle.contract.proofs.path_text.permits_text.Goals.{then-not-is_letter_or_digit-via-then-not-is_letter_or_digit, then-not-is_letter_or_digit-via-else-not-is_letter_or_digit+then-place-from-ge-MAX_NAME, then-place-from+else-not-is_classed, else-place-from+then-b-eq46, else-place-from+else-b-eq46+else-not-is_letter_or_digit+else-place-from-ge-MAX_NAME}

pub returns-then-is_empty : goal.returns-then-is_empty
returns-then-is_empty g c =
    let k = g.C.Contract in
    let own = c.args.contract.now in
    let none : length c.args.text.now ≡ 0 = eqb-true _ _ (sym c.if-is_empty.ensures) in
    ap Ok c.permission_at.ensures ∙ ap (λ r. permitted (k.terms own r) (path [])) c.start-at.ensures
    ∙ ap (permitted (k.terms own (k.starts own))) (sym (empty_text c.args.text.now none))

pub loop-place-init : goal.loop-place-init
loop-place-init g c =
    let k = g.C.Contract in
    let own = c.args.contract.now in
    let some : 0 < length c.args.text.now = omega (arith, eqb-false _ _ (sym c.if-is_empty.ensures)) in (
      omega arith,
      ap (λ r. permitted (k.terms own r) (spell 0 [] c.args.text.now)) c.start-at.ensures
          ∙ ap (permitted (k.terms own (k.starts own))) (from_start c.args.text.now some),
    )

pub returns-then-not-is_classed : goal.returns-then-not-is_classed
returns-then-not-is_classed g c =
    let k = g.C.Contract in
    let own = c.args.contract.now in
    sym (ap (permitted (k.terms own c.loop-place.at)) (wrong_start c.args.text.now c.loop-place.from c.loop-place.place c.loop-place-test.true (sym c.if-place-from.true) (sym c.if-not-is_classed.ensures)))
    ∙ c.loop-place.invariant.1

pub returns-then-not-is_letter_or_digit : goal.returns-then-not-is_letter_or_digit
returns-then-not-is_letter_or_digit g c =
    let k = g.C.Contract in
    let own = c.args.contract.now in
    let low = c.loop-place.invariant.0 in
    let inside : c.loop-place.from < c.loop-place.place = omega (arith, c.if-place-from.false) in
    sym (ap (permitted (k.terms own c.loop-place.at)) (elim c.then-not-is_letter_or_digit.branch [
      | then-not-is_letter_or_digit-via-then-not-is_letter_or_digit w ↦ wrong_byte c.args.text.now c.loop-place.from c.loop-place.place c.loop-place-test.true inside c.if-b-eq46.false (sym c.is_letter_or_digit.ensures ∙ w.if-not-is_letter_or_digit.true)
      | then-not-is_letter_or_digit-via-else-not-is_letter_or_digit+then-place-from-ge-MAX_NAME w ↦ too_long c.args.text.now c.loop-place.from c.loop-place.place c.loop-place-test.true inside c.if-b-eq46.false w.if-place-from-ge-MAX_NAME.true
    ]))
    ∙ c.loop-place.invariant.1

pub loop-place-preserved : goal.loop-place-preserved
loop-place-preserved g c =
    let k = g.C.Contract in
    let own = c.args.contract.now in
    let text = c.args.text.now in
    let i = c.loop-place.place in
    let from = c.loop-place.from in
    let low = c.loop-place.invariant.0 in
    let goal = λ (at : g.row.C-Residue.Denot) (start : ℕ). permitted (k.terms own at) (spell (i + 1) (take (i + 1 - start) (drop start text)) (drop (i + 1) text)) in
    elim c.if-place-from.branch [
      | then-place-from+else-not-is_classed w ↦ (
        omega (arith, w.from-is),
        (λ j. goal (w.at-is j) (w.from-is j))
            ∙ sym (ap (permitted (k.terms own c.loop-place.at)) (starts_name text from i c.loop-place-test.true (sym w.if-place-from.true) (sym w.is_classed.ensures ∙ w.if-not-is_classed.false)))
            ∙ c.loop-place.invariant.1,
      )
      | else-place-from+then-b-eq46 w ↦ (
        omega (arith, w.from-is),
        (λ j. goal (w.at-is j) (w.from-is j))
            ∙ ap (λ t. permitted t (spell (i + 1) (take (i + 1 - (i + 1)) (drop (i + 1) text)) (drop (i + 1) text))) w.step-at.ensures
            ∙ sym (ap (permitted (k.terms own c.loop-place.at)) (ends_name text from i c.loop-place-test.true (omega (arith, w.if-place-from.false)) w.if-b-eq46.true) ∙ permitted_starting _ _ _)
            ∙ c.loop-place.invariant.1,
      )
      | else-place-from+else-b-eq46+else-not-is_letter_or_digit+else-place-from-ge-MAX_NAME w ↦ (
        omega (arith, w.from-is),
        (λ j. goal (w.at-is j) (w.from-is j))
            ∙ sym (ap (permitted (k.terms own c.loop-place.at)) (goes_on text from i c.loop-place-test.true (omega (arith, w.if-place-from.false)) w.if-b-eq46.false (sym w.is_letter_or_digit.ensures ∙ w.if-not-is_letter_or_digit.false) w.if-place-from-ge-MAX_NAME.false))
            ∙ c.loop-place.invariant.1,
      )
    ]

pub returns-then-from-text : goal.returns-then-from-text
returns-then-from-text g c =
    let k = g.C.Contract in
    let own = c.args.contract.now in
    let low = c.loop-place.invariant.0 in
    let end : c.loop-place.place ≡ length c.args.text.now = omega arith in
    let same : c.loop-place.from ≡ c.loop-place.place = omega (arith, c.if-from-text.true) in
    ap (λ n. Err (record { place = n })) (sym end)
    ∙ sym (ap (permitted (k.terms own c.loop-place.at)) (ends_wrong c.args.text.now c.loop-place.from c.loop-place.place c.loop-place-test.false same)) ∙ c.loop-place.invariant.1

pub returns : goal.returns
returns g c =
    let k = g.C.Contract in
    let own = c.args.contract.now in
    let text = c.args.text.now in
    let from = c.loop-place.from in
    let end : c.loop-place.place ≡ length c.args.text.now = omega arith in
    let inside : c.loop-place.from < c.loop-place.place = omega (arith, c.if-from-text.false) in
    ap Ok c.permission_at-2.ensures ∙ ap (λ t. permitted t (path [])) c.step.ensures
    ∙ sym (permitted_starting (k.terms own c.loop-place.at) (take (length text - from) (drop from text)) (path []))
    ∙ ap (λ n. permitted (k.terms own c.loop-place.at) (path (take (n - from) (drop from text) ∷ []))) (sym end)
    ∙ sym (ap (permitted (k.terms own c.loop-place.at)) (ends_text text from c.loop-place.place c.loop-place-test.false (omega arith) inside)) ∙ c.loop-place.invariant.1
