use Rattle.std.proofs.Common.{sym, ◌∙◌}
use denote.Enum.Bare.{same_true, same_false}
use Rattle.lexer.specs.contracts.class.Class.{the_type}
use Rattle.lexer.proofs.Fronts.{lex_end, lex_name, lex_number, lex_sign, lex_bad}
use Rattle.lexer.proofs.reader.Reader.peek.Goals as goal
use Rattle.lexer.proofs.reader.Reader.peek.Goals.{else-eq-2-via-then-eq-2+else-has_numbers, else-eq-2-via-else-eq-2, else-eq-3-via-then-eq-3+else-starts_token, else-eq-3-via-else-eq-3}

pub returns-then-start-text-clause-is : goal.returns-then-start-text-clause-is
returns-then-start-text-clause-is c = sym (lex_end _ _ _ _ c.run_end-start.ensures.ends c.if-start-text.true)

pub returns-then-eq-clause-is : goal.returns-then-eq-clause-is
returns-then-eq-clause-is c =
    c.name_at.ensures.is
    ∙ sym (lex_name _ _ _ _ c.run_end-start.ensures.ends c.if-start-text.false (sym c.from-class.ensures ∙ same_true the_type tt _ _ (sym c.if-eq.ensures)))

pub returns-then-has_numbers-clause-is : goal.returns-then-has_numbers-clause-is
returns-then-has_numbers-clause-is c =
    c.number_at.ensures.is
    ∙ sym (lex_number _ _ _ _ c.run_end-start.ensures.ends c.if-start-text.false (sym c.from-class.ensures ∙ same_true the_type tt _ _ (sym c.if-eq-2.ensures)) (sym c.if-has_numbers.ensures))

pub returns-then-starts_token-clause-is : goal.returns-then-starts_token-clause-is
returns-then-starts_token-clause-is c =
    c.sign_at.ensures.is
    ∙ sym (lex_sign _ _ _ _ c.run_end-start.ensures.ends c.if-start-text.false (sym c.from-class.ensures ∙ same_true the_type tt _ _ (sym c.if-eq-3.ensures)) (sym c.if-starts_token.ensures))

pub returns-clause-is : goal.returns-clause-is
returns-clause-is c =
    c.no_token.ensures.is
    ∙ sym (lex_bad _ _ _ _ c.run_end-start.ensures.ends c.if-start-text.false
    (λ e. same_false the_type _ _ (sym c.if-eq.ensures) (c.from-class.ensures ∙ e))
    (λ e. elim c.else-eq-2.branch [
      | else-eq-2-via-then-eq-2+else-has_numbers w ↦ sym w.if-has_numbers.ensures
      | else-eq-2-via-else-eq-2 w ↦ absurd (same_false the_type _ _ (sym w.if-eq-2.ensures) (c.from-class.ensures ∙ e))
    ])
    (λ e. elim c.else-eq-3.branch [
      | else-eq-3-via-then-eq-3+else-starts_token w ↦ sym w.if-starts_token.ensures
      | else-eq-3-via-else-eq-3 w ↦ absurd (same_false the_type _ _ (sym w.if-eq-3.ensures) (c.from-class.ensures ∙ e))
    ]))
