use Rattle.std.proofs.Common.{sym, ap, ◌∙◌}
use Rattle.std.specs.Str.{bytes_eq}
use Rattle.std.proofs.lemmas.Slice.Eq.{slice_eq-Decides, bytes_eq-Decides}
use Rattle.std.proofs.lemmas.Bool.Decides.{same_from_decides, Decides-eqb}
use Rattle.expression.specs.Expressions.{fits}
use Rattle.expression.specs.Tables.{letter_of}
use Rattle.expression.proofs.letter.Letter.fits.Goals as goal

pub returns-in-Any : goal.returns-in-Any
unfolding fits
returns-in-Any c = c.is_lawful.ensures ∙ ap (λ l. fits (letter_of l) c.args.name.now) (sym c.in-Any.is)

pub returns-in-Named : goal.returns-in-Named
unfolding fits
returns-in-Named c =
    same_from_decides c.eq.result (bytes_eq c.as_bytes.result.now c.args.name.now)
    (slice_eq-Decides Decides-eqb _ _ _ c.eq.ensures) (bytes_eq-Decides c.as_bytes.result.now c.args.name.now)
    ∙ ap (λ xs. bytes_eq xs c.args.name.now) c.as_bytes.ensures
    ∙ ap (λ l. fits (letter_of l) c.args.name.now) (sym c.in-Named.is)
