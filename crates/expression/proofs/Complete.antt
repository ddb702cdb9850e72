-- What the grammar derives, a run reads: by induction on the derivation.
use Rattle.std.proofs.Common.{◌≡◌, List, [], ◌∷◌, Some, None, Option, refl, ap, subst}
use Rattle.lexer.specs.Tokens.{Lexeme}
use Rattle.expression.specs.Expressions.{Expr, sequence}
use Rattle.expression.specs.Reading.{Level, blank, Here, opened, wanting, holding, starred, State, state, start, joined, whole}
use Rattle.expression.specs.Derivations.{Category, alternatives, sequences, items, bases, Derives, a_name, any_name, nothing, bracket, once, repeated, one_item, more_items, one_sequence, more_sequences}
use Rattle.expression.proofs.Moves.{Wants, at_opening, at_gap, Holds, held, starry, name_comes, any_comes, bracket_opens, nothing_closes, bracket_closes, star_comes, dot_comes, bar_comes, Ends, ends, Goes, goes, ◌then◌, one}

-- inside a bracket
abbrev level : Option Expr → Option Expr → Level
level a i = record { alternatives = a; items = i }

-- where a run over the tokens of a part comes from where an operand can come: a base and an item end at the same level, a
-- sequence begins where no item was read, and alternatives where nothing was
abbrev Reaches : Category → List Lexeme → Expr → Type 0
Reaches bases ts e = (o : List Level) (l : Level) (h : Here) → Wants h → Goes (state o l h) ts (state o l (holding e))
Reaches items ts e = (o : List Level) (l : Level) (h : Here) → Wants h → (k : Here) × Holds k e × Goes (state o l h) ts (state o l k)
Reaches sequences ts e =
    (o : List Level) (a : Option Expr) (h : Here) → Wants h
    → (i : Option Expr) × (x : Expr) × (k : Here) × Holds k x × Goes (state o (level a None) h) ts (state o (level a i) k) × (joined i x ≡ e)
Reaches alternatives ts e =
    (o : List Level) (h : Here) → Wants h
    → (l : Level) × (x : Expr) × (k : Here) × Holds k x × Goes (state o blank h) ts (state o l k) × (whole l x ≡ e)

-- each derivation is such a run
reaches : {p : Category} {ts : List Lexeme} {e : Expr} → Derives p ts e → Reaches p ts e
reaches (a_name n) = λ o l h w. one (name_comes w)
reaches any_name = λ o l h w. one (any_comes w)
reaches nothing = λ o l h w. goes (bracket_opens w) (one nothing_closes)
reaches (bracket ts e d) = λ o l h w.
    let (k, x, i, holds, run, is) = reaches d (l ∷ o) opened at_opening in
    rw (← is) (goes (bracket_opens w) (run then one (bracket_closes holds)))
reaches (once ts e d) = λ o l h w. (holding e, held, reaches d o l h w)
reaches (repeated ts e d) = λ o l h w. (starred _, starry, reaches d o l h w then one star_comes)
reaches (one_item ts e d) = λ o a h w.
    let (k, holds, run) = reaches d o (level a None) h w in
    (None, e, k, holds, run, refl)
reaches (more_items ts us d e p q) = λ o a h w.
    let (i, x, k, holds, run, is) = reaches p o a h w in
    let (j, last, rest) = reaches q o (level a (Some (joined i x))) wanting at_gap in
    (Some (joined i x), e, j, last, run then goes (dot_comes holds) rest, ap (λ d. sequence d e) is)
reaches (one_sequence ts e d) = λ o h w.
    let (i, x, k, holds, run, is) = reaches d o None h w in
    (level None i, x, k, holds, run, is)
reaches (more_sequences ts us d e p q) = λ o h w.
    let (l, x, k, holds, run, is) = reaches p o h w in
    let (i, y, j, last, rest, too) = reaches q o (Some (whole l x)) wanting at_gap in
    (level (Some (whole l x)) i, y, j, last, run then goes (bar_comes holds) rest, cc)

-- a run over the tokens to where the text can end, with this tree
pub record Accepts (s : State) (ts : List Lexeme) (e : Expr) : Type 0 where
  pub last : State
  pub run : Goes s ts last
  pub end : Ends last e

-- what the grammar derives is accepted
pub complete : {ts : List Lexeme} {e : Expr} → Derives alternatives ts e → Accepts start ts e
complete d =
    let (l, x, k, holds, run, is) = reaches d [] wanting at_gap in
    record { last = state [] l k; run = run; end = subst (Ends (state [] l k)) is (ends holds) }
