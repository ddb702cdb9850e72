-- What one token does to a state, as a relation, and runs over lists of tokens.
use Rattle.std.proofs.Common.{◌≡◌, ℕ, cond, eqb, List, [], ◌∷◌, ◌++◌, IfSome, Some, Option, sym, refl, subst, append-nil}
use Rattle.std.proofs.lemmas.Bool.{eqb-true, cond_both}
use Rattle.std.proofs.lemmas.Option.{MatchOption-at_some}
use Rattle.lexer.specs.Tokens.{Lexeme, name, number, sign, equals, end, bad}
use Rattle.expression.specs.Expressions.{any, named, Expr, empty, letter, star}
use Rattle.expression.specs.Reading.{Level, blank, Here, opened, wanting, holding, starred, State, state, whole, operand, open_bracket, close_bracket, repeat, after_dot, after_bar, separate, advance, finish}

-- an operand can come here
pub data Wants : Here → Type 0 where
  at_opening : Wants opened
  at_gap : Wants wanting

-- an operand stands last here, with this tree
pub data Holds : Here → Expr → Type 0 where
  held : {e : Expr} → Holds (holding e) e
  starry : {e : Expr} → Holds (starred e) e

-- what a token does
pub data Move : Lexeme → State → State → Type 0 where
  name_comes : {n : List ℕ} {o : List Level} {l : Level} {h : Here} → Wants h → Move (name n) (state o l h) (state o l (holding (letter (named n))))
  any_comes : {o : List Level} {l : Level} {h : Here} → Wants h → Move (sign 63) (state o l h) (state o l (holding (letter any)))
  bracket_opens : {o : List Level} {l : Level} {h : Here} → Wants h → Move (sign 40) (state o l h) (state (l ∷ o) blank opened)
  nothing_closes : {o : List Level} {l k : Level} → Move (sign 41) (state (l ∷ o) k opened) (state o l (holding empty))
  bracket_closes : {o : List Level} {l k : Level} {h : Here} {e : Expr} → Holds h e → Move (sign 41) (state (l ∷ o) k h) (state o l (holding (whole k e)))
  star_comes : {o : List Level} {l : Level} {e : Expr} → Move (sign 42) (state o l (holding e)) (state o l (starred (star e)))
  dot_comes : {o : List Level} {l : Level} {h : Here} {e : Expr} → Holds h e → Move (sign 46) (state o l h) (state o (after_dot l e) wanting)
  bar_comes : {o : List Level} {l : Level} {h : Here} {e : Expr} → Holds h e → Move (sign 124) (state o l h) (state o (after_bar l e) wanting)

-- a state in which the text can end, with its tree
pub data Ends : State → Expr → Type 0 where
  ends : {l : Level} {h : Here} {e : Expr} → Holds h e → Ends (state [] l h) (whole l e)

-- a move is what advancing does
pub move_advances : {t : Lexeme} {s to : State} → Move t s to → advance t s ≡ Some to
unfolding advance
move_advances (name_comes at_opening) = refl
move_advances (name_comes at_gap) = refl
move_advances (any_comes at_opening) = refl
move_advances (any_comes at_gap) = refl
move_advances (bracket_opens at_opening) = refl
move_advances (bracket_opens at_gap) = refl
move_advances nothing_closes = refl
move_advances (bracket_closes held) = refl
move_advances (bracket_closes starry) = refl
move_advances star_comes = refl
move_advances (dot_comes held) = refl
move_advances (dot_comes starry) = refl
move_advances (bar_comes held) = refl
move_advances (bar_comes starry) = refl

-- an end is what finishing finds
pub end_finishes : {s : State} {e : Expr} → Ends s e → finish s s.outer s.here ≡ Some e
end_finishes (ends held) = refl
end_finishes (ends starry) = refl

-- the state after a token, if there is one, is one that a move reaches
abbrev Moved : Lexeme → State → Option State → Type 0
Moved t s o = IfSome o (Move t s)

-- by whether the sign is the one asked for
by_sign : (b k : ℕ) (s : State) (x y : Option State) → Moved (sign k) s x → Moved (sign b) s y → Moved (sign b) s (cond (eqb b k) x y)
by_sign b k s x y same other =
    cond_both (eqb b k) x y (Moved (sign b) s) (λ is. subst (λ n. Moved (sign n) s x) (sym (eqb-true b k is)) same) (λ _. other)

-- each thing that can come, by where it comes
module _ (o : List Level) (l : Level) where
  operand_moves : (t : Lexeme) (e : Expr) (h : Here) → (Wants h → Move t (state o l h) (state o l (holding e))) → Moved t (state o l h) (operand (state o l h) h e)
  operand_moves t e opened move = move at_opening
  operand_moves t e wanting move = move at_gap
  operand_moves t e (holding d) move = tt
  operand_moves t e (starred d) move = tt

  open_moves : (h : Here) → Moved (sign 40) (state o l h) (open_bracket (state o l h) h)
  open_moves opened = bracket_opens at_opening
  open_moves wanting = bracket_opens at_gap
  open_moves (holding d) = tt
  open_moves (starred d) = tt

  repeat_moves : (h : Here) → Moved (sign 42) (state o l h) (repeat (state o l h) h)
  repeat_moves opened = tt
  repeat_moves wanting = tt
  repeat_moves (holding d) = star_comes
  repeat_moves (starred d) = tt

  separate_moves : (b : ℕ) (next : Level → Expr → Level) (h : Here) → ((e : Expr) → Holds h e → Move (sign b) (state o l h) (state o (next l e) wanting)) → Moved (sign b) (state o l h) (separate next (state o l h) h)
  separate_moves b next opened move = tt
  separate_moves b next wanting move = tt
  separate_moves b next (holding d) move = move d held
  separate_moves b next (starred d) move = move d starry

close_moves : (o : List Level) (l : Level) (h : Here) → Moved (sign 41) (state o l h) (close_bracket (state o l h) h)
close_moves [] l opened = tt
close_moves [] l wanting = tt
close_moves [] l (holding d) = tt
close_moves [] l (starred d) = tt
close_moves (k ∷ o) l opened = nothing_closes
close_moves (k ∷ o) l wanting = tt
close_moves (k ∷ o) l (holding d) = bracket_closes held
close_moves (k ∷ o) l (starred d) = bracket_closes starry

token_moves : (t : Lexeme) (o : List Level) (l : Level) (h : Here) → Moved t (state o l h) (advance t (state o l h))
unfolding advance
token_moves (name n) o l h = operand_moves o l (name n) _ h name_comes
token_moves (number n) o l h = tt
token_moves (sign b) o l h =
    by_sign b 63 _ _ _ (operand_moves o l (sign 63) _ h any_comes)
    (by_sign b 40 _ _ _ (open_moves o l h)
    (by_sign b 41 _ _ _ (close_moves o l h)
    (by_sign b 42 _ _ _ (repeat_moves o l h)
    (by_sign b 46 _ _ _ (separate_moves o l 46 after_dot h (λ _. dot_comes))
    (by_sign b 124 _ _ _ (separate_moves o l 124 after_bar h (λ _. bar_comes)) tt)))))
token_moves equals o l h = tt
token_moves end o l h = tt
token_moves bad o l h = tt

-- what advancing does is a move
pub advance_moves : (t : Lexeme) (s to : State) → advance t s ≡ Some to → Move t s to
advance_moves t s to is = MatchOption-at_some (Unit {0}) (Move t s) to is (token_moves t s.outer s.level s.here)

-- what finishing finds is an end
pub finish_ends : (s : State) (e : Expr) → finish s s.outer s.here ≡ Some e → Ends s e
finish_ends s e is = MatchOption-at_some (Unit {0}) (Ends s) e is (found s.outer s.level s.here)
  where
    found : (o : List Level) (l : Level) (h : Here) → IfSome (finish (state o l h) o h) (Ends (state o l h))
    found [] l opened = tt
    found [] l wanting = tt
    found [] l (holding e) = ends held
    found [] l (starred e) = ends starry
    found (k ∷ o) l h = tt

-- a run over a list of tokens
pub data Goes : State → List Lexeme → State → Type 0 where
  stays : {s : State} → Goes s [] s
  goes : {t : Lexeme} {ts : List Lexeme} {s next to : State} → Move t s next → Goes next ts to → Goes s (t ∷ ts) to

-- one run, and then another
infixl 20 ◌then◌
pub ◌then◌ : {ts us : List Lexeme} {s mid to : State} → Goes s ts mid → Goes mid us to → Goes s (ts ++ us) to
stays then run = run
goes m rest then run = goes m (rest then run)

-- a run over one token
pub one : {t : Lexeme} {s to : State} → Move t s to → Goes s (t ∷ []) to
one m = goes m stays

-- a token leads from a state to one state at most
one_move : {t : Lexeme} {s a b : State} → Move t s a → Move t s b → a ≡ b
one_move m n = let p = move_advances m in let q = move_advances n in cc

-- a run begins with every run over its first tokens
pub rest_of : {ts us : List Lexeme} {s mid to : State} → Goes s ts mid → Goes s (ts ++ us) to → Goes mid us to
rest_of stays run = run
rest_of (goes m rest) (goes n run) = rest_of rest (rw (one_move n m) at run)

-- tokens lead from a state to one state at most
pub one_run : {ts : List Lexeme} {s a b : State} → Goes s ts a → Goes s ts b → a ≡ b
one_run p q = stay (rest_of p (simp append-nil q))
  where
    stay : {a b : State} → Goes a [] b → a ≡ b
    stay stays = refl
