-- What advancing does is a move, and what finishing finds is an end.
use Rattle.std.proofs.Common.{◌≡◌, ℕ, List, [], ◌∷◌, ◌++◌, IfSome, Some, None, Option, refl, arith}
use Rattle.std.proofs.lemmas.Option.{MatchOption-at_some}
use Rattle.lexer.specs.Names.{Name}
use Rattle.lexer.specs.Tokens.{Lexeme, name, sign, equals, end, bad}
use Rattle.lexer.specs.Tokens as lexer
use Rattle.script.specs.Trees.{Step, Expr, branch, Block, done}
use Rattle.script.specs.Words.{Word, if_word, else_word, while_word, say_word, cut_word, has_word, plain_word, word_of}
use Rattle.script.specs.Reading.{Level, whole, Spot, wanting, asked, named, dotted, held, operand, Inner, inner, step_at, expression_of, Purpose, assigning, writing, saying, testing, repeating, Stand, ready, chosen, otherwise, target, target_dot, cutting, cut_path, cut_dot, inside, Frame, State, state, followed, close_brace, ready_word, from_ready, chosen_word, word_in, if_plain, name_in, naming, cut_of, end_expression, end_condition, goes_inside, advance_at, advance, finish}
use Rattle.script.proofs.Steps.{by_sign, Stepped, token_steps, Holds, by_path, by_value}
use Rattle.script.proofs.Moves.{gives_assign, gives_write, gives_say, begins_then, begins_while, heads_if, heads_while, heads_say, Move, head_comes, cut_comes, target_begins, brace_closes, else_comes, if_ends, else_opens, target_dots, target_grows, target_sets, cut_begins, cut_dots, cut_grows, cut_ends, goes_on, expression_ends, condition_ends, Ends, ends, ends_if}

-- the state after a token, if there is one, is one that a move reaches
abbrev Moved : ℕ → State → Lexeme → Option State → Type 0
Moved p s t o = IfSome o (Move t p s)

-- `}` comes where a statement may begin
brace_moves : (p : ℕ) (fs : List Frame) (b : Block) → Moved p (state fs b ready) (sign 125) (close_brace fs b)
brace_moves p [] b = tt
brace_moves p (f ∷ fs) b = brace_closes

-- no word is two
plain≢else : plain_word ≡ else_word → ⊥
plain≢else is = let z : ◌≡◌ {A = ℕ} 0 1 = cc in omega arith

-- each thing that can come around expressions, by where it comes
module _ (p : ℕ) (fs : List Frame) (b : Block) where
  -- a word where a statement may begin
  ready_words : (n : Name) (w : Word) → word_of n ≡ w → Moved p (state fs b ready) (name n) (ready_word w n p (state fs b ready))
  ready_words n if_word is = head_comes is heads_if
  ready_words n else_word is = tt
  ready_words n while_word is = head_comes is heads_while
  ready_words n say_word is = head_comes is heads_say
  ready_words n cut_word is = cut_comes is
  ready_words n has_word is = tt
  ready_words n plain_word is = target_begins is

  -- a token where a statement may begin
  ready_moves : (t : Lexeme) → Moved p (state fs b ready) t (from_ready t p (state fs b ready))
  ready_moves (name n) = ready_words n (word_of n) refl
  ready_moves (lexer.number n) = tt
  ready_moves (sign c) = by_sign (Moved p (state fs b ready)) 125 (sign c) _ _ (brace_moves p fs b) tt
  ready_moves equals = tt
  ready_moves end = tt
  ready_moves bad = tt

  -- else after the block of an if
  else_moves : (t : Lexeme) (q : ℕ) (e : Expr) (c : Block) → word_in t ≡ else_word → Move t p (state fs b (chosen q e c)) (state fs b (otherwise q e c))
  else_moves (name n) q e c is = else_comes is
  else_moves (lexer.number n) q e c is = absurd (plain≢else is)
  else_moves (sign d) q e c is = absurd (plain≢else is)
  else_moves equals q e c is = absurd (plain≢else is)
  else_moves end q e c is = absurd (plain≢else is)
  else_moves bad q e c is = absurd (plain≢else is)

  -- another token there, as after the ended if
  ended_moves : (t : Lexeme) (q : ℕ) (e : Expr) (c : Block) (o : Option State) → Moved p (state fs (followed b (branch q e c done)) ready) t o → Moved p (state fs b (chosen q e c)) t o
  ended_moves t q e c None m = tt
  ended_moves t q e c (Some to) m = if_ends m

  -- a word where a name must come
  plain_moves : (h : Stand) (to : Name → Stand) (n : Name) (w : Word) → word_of n ≡ w → (word_of n ≡ plain_word → Move (name n) p (state fs b h) (state fs b (to n))) → Moved p (state fs b h) (name n) (naming (state fs b h) to (if_plain w n))
  plain_moves h to n if_word is move = tt
  plain_moves h to n else_word is move = tt
  plain_moves h to n while_word is move = tt
  plain_moves h to n say_word is move = tt
  plain_moves h to n cut_word is move = tt
  plain_moves h to n has_word is move = tt
  plain_moves h to n plain_word is move = move is

  -- a token where a name must come
  name_moves : (h : Stand) (to : Name → Stand) (t : Lexeme) → ((n : Name) → word_of n ≡ plain_word → Move (name n) p (state fs b h) (state fs b (to n))) → Moved p (state fs b h) t (naming (state fs b h) to (name_in t))
  name_moves h to (name n) move = plain_moves h to n (word_of n) refl (move n)
  name_moves h to (lexer.number n) move = tt
  name_moves h to (sign c) move = tt
  name_moves h to equals move = tt
  name_moves h to end move = tt
  name_moves h to bad move = tt

  -- `;` after a path to cut
  cut_moves : (v : Name) (ss : List Step) → Moved p (state fs b (cut_path v ss)) (sign 59) (cut_of (state fs b (cut_path v ss)) v ss)
  cut_moves v [] = tt
  cut_moves v (s ∷ ss) = cut_ends

  -- a token inside an expression
  inside_moves : (t : Lexeme) (u : Purpose) (i : Inner) (o : Option Inner) → Stepped p i t o → Moved p (state fs b (inside u i)) t (goes_inside (state fs b (inside u i)) u o)
  inside_moves t u i None x = tt
  inside_moves t u i (Some j) x = goes_on x

  -- a token that ends an expression, which it can where no bracket is open and an atom stands last
  by_whole : (t : Lexeme) (u : Purpose) (o : List Level) (l : Level) (k : Spot) (f : Option Expr → Option State) → Moved p (state fs b (inside u (inner o l k))) t (f None) → ((e : Expr) → Holds k e → Moved p (state fs b (inside u (inner [] l k))) t (f (Some (whole l e)))) → Moved p (state fs b (inside u (inner o l k))) t (f (expression_of (inner o l k) o (operand k)))
  by_whole t u o l wanting f none move = none
  by_whole t u o l asked f none move = none
  by_whole t u [] l (named h v ss) f none move = move _ by_path
  by_whole t u (m ∷ o) l (named h v ss) f none move = none
  by_whole t u o l (dotted h v ss) f none move = none
  by_whole t u [] l (held e) f none move = move e by_value
  by_whole t u (m ∷ o) l (held e) f none move = none

  -- `;` after an expression, by what it is read for
  end_moves : {k : Spot} (u : Purpose) (i : Inner) (l : Level) (e : Expr) → Holds k e → Moved p (state fs b (inside u (inner [] l k))) (sign 59) (end_expression (state fs b (inside u i)) u (Some (whole l e)))
  end_moves (assigning v) i l e h = expression_ends h gives_assign
  end_moves (writing v ss) i l e h = expression_ends h gives_write
  end_moves (saying q) i l e h = expression_ends h gives_say
  end_moves (testing q) i l e h = tt
  end_moves (repeating q) i l e h = tt

  -- `{` after an expression, by what it is read for
  condition_moves : {k : Spot} (u : Purpose) (i : Inner) (l : Level) (e : Expr) → Holds k e → Moved p (state fs b (inside u (inner [] l k))) (sign 123) (end_condition (state fs b (inside u i)) u (Some (whole l e)))
  condition_moves (assigning v) i l e h = tt
  condition_moves (writing v ss) i l e h = tt
  condition_moves (saying q) i l e h = tt
  condition_moves (testing q) i l e h = condition_ends h begins_then
  condition_moves (repeating q) i l e h = condition_ends h begins_while

-- a token after the block of an if, by its word
chosen_words : (p : ℕ) (fs : List Frame) (b : Block) (t : Lexeme) (q : ℕ) (e : Expr) (c : Block) (w : Word) → word_in t ≡ w → Moved p (state fs b (chosen q e c)) t (chosen_word w t p (state fs b (chosen q e c)) q e c)
chosen_words p fs b t q e c if_word is = ended_moves p fs b t q e c _ (ready_moves p fs _ t)
chosen_words p fs b t q e c else_word is = else_moves p fs b t q e c is
chosen_words p fs b t q e c while_word is = ended_moves p fs b t q e c _ (ready_moves p fs _ t)
chosen_words p fs b t q e c say_word is = ended_moves p fs b t q e c _ (ready_moves p fs _ t)
chosen_words p fs b t q e c cut_word is = ended_moves p fs b t q e c _ (ready_moves p fs _ t)
chosen_words p fs b t q e c has_word is = ended_moves p fs b t q e c _ (ready_moves p fs _ t)
chosen_words p fs b t q e c plain_word is = ended_moves p fs b t q e c _ (ready_moves p fs _ t)

-- a token anywhere
token_moves : (t : Lexeme) (p : ℕ) (fs : List Frame) (b : Block) (h : Stand) → Moved p (state fs b h) t (advance_at t p (state fs b h) h)
unfolding advance_at
token_moves t p fs b ready = ready_moves p fs b t
token_moves t p fs b (chosen q e c) = chosen_words p fs b t q e c (word_in t) refl
token_moves t p fs b (otherwise q e c) = by_sign (Moved p (state fs b (otherwise q e c))) 123 t _ _ else_opens tt
token_moves t p fs b (target v ss) =
    by_sign (Moved p (state fs b (target v ss))) 46 t _ _ target_dots (by_sign (Moved p (state fs b (target v ss))) 61 t _ _ target_sets tt)
token_moves t p fs b (target_dot v ss) = name_moves p fs b (target_dot v ss) (λ n. target v (ss ++ (step_at n p ∷ []))) t (λ n. target_grows)
token_moves t p fs b cutting = name_moves p fs b cutting (λ n. cut_path n []) t (λ n. cut_begins)
token_moves t p fs b (cut_path v ss) =
    by_sign (Moved p (state fs b (cut_path v ss))) 46 t _ _ cut_dots (by_sign (Moved p (state fs b (cut_path v ss))) 59 t _ _ (cut_moves p fs b v ss) tt)
token_moves t p fs b (cut_dot v ss) = name_moves p fs b (cut_dot v ss) (λ n. cut_path v (ss ++ (step_at n p ∷ []))) t (λ n. cut_grows)
token_moves t p fs b (inside u i) =
    by_sign (Moved p (state fs b (inside u i))) 59 t _ _
    (by_whole p fs b (sign 59) u i.outer i.level i.spot (end_expression (state fs b (inside u i)) u) tt (end_moves p fs b u i i.level))
    (by_sign (Moved p (state fs b (inside u i))) 123 t _ _
    (by_whole p fs b (sign 123) u i.outer i.level i.spot (end_condition (state fs b (inside u i)) u) tt (condition_moves p fs b u i i.level))
    (inside_moves p fs b t u i _ (token_steps t p i.outer i.level.compared i.level.summed i.level.multiplied i.spot)))

-- what advancing does is a move
pub advance_moves : (t : Lexeme) (p : ℕ) (s to : State) → advance t p s ≡ Some to → Move t p s to
advance_moves t p s to is = MatchOption-at_some (Unit {0}) (Move t p s) to is (token_moves t p s.frames s.block s.stand)

-- what finishing finds is an end
pub finish_ends : (s : State) (b : Block) → finish s s.frames s.stand ≡ Some b → Ends s b
finish_ends s b is = MatchOption-at_some (Unit {0}) (Ends s) b is (found s.frames s.block s.stand)
  where
    found : (fs : List Frame) (b : Block) (h : Stand) → IfSome (finish (state fs b h) fs h) (Ends (state fs b h))
    found [] b ready = ends
    found [] b (chosen p e c) = ends_if
    found [] b (otherwise p e c) = tt
    found [] b (target v ss) = tt
    found [] b (target_dot v ss) = tt
    found [] b cutting = tt
    found [] b (cut_path v ss) = tt
    found [] b (cut_dot v ss) = tt
    found [] b (inside u i) = tt
    found (f ∷ fs) b h = tt
