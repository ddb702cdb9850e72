-- What one token does to a state, as a relation, and runs over lists of tokens.
use Rattle.std.proofs.Common.{◌≡◌, ℕ, List, [], ◌∷◌, ◌++◌, Some, refl, append-nil, arith}
use Rattle.lexer.specs.Names.{Name}
use Rattle.lexer.specs.Tokens.{Lexeme, name, sign, equals, end, bad}
use Rattle.lexer.specs.Tokens as lexer
use Rattle.script.specs.Trees.{Step, Expr, Statement, assign, write, cut, say, branch, Block, done}
use Rattle.script.specs.Words.{Word, if_word, else_word, while_word, say_word, cut_word, has_word, plain_word, word_of}
use Rattle.script.specs.Reading.{Level, whole, Spot, Inner, inner, fresh, step_at, Purpose, assigning, writing, saying, testing, repeating, ready, chosen, otherwise, target, target_dot, cutting, cut_path, cut_dot, inside, Opened, then_block, else_block, while_block, Frame, State, state, followed, close_frame, from_ready, chosen_word, word_in, set_by, advance_at, advance, finish}
use Rattle.script.specs.Derivations.{Placed, at}
use Rattle.script.proofs.Steps.{Holds, holds_operand, Steps, step_advances}

-- an open brace
abbrev pub frame : Block → Opened → Frame
frame b o = record { before = b; opened = o }

-- the statement that an expression ends
pub data Gives : Purpose → Expr → Statement → Type 0 where
  gives_assign : {v : Name} {e : Expr} → Gives (assigning v) e (assign v e)
  gives_write : {v : Name} {ss : List Step} {e : Expr} → Gives (writing v ss) e (write v ss e)
  gives_say : {p : ℕ} {e : Expr} → Gives (saying p) e (say p e)

-- the block that a condition begins
pub data Begins : Purpose → Expr → Opened → Type 0 where
  begins_then : {p : ℕ} {e : Expr} → Begins (testing p) e (then_block p e)
  begins_while : {p : ℕ} {e : Expr} → Begins (repeating p) e (while_block p e)

-- the keywords with which an expression begins
pub data Heads : Word → ℕ → Purpose → Type 0 where
  heads_if : {p : ℕ} → Heads if_word p (testing p)
  heads_while : {p : ℕ} → Heads while_word p (repeating p)
  heads_say : {p : ℕ} → Heads say_word p (saying p)

-- what a token does; after the block of an if it may do what it does after the ended if
pub data Move : Lexeme → ℕ → State → State → Type 0 where
  head_comes : {n : Name} {p : ℕ} {fs : List Frame} {b : Block} {w : Word} {u : Purpose} → word_of n ≡ w → Heads w p u → Move (name n) p (state fs b ready) (state fs b (inside u fresh))
  cut_comes : {n : Name} {p : ℕ} {fs : List Frame} {b : Block} → word_of n ≡ cut_word → Move (name n) p (state fs b ready) (state fs b cutting)
  target_begins : {n : Name} {p : ℕ} {fs : List Frame} {b : Block} → word_of n ≡ plain_word → Move (name n) p (state fs b ready) (state fs b (target n []))
  brace_closes : {p : ℕ} {fs : List Frame} {a b : Block} {o : Opened} → Move (sign 125) p (state (frame a o ∷ fs) b ready) (close_frame fs a b o)
  else_comes : {n : Name} {p q : ℕ} {fs : List Frame} {b c : Block} {e : Expr} → word_of n ≡ else_word → Move (name n) p (state fs b (chosen q e c)) (state fs b (otherwise q e c))
  if_ends : {t : Lexeme} {p q : ℕ} {fs : List Frame} {b c : Block} {e : Expr} {to : State} → Move t p (state fs (followed b (branch q e c done)) ready) to → Move t p (state fs b (chosen q e c)) to
  else_opens : {p q : ℕ} {fs : List Frame} {b c : Block} {e : Expr} → Move (sign 123) p (state fs b (otherwise q e c)) (state (frame b (else_block q e c) ∷ fs) done ready)
  target_dots : {p : ℕ} {fs : List Frame} {b : Block} {v : Name} {ss : List Step} → Move (sign 46) p (state fs b (target v ss)) (state fs b (target_dot v ss))
  target_grows : {n v : Name} {p : ℕ} {fs : List Frame} {b : Block} {ss : List Step} → word_of n ≡ plain_word → Move (name n) p (state fs b (target_dot v ss)) (state fs b (target v (ss ++ (step_at n p ∷ []))))
  target_sets : {p : ℕ} {fs : List Frame} {b : Block} {v : Name} {ss : List Step} → Move (sign 61) p (state fs b (target v ss)) (state fs b (inside (set_by v ss) fresh))
  cut_begins : {n : Name} {p : ℕ} {fs : List Frame} {b : Block} → word_of n ≡ plain_word → Move (name n) p (state fs b cutting) (state fs b (cut_path n []))
  cut_dots : {p : ℕ} {fs : List Frame} {b : Block} {v : Name} {ss : List Step} → Move (sign 46) p (state fs b (cut_path v ss)) (state fs b (cut_dot v ss))
  cut_grows : {n v : Name} {p : ℕ} {fs : List Frame} {b : Block} {ss : List Step} → word_of n ≡ plain_word → Move (name n) p (state fs b (cut_dot v ss)) (state fs b (cut_path v (ss ++ (step_at n p ∷ []))))
  cut_ends : {p : ℕ} {fs : List Frame} {b : Block} {v : Name} {s : Step} {ss : List Step} → Move (sign 59) p (state fs b (cut_path v (s ∷ ss))) (state fs (followed b (cut v (s ∷ ss))) ready)
  goes_on : {t : Lexeme} {p : ℕ} {fs : List Frame} {b : Block} {u : Purpose} {i j : Inner} → Steps t p i j → Move t p (state fs b (inside u i)) (state fs b (inside u j))
  expression_ends : {p : ℕ} {fs : List Frame} {b : Block} {u : Purpose} {l : Level} {k : Spot} {e : Expr} {s : Statement} → Holds k e → Gives u (whole l e) s → Move (sign 59) p (state fs b (inside u (inner [] l k))) (state fs (followed b s) ready)
  condition_ends : {p : ℕ} {fs : List Frame} {b : Block} {u : Purpose} {l : Level} {k : Spot} {e : Expr} {o : Opened} → Holds k e → Begins u (whole l e) o → Move (sign 123) p (state fs b (inside u (inner [] l k))) (state (frame b o ∷ fs) done ready)

-- a state in which the text can end, with its tree
pub data Ends : State → Block → Type 0 where
  ends : {b : Block} → Ends (state [] b ready) b
  ends_if : {b c : Block} {p : ℕ} {e : Expr} → Ends (state [] b (chosen p e c)) (followed b (branch p e c done))

-- no statement begins with else
no_else : (t : Lexeme) (p : ℕ) (s to : State) → word_in t ≡ else_word → from_ready t p s ≡ Some to → ⊥
no_else (name n) p s to w is = let z : ◌≡◌ {A = ℕ} 0 1 = cc in omega arith
no_else (lexer.number n) p s to w is = let z : ◌≡◌ {A = ℕ} 0 1 = cc in omega arith
no_else (sign b) p s to w is = let z : ◌≡◌ {A = ℕ} 0 1 = cc in omega arith
no_else equals p s to w is = let z : ◌≡◌ {A = ℕ} 0 1 = cc in omega arith
no_else end p s to w is = let z : ◌≡◌ {A = ℕ} 0 1 = cc in omega arith
no_else bad p s to w is = let z : ◌≡◌ {A = ℕ} 0 1 = cc in omega arith

-- what a token does after the ended if it does after the if's block
if_ended : (t : Lexeme) (p q : ℕ) (s to : State) (e : Expr) (c : Block) (w : Word) → word_in t ≡ w → from_ready t p (state s.frames (followed s.block (branch q e c done)) ready) ≡ Some to → chosen_word w t p s q e c ≡ Some to
if_ended t p q s to e c if_word w is = is
if_ended t p q s to e c else_word w is = absurd (no_else t p _ to w is)
if_ended t p q s to e c while_word w is = is
if_ended t p q s to e c say_word w is = is
if_ended t p q s to e c cut_word w is = is
if_ended t p q s to e c has_word w is = is
if_ended t p q s to e c plain_word w is = is

-- a move is what advancing does
pub move_advances : {t : Lexeme} {p : ℕ} {s to : State} → Move t p s to → advance t p s ≡ Some to
unfolding advance_at
move_advances (head_comes w heads_if) = rw w refl
move_advances (head_comes w heads_while) = rw w refl
move_advances (head_comes w heads_say) = rw w refl
move_advances (cut_comes w) = rw w refl
move_advances (target_begins w) = rw w refl
move_advances brace_closes = refl
move_advances (else_comes w) = rw w refl
move_advances (if_ends {t = t} {p = p} {to = to} m) = if_ended t p _ _ to _ _ _ refl (move_advances m)
move_advances else_opens = refl
move_advances target_dots = refl
move_advances (target_grows w) = rw w refl
move_advances target_sets = refl
move_advances (cut_begins w) = rw w refl
move_advances cut_dots = refl
move_advances (cut_grows w) = rw w refl
move_advances cut_ends = refl
move_advances (goes_on x) = let (is, semi, brace) = step_advances x in rw (semi, brace, is) refl
move_advances (expression_ends h gives_assign) = rw (holds_operand h) refl
move_advances (expression_ends h gives_write) = rw (holds_operand h) refl
move_advances (expression_ends h gives_say) = rw (holds_operand h) refl
move_advances (condition_ends h begins_then) = rw (holds_operand h) refl
move_advances (condition_ends h begins_while) = rw (holds_operand h) refl

-- an end is what finishing finds
pub end_finishes : {s : State} {b : Block} → Ends s b → finish s s.frames s.stand ≡ Some b
end_finishes ends = refl
end_finishes ends_if = refl

-- a run over a list of tokens
pub data Goes : State → List Placed → State → Type 0 where
  stays : {s : State} → Goes s [] s
  goes : {t : Lexeme} {p : ℕ} {ts : List Placed} {s next to : State} → Move t p s next → Goes next ts to → Goes s (at p t ∷ ts) to

-- one run, and then another
infixl 20 ◌then◌
pub ◌then◌ : {ts us : List Placed} {s mid to : State} → Goes s ts mid → Goes mid us to → Goes s (ts ++ us) to
stays then run = run
goes m rest then run = goes m (rest then run)

-- a run over one token
pub one : {t : Lexeme} {p : ℕ} {s to : State} → Move t p s to → Goes s (at p t ∷ []) to
one m = goes m stays

-- a token leads from a state to one state at most
one_move : {t : Lexeme} {p : ℕ} {s a b : State} → Move t p s a → Move t p s b → a ≡ b
one_move m n = let p = move_advances m in let q = move_advances n in cc

-- a run begins with every run over its first tokens
pub rest_of : {ts us : List Placed} {s mid to : State} → Goes s ts mid → Goes s (ts ++ us) to → Goes mid us to
rest_of stays run = run
rest_of (goes m rest) (goes n run) = rest_of rest (rw (one_move n m) at run)

-- tokens lead from a state to one state at most
pub one_run : {ts : List Placed} {s a b : State} → Goes s ts a → Goes s ts b → a ≡ b
one_run p q = stay (rest_of p (simp append-nil q))
  where
    stay : {a b : State} → Goes a [] b → a ≡ b
    stay stays = refl
