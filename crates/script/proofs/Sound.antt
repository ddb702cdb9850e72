-- What a run reads, the grammar derives: what a state tells of the tokens before it, kept by each move.
use Rattle.std.proofs.Common.{◌≡◌, ℕ, List, [], ◌∷◌, ◌++◌, append_assoc, append-nil}
use Rattle.lexer.specs.Names.{Name}
use Rattle.lexer.specs.Tokens.{Lexeme, name, sign}
use Rattle.script.specs.Trees.{Step, Expr, Statement, branch, Block, done}
use Rattle.script.specs.Words.{Word, if_word, else_word, while_word, cut_word, word_of}
use Rattle.script.specs.Reading.{Inner, fresh, Purpose, assigning, writing, Stand, ready, chosen, otherwise, target, target_dot, cutting, cut_path, cut_dot, inside, Opened, then_block, else_block, while_block, Frame, State, state, start, followed, set_by}
use Rattle.script.specs.Derivations.{Placed, at, Path, variable, longer, expressions, Derives, braced, IsStatement, assigns, writes, cuts, says, ifs, if_elses, whiles, IsBlock, no_more, one_more}
use Rattle.script.proofs.Moves.{frame, gives_assign, gives_write, gives_say, begins_then, begins_while, Heads, heads_if, heads_while, heads_say, Move, head_comes, cut_comes, target_begins, brace_closes, else_comes, if_ends, else_opens, target_dots, target_grows, target_sets, cut_begins, cut_dots, cut_grows, cut_ends, goes_on, expression_ends, condition_ends, Ends, ends, ends_if, Goes, goes, stays}
use Rattle.script.proofs.Complete.{Accepts}
use Rattle.script.proofs.Parts.{Within, at_first, kept_within, within_derives}

-- the tokens of a statement before its expression
data Before : Purpose → List Placed → Type 0 where
  a_head : {w : Word} {n : Name} {p : ℕ} {u : Purpose} → word_of n ≡ w → Heads w p u → Before u (at p (name n) ∷ [])
  a_variable : {v : Name} {ts : List Placed} (p : ℕ) → Path ts v [] → Before (assigning v) (ts ++ (at p (sign 61) ∷ []))
  a_longer : {v : Name} {s : Step} {ss : List Step} {ts : List Placed} (p : ℕ) → Path ts v (s ∷ ss) → Before (writing v (s ∷ ss)) (ts ++ (at p (sign 61) ∷ []))

-- the tokens of an if up to the end of its first block
data Chosen : ℕ → Expr → Block → List Placed → Type 0 where
  an_if : {p : ℕ} {w : Name} {ts us : List Placed} {e : Expr} {b : Block} (q r : ℕ) → word_of w ≡ if_word → Derives expressions ts e → IsBlock us b → Chosen p e b (at p (name w) ∷ (ts ++ braced q us r))

-- the tokens of a statement, up to here
data Begun : Stand → List Placed → Type 0 where
  nothing : Begun ready []
  chose : {p : ℕ} {e : Expr} {b : Block} {ts : List Placed} → Chosen p e b ts → Begun (chosen p e b) ts
  else_word_last : {p : ℕ} {e : Expr} {b : Block} {ts : List Placed} (o : ℕ) (x : Name) → word_of x ≡ else_word → Chosen p e b ts → Begun (otherwise p e b) (ts ++ (at o (name x) ∷ []))
  target_last : {v : Name} {ss : List Step} {ts : List Placed} → Path ts v ss → Begun (target v ss) ts
  target_dot_last : {v : Name} {ss : List Step} {ts : List Placed} (d : ℕ) → Path ts v ss → Begun (target_dot v ss) (ts ++ (at d (sign 46) ∷ []))
  cut_last : {p : ℕ} {w : Name} → word_of w ≡ cut_word → Begun cutting (at p (name w) ∷ [])
  cut_path_last : {p : ℕ} {w v : Name} {ss : List Step} {ts : List Placed} → word_of w ≡ cut_word → Path ts v ss → Begun (cut_path v ss) (at p (name w) ∷ ts)
  cut_dot_last : {p : ℕ} {w v : Name} {ss : List Step} {ts : List Placed} (d : ℕ) → word_of w ≡ cut_word → Path ts v ss → Begun (cut_dot v ss) (at p (name w) ∷ (ts ++ (at d (sign 46) ∷ [])))
  in_expression : {u : Purpose} {i : Inner} {ts us : List Placed} → Before u ts → Within i us → Begun (inside u i) (ts ++ us)

-- the tokens of a statement up to its open brace, with it
data Opens : Opened → List Placed → Type 0 where
  opens_then : {p : ℕ} {w : Name} {ts : List Placed} {e : Expr} (q : ℕ) → word_of w ≡ if_word → Derives expressions ts e → Opens (then_block p e) (at p (name w) ∷ (ts ++ (at q (sign 123) ∷ [])))
  opens_else : {p : ℕ} {e : Expr} {b : Block} {ts : List Placed} (o q : ℕ) (x : Name) → word_of x ≡ else_word → Chosen p e b ts → Opens (else_block p e b) (ts ++ (at o (name x) ∷ (at q (sign 123) ∷ [])))
  opens_while : {p : ℕ} {w : Name} {ts : List Placed} {e : Expr} (q : ℕ) → word_of w ≡ while_word → Derives expressions ts e → Opens (while_block p e) (at p (name w) ∷ (ts ++ (at q (sign 123) ∷ [])))

-- the tokens up to the innermost open brace, with it
data Framed : List Frame → List Placed → Type 0 where
  no_frame : Framed [] []
  framed : {fs : List Frame} {b : Block} {o : Opened} {ts us vs : List Placed} → Framed fs ts → IsBlock us b → Opens o vs → Framed (frame b o ∷ fs) (ts ++ (us ++ vs))

-- the tokens before a state
data Stood : State → List Placed → Type 0 where
  stood : {fs : List Frame} {b : Block} {h : Stand} {ts us vs : List Placed} → Framed fs ts → IsBlock us b → Begun h vs → Stood (state fs b h) (ts ++ (us ++ vs))

-- a statement more at the end of a block
followed_derives : {us vs : List Placed} {b : Block} {s : Statement} → IsBlock us b → IsStatement vs s → IsBlock (us ++ vs) (followed b s)
unfolding followed
followed_derives no_more x = simp append-nil at (one_more _ _ _ _ x no_more)
followed_derives (one_more ts us s b y d) x = simp append_assoc (one_more _ _ _ _ y (followed_derives d x))

-- where a statement is ended
ended : {fs : List Frame} {b : Block} {s : Statement} {ts us vs : List Placed} → Framed fs ts → IsBlock us b → IsStatement vs s → Stood (state fs (followed b s) ready) (ts ++ (us ++ vs))
ended f b x = simp append-nil at (stood f (followed_derives b x) nothing)

-- where a block is begun
block_begun : {fs : List Frame} {b : Block} {o : Opened} {ts us vs : List Placed} → Framed fs ts → IsBlock us b → Opens o vs → Stood (state (frame b o ∷ fs) done ready) (ts ++ (us ++ vs))
block_begun f b x = simp append-nil at (stood (framed f b x) no_more nothing)

-- the expression of an assignment begins
sets : {v : Name} {ss : List Step} {ts : List Placed} (p : ℕ) → Path ts v ss → Before (set_by v ss) (ts ++ (at p (sign 61) ∷ []))
sets {ss = []} p path = a_variable p path
sets {ss = s ∷ ss} p path = a_longer p path

-- an if without an else
ended_if : {p : ℕ} {e : Expr} {b : Block} {ts : List Placed} → Chosen p e b ts → IsStatement ts (branch p e b done)
ended_if (an_if q r w d x) = ifs _ q r _ _ _ _ _ w d x

-- an if with an else
with_else : {p : ℕ} {e : Expr} {b c : Block} {ts xs : List Placed} (o q r : ℕ) (x : Name) → word_of x ≡ else_word → Chosen p e b ts → IsBlock xs c → IsStatement (ts ++ (at o (name x) ∷ braced q xs r)) (branch p e b c)
with_else o q r v is (an_if {p = p} {w = n} s t w d x) y = simp append_assoc (simp append_assoc at (if_elses p s t o q r n v _ _ _ _ _ _ w is d x y))

-- an expression begins
in_fresh : {u : Purpose} {ts : List Placed} → Before u ts → Begun (inside u fresh) ts
in_fresh x = simp append-nil at (in_expression x at_first)

-- each move keeps what a state tells
kept : {t : Lexeme} {p : ℕ} {s to : State} {ws : List Placed} → Move t p s to → Stood s ws → Stood to (ws ++ (at p t ∷ []))
kept (head_comes w h) (stood f b nothing) = simp (append_assoc, append-nil) (stood f b (in_fresh (a_head w h)))
kept (cut_comes w) (stood f b nothing) = simp (append_assoc, append-nil) (stood f b (cut_last w))
kept (target_begins w) (stood f b nothing) = simp (append_assoc, append-nil) (stood f b (target_last (variable _ _ w)))
kept (brace_closes {p = r}) (stood (framed f a (opens_then q w d)) b nothing) = simp (append_assoc, append-nil) (stood f a (chose (an_if q r w d b)))
kept (brace_closes {p = r}) (stood (framed f a (opens_else o q x w c)) b nothing) = simp (append_assoc, append-nil) (ended f a (with_else o q r x w c b))
kept (brace_closes {p = r}) (stood (framed f a (opens_while q w d)) b nothing) = simp (append_assoc, append-nil) (ended f a (whiles _ q r _ _ _ _ _ w d b))
kept (else_comes w) (stood f b (chose c)) = simp append_assoc (stood f b (else_word_last _ _ w c))
kept (if_ends m) (stood f b (chose c)) = kept m (ended f b (ended_if c))
kept (else_opens {p = q}) (stood f b (else_word_last o x w c)) = simp append_assoc (block_begun f b (opens_else o q x w c))
kept target_dots (stood f b (target_last path)) = simp append_assoc (stood f b (target_dot_last _ path))
kept (target_grows w) (stood f b (target_dot_last d path)) = simp append_assoc (stood f b (target_last (longer _ _ _ d _ _ path w)))
kept (target_sets {p = p}) (stood f b (target_last path)) = simp append_assoc (stood f b (in_fresh (sets p path)))
kept (cut_begins w) (stood f b (cut_last is)) = simp append_assoc (stood f b (cut_path_last is (variable _ _ w)))
kept cut_dots (stood f b (cut_path_last is path)) = simp append_assoc (stood f b (cut_dot_last _ is path))
kept (cut_grows w) (stood f b (cut_dot_last d is path)) = simp append_assoc (stood f b (cut_path_last is (longer _ _ _ d _ _ path w)))
kept (cut_ends {p = q}) (stood f b (cut_path_last is path)) = simp append_assoc (ended f b (cuts _ q _ _ _ _ _ is path))
kept (goes_on x) (stood f b (in_expression u i)) = simp append_assoc (stood f b (in_expression u (kept_within x i)))
kept (expression_ends {p = q} h gives_assign) (stood f b (in_expression (a_variable p path) i)) = simp append_assoc (ended f b (assigns p q _ _ _ _ path (within_derives h i)))
kept (expression_ends h gives_assign) (stood f b (in_expression (a_head w x) i)) = elim x [ ]
kept (expression_ends {p = q} h gives_write) (stood f b (in_expression (a_longer p path) i)) = simp append_assoc (ended f b (writes p q _ _ _ _ _ _ path (within_derives h i)))
kept (expression_ends h gives_write) (stood f b (in_expression (a_head w x) i)) = elim x [ ]
kept (expression_ends {p = q} h gives_say) (stood f b (in_expression (a_head w heads_say) i)) = simp append_assoc (ended f b (says _ q _ _ _ w (within_derives h i)))
kept (condition_ends {p = q} h begins_then) (stood f b (in_expression (a_head w heads_if) i)) = simp append_assoc (block_begun f b (opens_then q w (within_derives h i)))
kept (condition_ends {p = q} h begins_while) (stood f b (in_expression (a_head w heads_while) i)) = simp append_assoc (block_begun f b (opens_while q w (within_derives h i)))

-- so does a run
kept_on : {ts ws : List Placed} {s to : State} → Goes s ts to → Stood s ws → Stood to (ws ++ ts)
kept_on stays i = simp append-nil i
kept_on (goes m run) i = simp append_assoc at (kept_on run (kept m i))

-- where a text can end, the grammar derives it
derived : {s : State} {b : Block} {ws : List Placed} → Ends s b → Stood s ws → IsBlock ws b
derived ends (stood no_frame b nothing) = simp append-nil b
derived ends_if (stood no_frame b (chose c)) = followed_derives b (ended_if c)

-- what is accepted the grammar derives
pub sound : {ts : List Placed} {b : Block} → Accepts start ts b → IsBlock ts b
sound a = derived a.end (kept_on a.run (stood no_frame no_more nothing))
