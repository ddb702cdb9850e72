-- What a run reads, the grammar derives: what a state tells of the tokens before it, kept by each move.
use Rattle.std.proofs.Common.{List, [], ◌∷◌, ◌++◌, Some, None, Option, append_assoc, append-nil}
use Rattle.lexer.specs.Tokens.{Lexeme, sign}
use Rattle.expression.specs.Expressions.{Expr, star}
use Rattle.expression.specs.Reading.{Level, blank, Here, opened, wanting, holding, starred, State, state, start, joined, united, whole, after_dot, after_bar}
use Rattle.expression.specs.Derivations.{alternatives, sequences, items, bases, Derives, a_name, any_name, nothing, bracket, once, repeated, one_item, more_items, one_sequence, more_sequences}
use Rattle.expression.proofs.Moves.{Wants, at_opening, at_gap, Holds, held, starry, Move, name_comes, any_comes, bracket_opens, nothing_closes, bracket_closes, star_comes, dot_comes, bar_comes, Ends, ends, Goes, goes, stays}
use Rattle.expression.proofs.Complete.{Accepts}

-- the tokens of the alternatives before the last `|`, with it
data Barred : Option Expr → List Lexeme → Type 0 where
  no_bar : Barred None []
  bar : {ts : List Lexeme} {e : Expr} → Derives alternatives ts e → Barred (Some e) (ts ++ (sign 124 ∷ []))

-- the tokens of the sequence before the last `.`, with it
data Dotted : Option Expr → List Lexeme → Type 0 where
  no_dot : Dotted None []
  dot : {ts : List Lexeme} {e : Expr} → Derives sequences ts e → Dotted (Some e) (ts ++ (sign 46 ∷ []))

-- the tokens before the last item of a level
data Leads : Level → List Lexeme → Type 0 where
  leads : {a i : Option Expr} {p q : List Lexeme} → Barred a p → Dotted i q → Leads (record { alternatives = a; items = i }) (p ++ q)

-- the tokens inside a bracket, up to here
data Stands : Here → Level → List Lexeme → Type 0 where
  opening : Stands opened blank []
  gap : {l : Level} {p : List Lexeme} → Leads l p → Stands wanting l p
  base : {l : Level} {p us : List Lexeme} {e : Expr} → Leads l p → Derives bases us e → Stands (holding e) l (p ++ us)
  item : {l : Level} {p us : List Lexeme} {e : Expr} → Leads l p → Derives items us e → Stands (starred e) l (p ++ us)

-- the tokens up to the innermost open bracket, with it
data Around : List Level → List Lexeme → Type 0 where
  top : Around [] []
  inside : {l : Level} {o : List Level} {b p : List Lexeme} → Around o b → Leads l p → Around (l ∷ o) (b ++ (p ++ (sign 40 ∷ [])))

-- the tokens before a state
data Stood : State → List Lexeme → Type 0 where
  stood : {o : List Level} {l : Level} {h : Here} {b p : List Lexeme} → Around o b → Stands h l p → Stood (state o l h) (b ++ p)

-- one more item makes a longer sequence
joined_derives : {i : Option Expr} {q us : List Lexeme} {x : Expr} → Dotted i q → Derives items us x → Derives sequences (q ++ us) (joined i x)
joined_derives no_dot d = one_item _ _ d
joined_derives (dot c) d = simp append_assoc (more_items _ _ _ _ c d)

-- one more sequence makes more alternatives
united_derives : {a : Option Expr} {p us : List Lexeme} {x : Expr} → Barred a p → Derives sequences us x → Derives alternatives (p ++ us) (united a x)
united_derives no_bar d = one_sequence _ _ d
united_derives (bar c) d = simp append_assoc (more_sequences _ _ _ _ c d)

-- the last item completes a level
whole_derives : {l : Level} {p us : List Lexeme} {x : Expr} → Leads l p → Derives items us x → Derives alternatives (p ++ us) (whole l x)
whole_derives (leads b c) d = simp append_assoc (united_derives b (joined_derives c d))

-- where an operand can come, an item is missing
wants_leads : {h : Here} {l : Level} {p : List Lexeme} → Wants h → Stands h l p → Leads l p
wants_leads at_opening opening = leads no_bar no_dot
wants_leads at_gap (gap d) = d

-- where an operand stands last, an item does
holds_item : {h : Here} {e : Expr} {l : Level} {p : List Lexeme} → Holds h e → Stands h l p → Stands (starred e) l p
holds_item held (base b d) = item b (once _ _ d)
holds_item starry (item b d) = item b d

-- after `*`, `.` and `|`, and at the end of a level
item_star : {e : Expr} {l : Level} {p : List Lexeme} → Stands (holding e) l p → Stands (starred (star e)) l (p ++ (sign 42 ∷ []))
item_star (base b d) = simp append_assoc (item b (repeated _ _ d))

item_dot : {e : Expr} {l : Level} {p : List Lexeme} → Stands (starred e) l p → Leads (after_dot l e) (p ++ (sign 46 ∷ []))
item_dot (item (leads b c) d) = simp append_assoc (simp append_assoc at (leads b (dot (joined_derives c d))))

item_whole : {e : Expr} {l : Level} {p : List Lexeme} → Stands (starred e) l p → Derives alternatives p (whole l e)
item_whole (item b d) = whole_derives b d

item_bar : {e : Expr} {l : Level} {p : List Lexeme} → Stands (starred e) l p → Leads (after_bar l e) (p ++ (sign 124 ∷ []))
item_bar i = simp append-nil at (leads (bar (item_whole i)) no_dot)

-- each move keeps what a state tells
kept : {t : Lexeme} {s to : State} {ws : List Lexeme} → Move t s to → Stood s ws → Stood to (ws ++ (t ∷ []))
kept (name_comes w) (stood a i) = simp append_assoc (stood a (base (wants_leads w i) (a_name _)))
kept (any_comes w) (stood a i) = simp append_assoc (stood a (base (wants_leads w i) any_name))
kept (bracket_opens w) (stood a i) = simp append_assoc (simp (append_assoc, append-nil) at (stood (inside a (wants_leads w i)) opening))
kept nothing_closes (stood (inside a b) opening) = simp append_assoc (stood a (base b nothing))
kept (bracket_closes h) (stood (inside a b) i) = simp append_assoc (stood a (base b (bracket _ _ (item_whole (holds_item h i)))))
kept star_comes (stood a i) = simp append_assoc (stood a (item_star i))
kept (dot_comes h) (stood a i) = simp append_assoc (stood a (gap (item_dot (holds_item h i))))
kept (bar_comes h) (stood a i) = simp append_assoc (stood a (gap (item_bar (holds_item h i))))

-- so does a run
kept_on : {ts : List Lexeme} {s to : State} {ws : List Lexeme} → Goes s ts to → Stood s ws → Stood to (ws ++ ts)
kept_on stays i = simp append-nil i
kept_on (goes m run) i = simp append_assoc at (kept_on run (kept m i))

-- where a text can end, the grammar derives it
derived : {s : State} {e : Expr} {ws : List Lexeme} → Ends s e → Stood s ws → Derives alternatives ws e
derived (ends h) (stood top i) = item_whole (holds_item h i)

-- what is accepted the grammar derives
pub sound : {ts : List Lexeme} {e : Expr} → Accepts start ts e → Derives alternatives ts e
sound a = derived a.end (kept_on a.run (stood top (gap (leads no_bar no_dot))))
