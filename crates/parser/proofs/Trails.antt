-- What names after dots give, and a whole path.
use Rattle.std.proofs.Common.{◌≡◌, ℕ, ◌+◌, ◌≤◌, Bool, true, false, cond, List, [], ◌∷◌, ◌++◌, length, Some, Ok, Err, Result, sym, refl, ap, ◌∙◌, subst, inl, inr, append_assoc, append-nil, arith}
use Rattle.std.proofs.lemmas.List.{length_push}
use Rattle.bounded.specs.Filled.{filled, places_of}
use Rattle.lexer.specs.Names.{Name}
use Rattle.lexer.specs.Readers.{text_of, place_of, language_of, tokens_from, next_place, Moved, Accepted}
use Rattle.lexer.specs.declared.reader.Reader.{Reader}
use Rattle.lexer.specs.declared.refusal.Refusal.{Refusal}
use Rattle.script.specs.Reading.{step_at, among, with_variable, read, refused}
use Rattle.script.specs.Trees.{Step}
use Rattle.parser.specs.Code.{steps_code, Stands, AllStand}
use Rattle.parser.specs.Numbering.{variables_of, index_of}
use Rattle.parser.specs.Parsing.{nodes_of, names_of, Kept, OnlyWrites, NamePassed, NoName, Trail, StepsMade, StepsRead, Approach, VariablePassed, NoVariable, PathRead}
use Rattle.parser.specs.declared.parser.Parser.{Parser}
use Rattle.parser.specs.declared.node.Node.TheVariants as node
use Rattle.parser.proofs.Advances.{sign_passed, name_read, name_many, refuses}
use Rattle.parser.proofs.Numbers.{few_variables}

-- ---- what a parser keeps

pub kept_on : {p q w : Parser} → Kept p q → Kept q w → Kept p w
kept_on k l = record { text = l.text ∙ k.text; language = l.language ∙ k.language; size = l.size ∙ k.size; lent = l.lent ∙ k.lent }

kept_written : {p q : Parser} → OnlyWrites p q → Kept p q
kept_written w = record { text = ap text_of w.reader; language = ap language_of w.reader; size = w.size; lent = w.lent }

kept_moved : {p q : Parser} {at : ℕ} → q.out ≡ p.out → Moved p.reader q.reader at → Kept p q
kept_moved same m =
    record { text = m.text; language = m.language; size = ap (λ b. length (places_of b)) same; lent = ap (λ b. b.places.ghost_name) same }

moved_on : {r s t : Reader} {at to : ℕ} → Moved r s at → Moved s t to → Moved r t to
moved_on m n = record { text = n.text ∙ m.text; place = n.place; language = n.language ∙ m.language }

-- joining at the end, twice
pub twice : {A : Type 0} {b y : List A} (a x z : List A) → b ≡ a ++ x → y ≡ b ++ z → y ≡ a ++ (x ++ z)
twice a x z e f = f ∙ ap (λ w. w ++ z) e ∙ append_assoc a x z

-- the nodes of steps, and one more
code_more : (ss : List Step) (n : Name) (at : ℕ) → steps_code (ss ++ (step_at n at ∷ [])) ≡ steps_code ss ++ (node.Step (record { place = at; length = length n }) ∷ [])
unfolding steps_code
code_more [] n at = refl
code_more (s ∷ ss) n at = ap (λ x. node.Step (record { place = s.place; length = length s.name }) ∷ x) (code_more ss n at)

stand_more : (text : List ℕ) (ss : List Step) (s : Step) → AllStand text ss → Stands text s → AllStand text (ss ++ (s ∷ []))
stand_more text [] s all one = (one, tt)
stand_more text (t ∷ ss) s all one = (all.0, stand_more text ss s all.1 one)

-- ---- the loop over names after dots

pub record Stepping (p q : Parser) (many : ℕ) : Type 0 where
  pub kept : Kept p q
  pub variables : q.variables ≡ p.variables
  pub steps : List Step
  pub count : many ≡ length steps
  pub on : many + place_of p.reader ≤ place_of q.reader
  pub room : length (nodes_of q) + place_of p.reader ≤ length (nodes_of p) + place_of q.reader
  pub nodes : nodes_of q ≡ nodes_of p ++ steps_code steps
  pub stand : AllStand (text_of p.reader) steps
  pub goes : (vs : List Name) → length vs ≤ 16 → (t : Trail) (ss : List Step) → read vs (t.named ss) (tokens_from p.reader) ≡ read vs (t.named (ss ++ steps)) (tokens_from q.reader)

-- a dot comes, after which the reader is r
module _ {p q : Parser} {r : Reader} {many : ℕ} (sofar : Stepping p q many) (a : Accepted 46 q.reader r true) where
  dots : (vs : List Name) → length vs ≤ 16 → (t : Trail) (ss : List Step) → read vs (t.named ss) (tokens_from p.reader) ≡ read vs (t.dotted (ss ++ sofar.steps)) (tokens_from r)
  dots vs few t ss = sofar.goes vs few t ss ∙ sign_passed 46 vs _ _ a.0 (t.dot _ _) refl few a.1

  pub stepping_on : {q2 w : Parser} (n : Name) (at : ℕ) → NamePassed r q2.reader n → at ≡ next_place r → q2.out ≡ q.out → q2.variables ≡ q.variables → nodes_of w ≡ nodes_of q2 ++ (node.Step (record { place = at; length = length n }) ∷ []) → OnlyWrites q2 w → Stepping p w (many + 1)
  stepping_on {q2} {w} n at name here same variables written writes =
      let step : Step = step_at n (next_place r) in
      let pushed : nodes_of w ≡ nodes_of q ++ (node.Step (record { place = next_place r; length = length n }) ∷ []) = written ∙ (λ i. filled (same i) ++ (node.Step (record { place = here i; length = length n }) ∷ [])) in
      let stands : place_of w.reader ≡ place_of q2.reader = ap place_of writes.reader in
      let ahead = a.2 in
      let on = sofar.on in
      let further = name.on in
      let space = sofar.room in
      let more = ap length pushed ∙ length_push (nodes_of q) _ in
      record {
        kept = kept_on sofar.kept (kept_on (kept_moved same (moved_on a.1 name.moved)) (kept_written writes));
        variables = writes.variables ∙ variables ∙ sofar.variables;
        steps = sofar.steps ++ (step ∷ []);
        count = ap (λ k. k + 1) sofar.count ∙ sym (length_push sofar.steps step);
        on = omega arith;
        room = omega arith;
        nodes = twice (nodes_of p) (steps_code sofar.steps) _ sofar.nodes pushed ∙ ap (λ x. nodes_of p ++ x) (sym (code_more sofar.steps n (next_place r)));
        stand = stand_more (text_of p.reader) sofar.steps step sofar.stand (subst (λ x. Stands x step) (a.1.text ∙ sofar.kept.text) name.stands);
        goes = λ vs few t ss.
            dots vs few t ss ∙ name_read name vs (t.dotted (ss ++ sofar.steps)) _ true (t.after _) (t.step n _ _ name.word) few
            ∙ (λ i. read vs (t.named (append_assoc ss sofar.steps (step ∷ []) i)) (tokens_from (sym writes.reader i)));
      }

  pub stepping_breaks : {q2 : Parser} {x : Refusal} → NoName r x → Moved r q2.reader (place_of r) → q2.out ≡ q.out → q2.variables ≡ q.variables → StepsRead p q2 (Err x)
  stepping_breaks {x = x} none stays same variables = record {
    kept = kept_on sofar.kept (kept_moved same (moved_on a.1 stays));
    variables = variables ∙ sofar.variables;
    said = λ vs few t ss.
        dots vs few t ss ∙ refuses r vs (t.dotted (ss ++ sofar.steps)) (t.stuck _ _ _ none.is) (t.unfinished _)
        ∙ (λ i. refused (sym none.reason i) (sym none.place i));
  }

-- ---- a whole path

-- the variables after a name are those before, and maybe the name
pub extends : (vs : List Name) (n : Name) → with_variable vs false (Some n) ≡ vs ++ cond (among vs n) [] (n ∷ [])
extends vs n = go (among vs n)
  where
    go : (b : Bool) → cond b vs (vs ++ (n ∷ [])) ≡ vs ++ cond b [] (n ∷ [])
    go true = sym (append-nil vs)
    go false = refl

pub path_breaks : {p q : Parser} {x : Refusal} → NoVariable p q x → q.out ≡ p.out → PathRead p q (Err x)
path_breaks {p} {q} {x} (inl none) same = record {
  kept = kept_moved same none.1;
  said = λ k fit.
      refuses p.reader (names_of p) k.start (k.stuck _ _ fit none.0.is) k.unfinished
      ∙ (λ i. refused (sym none.0.reason i) (sym none.0.place i));
}
path_breaks {p} {q} {x} (inr over) same = record {
  kept = kept_moved same over.passed.moved;
  said = λ k fit.
      name_many over.passed (names_of p) k.start _ false k.after (k.first _ _ over.passed.word) over.many
      ∙ (λ i. refused (sym over.reason i) (sym over.place i));
}

module _ {p q q1 : Parser} {i : ℕ} (v : VariablePassed p q i) (same : q.out ≡ p.out) (written : nodes_of q1 ≡ nodes_of q ++ (node.Variable i ∷ [])) (writes : OnlyWrites q q1) where
  begins : (k : Approach) → read (names_of p) k.start (tokens_from p.reader) ≡ read (names_of q1) ((k.trail v.variable).named []) (tokens_from q1.reader)
  begins k =
      name_read v.passed (names_of p) k.start _ false k.after (k.first _ _ v.passed.word) (omega (arith, few_variables q.variables, ap length v.variables))
      ∙ ap (λ ws. read ws ((k.trail v.variable).named []) (tokens_from q.reader)) (sym v.variables)
      ∙ (λ j. read (variables_of (sym writes.variables j)) ((k.trail v.variable).named []) (tokens_from (sym writes.reader j)))

  so_far : Kept p q1
  so_far = kept_on (kept_moved same v.passed.moved) (kept_written writes)

  pub path_goes : {w : Parser} (x : Result ℕ Refusal) → StepsRead q1 w x → PathRead p w x
  path_goes {w} (Ok k) s =
      let made : StepsMade (names_of q1) q1 w k = s.said (names_of q1) (few_variables q1.variables) in
      let names : names_of w ≡ names_of q = ap variables_of (s.variables ∙ writes.variables) in
      let pushed : nodes_of q1 ≡ nodes_of p ++ (node.Variable i ∷ []) = written ∙ ap (λ b. filled b ++ (node.Variable i ∷ [])) same in
      let ahead = v.passed.on in
      let stands : place_of q1.reader ≡ place_of q.reader = ap place_of writes.reader in
      let further = made.on in
      let space = made.room in
      let one = ap length pushed ∙ length_push (nodes_of p) _ in
      record {
        kept = kept_on so_far s.kept;
        said = record {
          variable = v.variable;
          steps = made.steps;
          many = made.many;
          on = omega arith;
          room = omega arith;
          new = cond (among (names_of p) v.variable) [] (v.variable ∷ []);
          variables = names ∙ v.variables ∙ extends (names_of p) v.variable;
          nodes = twice (nodes_of p) (node.Variable i ∷ []) (steps_code made.steps) pushed made.nodes ∙ (λ j. nodes_of p ++ (node.Variable ((v.number ∙ ap (λ vs. index_of vs v.variable) (sym names)) j) ∷ steps_code made.steps));
          sound = (ap (λ vs. among vs v.variable) names ∙ v.known, subst (λ text. AllStand text made.steps) so_far.text made.stand);
          ended = made.ended;
          goes = λ k fit. begins k ∙ made.goes (k.trail v.variable) [] ∙ ap (λ vs. read vs ((k.trail v.variable).named made.steps) (tokens_from w.reader)) (sym (ap variables_of s.variables));
        };
      }
  path_goes {w} (Err x) s = record {
    kept = kept_on so_far s.kept;
    said = λ k fit. begins k ∙ s.said (names_of q1) (few_variables q1.variables) (k.trail v.variable) [];
  }
