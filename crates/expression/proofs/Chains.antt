-- Parts of the grammar that read another part again and again, with a sign between: what a turn of their loop keeps, and
-- what each way out gives.
use Rattle.std.proofs.Common.{◌≡◌, ℕ, ◌+◌, ◌≤◌, true, false, List, [], ◌∷◌, ◌++◌, length, Some, None, Ok, Err, sym, refl, ap, ◌∙◌, subst, Result, append_assoc, append-nil, arith, length-append}
use Rattle.lexer.specs.Readers.{text_of, place_of, language_of, tokens_from, next_of, Accepted}
use Rattle.lexer.specs.Tokens.{Lexeme, sign, is_the_sign}
use Rattle.lexer.specs.declared.reader.Reader.{Reader}
use Rattle.lexer.specs.declared.refusal.Refusal.{Refusal}
use Rattle.lexer.proofs.Moves.{moved_tokens, moved_next}
use Rattle.std.proofs.lemmas.Bool.{and_from, not_from_false, not-true}
use Rattle.expression.specs.Expressions.{Letter, Expr, alternative, sequence, star}
use Rattle.expression.specs.Parsing.{Part, base_part, item_part, sequence_part, alternative_part, Made, Parsed, wanting_at}
use Rattle.expression.specs.Reading.{Level, wanting, holding, starred, state, advance, passes, weight, read}
use Rattle.expression.specs.Tables.{postfix, leaves}
use Rattle.expression.specs.declared.operation.Operation.{Operation}
use Rattle.expression.specs.declared.operation.Operation.TheVariants.{Alternative, Sequence, Star}
use Rattle.expression.proofs.Advances.{settled, joins_up, unites}
use Rattle.expression.proofs.Operands.{sign_passed}

-- a part that reads `sub` again and again, with a sign between
pub record Chain {P Q : Type 0} (part : Part P) (sub : Part Q) (between : ℕ) (operation : Operation) : Type 0 where
  pub make : Expr → Expr → Expr
  pub first : P → Q
  pub more : P → Expr → Q
  pub first_level : (p : P) → sub.level (first p) ≡ part.level p
  pub sub_after : (e : Expr) → sub.after e ≡ starred e
  pub part_after : (e : Expr) → part.after e ≡ starred e
  pub advances : (p : P) (outer : List Level) (d : Expr) → advance (sign between) (state outer (part.level p) (starred d)) ≡ Some (state outer (sub.level (more p d)) wanting)
  pub free : (depth n : ℕ) → passes (sign between) depth n ≡ None
  pub weightless : weight (sign between) ≡ 0
  pub regroups : (r : Reader) (n : ℕ) (outer : List Level) (p : P) (d e : Expr) → sub.ends (next_of r) ≡ true → read n (state outer (sub.level (more p d)) (starred e)) (tokens_from r) ≡ read n (state outer (part.level p) (starred (make d e))) (tokens_from r)
  pub made_postfix : (d e : Expr) → postfix (make d e) ≡ postfix d ++ (postfix e ++ (operation ∷ []))
  pub made_leaves : (d e : Expr) → leaves (make d e) ≡ leaves d ++ leaves e
  pub ending : (t : Lexeme) → sub.ends t ≡ true → is_the_sign between t ≡ false → part.ends t ≡ true

-- a loop began at r, and is at s: a tree that stood at r has grown
pub record Going {P Q : Type 0} {part : Part P} {sub : Part Q} {between : ℕ} {operation : Operation} (c : Chain part sub between operation) (depth : ℕ) (r s : Reader) (o u : List Operation) (l m : List Letter) : Type 0 where
  pub text : text_of s ≡ text_of r
  pub language : language_of s ≡ language_of r
  pub on : place_of r ≤ place_of s
  pub room : length u + place_of r ≤ length o + place_of s
  pub ended : sub.ends (next_of r) ≡ true → sub.ends (next_of s) ≡ true
  pub grow : Expr → Expr
  pub new_operations : List Operation
  pub new_letters : List Letter
  pub operations : u ≡ o ++ new_operations
  pub letters : m ≡ l ++ new_letters
  pub grown_operations : (d : Expr) → postfix (grow d) ≡ postfix d ++ new_operations
  pub grown_letters : (d : Expr) → leaves (grow d) ≡ leaves d ++ new_letters
  pub goes : (p : P) (outer : List Level) (d : Expr) → length outer ≡ depth → read (length l) (state outer (part.level p) (starred d)) (tokens_from r) ≡ read (length m) (state outer (part.level p) (starred (grow d))) (tokens_from s)

pub set_out : {P Q : Type 0} {part : Part P} {sub : Part Q} {between : ℕ} {operation : Operation} (c : Chain part sub between operation) (depth : ℕ) (r : Reader) (o : List Operation) (l : List Letter) → Going c depth r r o o l l
set_out c depth r o l = record {
  text = refl;
  language = refl;
  on = omega arith;
  room = omega arith;
  ended = λ h. h;
  grow = λ d. d;
  new_operations = [];
  new_letters = [];
  operations = sym (append-nil _);
  letters = sym (append-nil _);
  grown_operations = λ d. sym (append-nil _);
  grown_letters = λ d. sym (append-nil _);
  goes = λ p outer d _. refl;
}

-- joining at the end, twice
twice : {A : Type 0} {b y : List A} (a x z : List A) → b ≡ a ++ x → y ≡ b ++ z → y ≡ a ++ (x ++ z)
twice a x z e f = f ∙ ap (λ w. w ++ z) e ∙ append_assoc a x z

module _ {P Q : Type 0} {part : Part P} {sub : Part Q} {between : ℕ} {operation : Operation} (c : Chain part sub between operation) where
  -- the sign comes, and the part after it is read on
  turn : {s s1 : Reader} (n : ℕ) (p : P) (outer : List Level) (d : Expr) → Accepted between s s1 true → read n (state outer (part.level p) (starred d)) (tokens_from s) ≡ read n (state outer (sub.level (c.more p d)) wanting) (tokens_from s1)
  turn n p outer d a = sign_passed between n _ _ a.0 (c.advances p outer d) (c.free (length outer) n) c.weightless a.1

  pub again : {depth : ℕ} {r s s1 s2 : Reader} {o u u2 u3 : List Operation} {l m m2 : List Letter} → Going c depth r s o u l m → Accepted between s s1 true → Parsed sub depth s1 s2 u u2 m m2 (Ok tt) → u3 ≡ u2 ++ (operation ∷ []) → Going c depth r s2 o u3 l m2
  again {depth} {r} {s} {s1} {s2} {o} {u} {u2} {u3} {l} {m} {m2} go a said pushed =
      let made : Made sub depth s1 s2 u u2 m m2 = said.said in
      let ahead = a.2 in
      let further = made.on in
      let space = made.room in
      let grown : length u3 ≡ length u2 + 1 = ap length pushed ∙ length-append u2 (operation ∷ []) in
      let new = postfix made.tree ++ (operation ∷ []) in
      record {
        text = said.text ∙ a.1.text ∙ go.text;
        language = said.language ∙ a.1.language ∙ go.language;
        on = omega arith;
        room = omega arith;
        ended = λ _. made.ended;
        grow = λ d. c.make (go.grow d) made.tree;
        new_operations = go.new_operations ++ new;
        new_letters = go.new_letters ++ leaves made.tree;
        operations = twice o go.new_operations new go.operations (twice u (postfix made.tree) (operation ∷ []) made.operations pushed);
        letters = twice l go.new_letters (leaves made.tree) go.letters made.letters;
        grown_operations = λ d. twice (postfix d) go.new_operations new (go.grown_operations d) (c.made_postfix (go.grow d) made.tree);
        grown_letters = λ d. twice (leaves d) go.new_letters (leaves made.tree) (go.grown_letters d) (c.made_leaves (go.grow d) made.tree);
        goes = λ p outer d many.
            go.goes p outer d many ∙ turn (length m) p outer (go.grow d) a ∙ made.goes (c.more p (go.grow d)) outer many
            ∙ ap (λ h. read (length m2) (state outer (sub.level (c.more p (go.grow d))) h) (tokens_from s2)) (c.sub_after made.tree)
            ∙ c.regroups s2 (length m2) outer p (go.grow d) made.tree made.ended;
      }

  module _ {depth : ℕ} {r0 r s : Reader} {o0 o u : List Operation} {l0 l m : List Letter} (begun : Parsed sub depth r0 r o0 o l0 l (Ok tt)) (go : Going c depth r s o u l m) where
    made0 : Made sub depth r0 r o0 o l0 l
    made0 = begun.said

    -- up to where the loop is
    comes : (p : P) (outer : List Level) → length outer ≡ depth → wanting_at (part.level p) outer (length l0) r0 ≡ read (length m) (state outer (part.level p) (starred (go.grow made0.tree))) (tokens_from s)
    comes p outer many =
        sym (ap (λ v. wanting_at v outer (length l0) r0) (c.first_level p)) ∙ made0.goes (c.first p) outer many
        ∙ (λ i. read (length l) (state outer (c.first_level p i) (c.sub_after made0.tree i)) (tokens_from r))
        ∙ go.goes p outer made0.tree many

    pub breaks : {s1 s2 : Reader} {u2 : List Operation} {m2 : List Letter} {x : Refusal} → Accepted between s s1 true → Parsed sub depth s1 s2 u u2 m m2 (Err x) → Parsed part depth r0 s2 o0 u2 l0 m2 (Err x)
    breaks a said = record {
      text = said.text ∙ a.1.text ∙ go.text ∙ begun.text;
      language = said.language ∙ a.1.language ∙ go.language ∙ begun.language;
      said = λ p outer many. comes p outer many ∙ turn (length m) p outer _ a ∙ said.said (c.more p _) outer many;
    }

    pub finishes : {s1 : Reader} → Accepted between s s1 false → Parsed part depth r0 s1 o0 u l0 m (Ok tt)
    finishes a =
        let further = made0.on in
        let space = made0.room in
        let longer = go.on in
        let wider = go.room in
        let still = a.1.place in
        record {
          text = a.1.text ∙ go.text ∙ begun.text;
          language = a.1.language ∙ go.language ∙ begun.language;
          said = record {
            tree = go.grow made0.tree;
            on = omega arith;
            room = omega arith;
            operations = twice o0 (postfix made0.tree) go.new_operations made0.operations go.operations ∙ ap (λ w. o0 ++ w) (sym (go.grown_operations made0.tree));
            letters = twice l0 (leaves made0.tree) go.new_letters made0.letters go.letters ∙ ap (λ w. l0 ++ w) (sym (go.grown_letters made0.tree));
            ended = ap part.ends (moved_next a.1) ∙ c.ending (next_of s) (go.ended made0.ended) a.0;
            goes = λ p outer many.
                comes p outer many
                ∙ (λ i. read (length m) (state outer (part.level p) (sym (c.part_after (go.grow made0.tree)) i)) (sym (moved_tokens a.1) i));
          };
        }

-- items with `.` between
pub items : Chain sequence_part item_part 46 Sequence
unfolding advance passes postfix leaves
items = record {
  make = sequence;
  first = λ a. record { alternatives = a; items = None };
  more = λ a d. record { alternatives = a; items = Some d };
  first_level = λ a. refl;
  sub_after = λ e. refl;
  part_after = λ e. refl;
  advances = λ a outer d. refl;
  free = λ depth n. refl;
  weightless = refl;
  regroups = λ r n outer a d e _. joins_up r n outer a d e;
  made_postfix = λ d e. refl;
  made_leaves = λ d e. refl;
  ending = λ t _ h. not_from_false _ h;
}

-- sequences with `|` between
pub sequences : Chain alternative_part sequence_part 124 Alternative
unfolding advance passes postfix leaves
sequences = record {
  make = alternative;
  first = λ _. None;
  more = λ _ d. Some d;
  first_level = λ _. refl;
  sub_after = λ e. refl;
  part_after = λ e. refl;
  advances = λ _ outer d. refl;
  free = λ depth n. refl;
  weightless = refl;
  regroups = λ r n outer _ d e h. unites r n outer d e (not-true _ h);
  made_postfix = λ d e. refl;
  made_leaves = λ d e. refl;
  ending = λ t e h. and_from _ _ e (not_from_false _ h);
}

-- an item is a base, and maybe a `*`
module _ {depth : ℕ} {r s : Reader} {o u : List Operation} {l m : List Letter} where
  pub item_starred : {s1 : Reader} {u2 : List Operation} → Parsed base_part depth r s o u l m (Ok tt) → Accepted 42 s s1 true → u2 ≡ u ++ (Star ∷ []) → Parsed item_part depth r s1 o u2 l m (Ok tt)
  unfolding advance passes postfix leaves
  item_starred {u2 = u2} a b pushed =
      let made : Made base_part depth r s o u l m = a.said in
      let grown : length u2 ≡ length u + 1 = ap length pushed ∙ length-append u (Star ∷ []) in
      let ahead = b.2 in
      let further = made.on in
      let space = made.room in
      record {
        text = b.1.text ∙ a.text;
        language = b.1.language ∙ a.language;
        said = record {
          tree = star made.tree;
          on = omega arith;
          room = omega arith;
          operations = twice o (postfix made.tree) (Star ∷ []) made.operations pushed;
          letters = made.letters;
          ended = refl;
          goes = λ level outer many.
              made.goes level outer many
              ∙ sign_passed 42 (length m) (state outer level (holding made.tree)) (state outer level (starred (star made.tree))) b.0 refl refl refl b.1;
        };
      }

  pub item_plain : {s1 : Reader} → Parsed base_part depth r s o u l m (Ok tt) → Accepted 42 s s1 false → Parsed item_part depth r s1 o u l m (Ok tt)
  item_plain a b =
      let made : Made base_part depth r s o u l m = a.said in
      let further = made.on in
      let space = made.room in
      let still = b.1.place in
      record {
        text = b.1.text ∙ a.text;
        language = b.1.language ∙ a.language;
        said = record {
          tree = made.tree;
          on = omega arith;
          room = omega arith;
          operations = made.operations;
          letters = made.letters;
          ended = refl;
          goes = λ level outer many.
              made.goes level outer many ∙ settled s (length m) outer level made.tree b.0
              ∙ ap (read (length m) (state outer level (starred made.tree))) (sym (moved_tokens b.1));
        };
      }

-- what is said at some depth holds at the same depth, told otherwise
pub at_depth : {P : Type 0} {part : Part P} {d e : ℕ} {r s : Reader} {o u : List Operation} {l m : List Letter} {x : Result (Unit {0}) Refusal} → d ≡ e → Parsed part d r s o u l m x → Parsed part e r s o u l m x
at_depth {part = part} {r = r} {s} {o} {u} {l} {m} {x} e p = subst (λ k. Parsed part k r s o u l m x) e p
