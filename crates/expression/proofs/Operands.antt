-- What a base of the grammar gives: a letter, or a bracket.
use Rattle.std.proofs.Common.{◌≡◌, ℕ, suc, ◌+◌, ◌<◌, ◌≤◌, Bool, true, false, cond, eqb, leb, List, [], ◌∷◌, ◌++◌, length, Some, None, Ok, Err, sym, refl, ap, ◌∙◌, subst, append-nil, add-zero, add-one, arith, length-append}
use Rattle.lexer.specs.Readers.{text_of, place_of, language_of, tokens_from, next_of, next_place, past_next, Moved, Accepted}
use Rattle.lexer.specs.Tokens.{Lexeme, name, number, sign, equals, end, bad, lex, Tokens, token, then, lexed_of, lexeme_of, is_the_sign, reason_at}
use Rattle.lexer.specs.declared.token.Placed.{Placed}
use Rattle.lexer.specs.declared.token.Token.{Token}
use Rattle.lexer.specs.declared.token.Token.TheVariants.{Name, Number, Sign, Equals, End, Bad}
use Rattle.lexer.specs.declared.reader.Reader.{Reader}
use Rattle.lexer.specs.declared.refusal.Reason.TheVariants.{Deep, Many}
use Rattle.lexer.specs.declared.refusal.Refusal.{Refusal}
use Rattle.lexer.proofs.Moves.{moved_tokens, moved_next, moved_place, sign_is}
use Rattle.lexer.proofs.Rows.{Takes, found}
use Rattle.std.proofs.lemmas.Bool.{eqb-true, le-leb, lt-leb, ne_eqb, and_parts, not-true}
use Rattle.expression.specs.Expressions.{Letter, any, named, empty, letter}
use Rattle.expression.specs.Parsing.{letter_at, base_part, alternative_part, Made, Parsed}
use Rattle.expression.specs.Reading.{Level, blank, opened, wanting, holding, starred, State, state, advance, opens, passes, weight, read, refused}
use Rattle.expression.specs.Tables.{postfix, leaves}
use Rattle.expression.specs.declared.operation.Operation.{Operation}
use Rattle.expression.specs.declared.operation.Operation.TheVariants as operation
use Rattle.expression.proofs.Advances.{passed, limited, refuses, entered, stuck_starred, stuck_wanting, no_end_wanting}

-- a sign that counts nothing is passed
pub sign_passed : (b : ℕ) {r q : Reader} (n : ℕ) (s s2 : State) → is_the_sign b (next_of r) ≡ true → advance (sign b) s ≡ Some s2 → passes (sign b) (length s.outer) n ≡ None → weight (sign b) ≡ 0 → Moved r q (past_next r) → read n s (tokens_from r) ≡ read n s2 (tokens_from q)
sign_passed b {r} {q} n s s2 is a p w m =
    passed r n s (sign b) (sign_is b (next_of r) is) (λ _ _. refl) q s2 a p m ∙ ap (λ k. read k s2 (tokens_from q)) (ap (λ k. n + k) w ∙ add-zero n)

-- what is known of a token that is a letter
record Lettered (t : Lexeme) (x : Letter) : Type 0 where
  proper : (at : ℕ) (ts : Tokens) → then t at ts ≡ token t at ts
  advances : (outer : List Level) (l : Level) → advance t (state outer l wanting) ≡ Some (state outer l (holding (letter x)))
  weighs : weight t ≡ 1
  closed : opens t ≡ false
  takes : (at stop : ℕ) → Takes t at stop → at < stop

lettered : (t : Lexeme) (x : Letter) → letter_at t ≡ Some x → Lettered t x
unfolding advance
lettered (name s) x h =
    let same : named s ≡ x = cc in
    record { proper = λ _ _. refl; advances = λ outer l. ap (λ y. Some (state outer l (holding (letter y)))) same; weighs = refl; closed = refl; takes = λ at stop k. k }
lettered (number n) x h = let z : ◌≡◌ {A = ℕ} 0 1 = cc in absurd (omega arith)
lettered (sign b) x h = go (eqb b 63) refl h
  where
    go : (t : Bool) → eqb b 63 ≡ t → cond t (Some any) None ≡ Some x → Lettered (sign b) x
    go true e k =
        let same : any ≡ x = cc in
        let is : b ≡ 63 = eqb-true b 63 e in
        subst (λ c. Lettered (sign c) x) (sym is)
        (record { proper = λ _ _. refl; advances = λ outer l. ap (λ y. Some (state outer l (holding (letter y)))) same; weighs = refl; closed = refl; takes = λ at stop k. k })
    go false e k = let z : ◌≡◌ {A = ℕ} 0 1 = cc in absurd (omega arith)
lettered equals x h = let z : ◌≡◌ {A = ℕ} 0 1 = cc in absurd (omega arith)
lettered end x h = let z : ◌≡◌ {A = ℕ} 0 1 = cc in absurd (omega arith)
lettered bad x h = let z : ◌≡◌ {A = ℕ} 0 1 = cc in absurd (omega arith)

-- which limit a letter passes
passes_letter : (t : Lexeme) (x : Letter) → Lettered t x → (depth n : ℕ) → passes t depth n ≡ cond (leb 62 n) (Some Many) None
unfolding passes
passes_letter t x k depth n = rw (k.closed, k.weighs)

-- the next token of r is a letter, which q has passed
module _ {r q : Reader} {x : Letter} (is : letter_at (next_of r) ≡ Some x) (moved : Moved r q (past_next r)) where
  known : Lettered (next_of r) x
  known = lettered (next_of r) x is

  pub letter_read : {o u : List Operation} {l m : List Letter} (depth : ℕ) → length l < 62 → m ≡ l ++ (x ∷ []) → u ≡ o ++ (operation.Letter ∷ []) → Parsed base_part depth r q o u l m (Ok tt)
  unfolding postfix leaves
  letter_read {o} {u} {l} {m} depth few letters operations =
      let at = moved.place in
      let grown : length u ≡ length o + 1 = ap length operations ∙ length-append o (operation.Letter ∷ []) in
      let count : length m ≡ length l + 1 = ap length letters ∙ length-append l (x ∷ []) in
      let on : place_of r < past_next r = known.takes _ _ (found (language_of r) (text_of r) (place_of r) r.within).0 in
      record {
        text = moved.text;
        language = moved.language;
        said = record {
          tree = letter x;
          on = omega arith;
          room = omega arith;
          operations = operations;
          letters = letters;
          ended = refl;
          goes = λ level outer _.
              passed r (length l) (state outer level wanting) (next_of r) refl known.proper q (state outer level (holding (letter x))) (known.advances outer level)
              (passes_letter (next_of r) x known (length outer) (length l) ∙ ap (λ b. cond b (Some Many) None) (lt-leb 62 (length l) few)) moved
              ∙ ap (λ k. read k (state outer level (holding (letter x))) (tokens_from q)) (ap (λ k. length l + k) known.weighs ∙ sym count);
        };
      }

  pub letter_refused : {o u : List Operation} {l m : List Letter} {y : Refusal} (depth : ℕ) → 62 ≤ length l → y.reason ≡ Many → y.place ≡ next_place r → Parsed base_part depth r q o u l m (Err y)
  letter_refused {l = l} depth full reason place = record {
    text = moved.text;
    language = moved.language;
    said = λ level outer _.
        limited r (length l) (state outer level wanting) (next_of r) refl known.proper (state outer level (holding (letter x))) Many (known.advances outer level)
        (passes_letter (next_of r) x known (length outer) (length l) ∙ ap (λ b. cond b (Some Many) None) (le-leb 62 (length l) full))
        ∙ (λ i. refused (sym reason i) (sym place i));
  }

-- a token that begins no base
record Other (t : Lexeme) : Type 0 where
  no_name : (w : List ℕ) → t ≡ name w → ⊥
  no_any : is_the_sign 63 t ≡ false
  no_bracket : is_the_sign 40 t ≡ false

other_sign : (b : ℕ) → (b ≡ 63 → ⊥) → (b ≡ 40 → ⊥) → Other (sign b)
other_sign b h k = record { no_name = λ w e. let z : ◌≡◌ {A = ℕ} 0 1 = cc in omega arith; no_any = ne_eqb b 63 h; no_bracket = ne_eqb b 40 k }

other : (t : Token) → ((s : _) → t ≡ Name s → ⊥) → ((b : ℕ) → t ≡ Sign b → ⊥) → Other (lexeme_of t)
other (Name s) h k = absurd (h s refl)
other (Number s n) h k = record { no_name = λ w e. let z : ◌≡◌ {A = ℕ} 0 1 = cc in omega arith; no_any = refl; no_bracket = refl }
other (Sign b) h k = absurd (k b refl)
other Equals h k = record { no_name = λ w e. let z : ◌≡◌ {A = ℕ} 0 1 = cc in omega arith; no_any = refl; no_bracket = refl }
other End h k = record { no_name = λ w e. let z : ◌≡◌ {A = ℕ} 0 1 = cc in omega arith; no_any = refl; no_bracket = refl }
other Bad h k = record { no_name = λ w e. let z : ◌≡◌ {A = ℕ} 0 1 = cc in omega arith; no_any = refl; no_bracket = refl }

-- p is the next token of r
module _ {r : Reader} (p : Placed) (is : lexed_of p ≡ lex (language_of r) (text_of r) (place_of r)) {o : List Operation} {l : List Letter} {y : Refusal} (depth : ℕ) (reason : y.reason ≡ reason_at (lexeme_of p.token)) (place : y.place ≡ p.start) where
  refused_at : Other (lexeme_of p.token) → Parsed base_part depth r r o o l l (Err y)
  refused_at h =
      let k : Other (next_of r) = subst Other (ap (λ x. x.lexeme) is) h in
      record {
        text = refl;
        language = refl;
        said = λ level outer _.
            refuses r (length l) (state outer level wanting) (stuck_wanting (next_of r) outer level k.no_name k.no_any k.no_bracket) (no_end_wanting outer level)
            ∙ (λ i. refused ((ap (λ x. reason_at x.lexeme) (sym is) ∙ sym reason) i) ((ap (λ x. x.start) (sym is) ∙ sym place) i));
      }

  pub sign_refused : (b : ℕ) → p.token ≡ Sign b → (b ≡ 63 → ⊥) → (b ≡ 40 → ⊥) → Parsed base_part depth r r o o l l (Err y)
  sign_refused b e h k = refused_at (subst (λ t. Other (lexeme_of t)) (sym e) (other_sign b h k))

  pub other_refused : ((s : _) → p.token ≡ Name s → ⊥) → ((b : ℕ) → p.token ≡ Sign b → ⊥) → Parsed base_part depth r r o o l l (Err y)
  other_refused h k = refused_at (other p.token h k)

-- the next token of r is an opening bracket, which q has passed
module _ {r q : Reader} (is : next_of r ≡ sign 40) (moved : Moved r q (past_next r)) where
  on : place_of r < place_of q
  on =
      let at = moved.place in
      let taken : place_of r < past_next r = subst (λ t. Takes t (place_of r) (past_next r)) is (found (language_of r) (text_of r) (place_of r) r.within).0 in
      omega arith

  pub too_deep : {depth : ℕ} {o u : List Operation} {l m : List Letter} {y : Refusal} → 16 ≤ depth → y.reason ≡ Deep → y.place ≡ next_place r → Parsed base_part depth r q o u l m (Err y)
  unfolding advance passes
  too_deep {l = l} deep reason place = record {
    text = moved.text;
    language = moved.language;
    said = λ level outer many.
        limited r (length l) (state outer level wanting) (sign 40) is (λ _ _. refl) (state (level ∷ outer) blank opened) Deep refl
        (ap (λ b. cond b (Some Deep) None) (le-leb 16 (length outer) (omega arith)))
        ∙ (λ i. refused (sym reason i) (sym place i));
  }

  module _ {depth : ℕ} (shallow : depth < 16) where
    -- reading goes on inside
    inside : (n : ℕ) (level : Level) (outer : List Level) → length outer ≡ depth → read n (state outer level wanting) (tokens_from r) ≡ read n (state (level ∷ outer) blank opened) (tokens_from q)
    unfolding advance passes
    inside n level outer many =
        passed r n (state outer level wanting) (sign 40) is (λ _ _. refl) q (state (level ∷ outer) blank opened) refl
        (ap (λ b. cond b (Some Deep) None) (lt-leb 16 (length outer) (omega arith))) moved
        ∙ ap (λ k. read k (state (level ∷ outer) blank opened) (tokens_from q)) (add-zero n)

    pub nothing_read : {s : Reader} {o u : List Operation} {l : List Letter} → Accepted 41 q s true → u ≡ o ++ (operation.Empty ∷ []) → Parsed base_part depth r s o u l l (Ok tt)
    unfolding advance passes postfix leaves
    nothing_read {s} {o} {u} {l} a operations =
        let ahead = a.2 in
        let grown : length u ≡ length o + 1 = ap length operations ∙ length-append o (operation.Empty ∷ []) in
        record {
          text = a.1.text ∙ moved.text;
          language = a.1.language ∙ moved.language;
          said = record {
            tree = empty;
            on = omega (arith, on);
            room = omega (arith, on);
            operations = operations;
            letters = sym (append-nil l);
            ended = refl;
            goes = λ level outer many. inside (length l) level outer many ∙ sign_passed 41 (length l) (state (level ∷ outer) blank opened) (state outer level (holding empty)) a.0 refl refl refl a.1;
          };
        }

    module _ {q1 : Reader} (a : Accepted 41 q q1 false) where
      -- reading goes on with an alternative
      entering : (n : ℕ) (level : Level) (outer : List Level) → length outer ≡ depth → read n (state outer level wanting) (tokens_from r) ≡ read n (state (level ∷ outer) blank wanting) (tokens_from q1)
      entering n level outer many =
          inside n level outer many ∙ entered q n (level ∷ outer) a.0 ∙ ap (read n (state (level ∷ outer) blank wanting)) (sym (moved_tokens a.1))

      deeper : (level : Level) (outer : List Level) → length outer ≡ depth → length (level ∷ outer) ≡ depth + 1
      deeper level outer many = rw add-one (ap suc many)

      pub inner_refused : {s : Reader} {o u : List Operation} {l m : List Letter} {y : Refusal} → Parsed alternative_part (depth + 1) q1 s o u l m (Err y) → Parsed base_part depth r s o u l m (Err y)
      inner_refused {l = l} p = record {
        text = p.text ∙ a.1.text ∙ moved.text;
        language = p.language ∙ a.1.language ∙ moved.language;
        said = λ level outer many. entering (length l) level outer many ∙ p.said tt (level ∷ outer) (deeper level outer many);
      }

      module _ {s : Reader} {o u : List Operation} {l m : List Letter} (p : Parsed alternative_part (depth + 1) q1 s o u l m (Ok tt)) where
        made : Made alternative_part (depth + 1) q1 s o u l m
        made = p.said

        reaching : (level : Level) (outer : List Level) → length outer ≡ depth → read (length l) (state outer level wanting) (tokens_from r) ≡ read (length m) (state (level ∷ outer) blank (starred made.tree)) (tokens_from s)
        reaching level outer many = entering (length l) level outer many ∙ made.goes tt (level ∷ outer) (deeper level outer many)

        pub closed_read : {s1 : Reader} → Accepted 41 s s1 true → Parsed base_part depth r s1 o u l m (Ok tt)
        unfolding advance passes
        closed_read {s1} b =
            let ahead = b.2 in
            let further = made.on in
            let space = made.room in
            let still = a.1.place in
            record {
              text = b.1.text ∙ p.text ∙ a.1.text ∙ moved.text;
              language = b.1.language ∙ p.language ∙ a.1.language ∙ moved.language;
              said = record {
                tree = made.tree;
                on = omega (arith, on);
                room = omega (arith, on);
                operations = made.operations;
                letters = made.letters;
                ended = refl;
                goes = λ level outer many. reaching level outer many ∙ sign_passed 41 (length m) (state (level ∷ outer) blank (starred made.tree)) (state outer level (holding made.tree)) b.0 refl refl refl b.1;
              };
            }

        pub unclosed_refused : {s1 s2 : Reader} {y : Refusal} → Accepted 41 s s1 false → text_of s2 ≡ text_of s1 → language_of s2 ≡ language_of s1 → y.reason ≡ reason_at (next_of s1) → y.place ≡ next_place s1 → Parsed base_part depth r s2 o u l m (Err y)
        unclosed_refused {s1} {s2} {y} b text language reason place =
            let left = and_parts _ _ made.ended in
            record {
              text = text ∙ b.1.text ∙ p.text ∙ a.1.text ∙ moved.text;
              language = language ∙ b.1.language ∙ p.language ∙ a.1.language ∙ moved.language;
              said = λ level outer many.
                  reaching level outer many
                  ∙ refuses s (length m) (state (level ∷ outer) blank (starred made.tree))
                  (stuck_starred (next_of s) (level ∷ outer) blank made.tree b.0 (not-true _ left.0) (not-true _ left.1)) refl
                  ∙ (λ i. refused ((ap reason_at (sym (moved_next b.1)) ∙ sym reason) i) ((sym (moved_place b.1) ∙ sym place) i));
            }
