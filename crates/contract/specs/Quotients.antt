-- Terms that permit the same paths are the same; beginnings of lawful paths are lawful; what both permit is orderly.
use Rattle.std.specs.Prelude.{◌≡◌, Bool, true, false, [], ◌∷◌, ◌++◌, ◌≢◌, refl}
use Rattle.std.proofs.lemmas.Bool.{both_ways, and_parts, and_from}
use Rattle.lexer.specs.Names.{Name, Path, lawful, all_lawful}
use Rattle.contract.specs.Terms.{Terms, Orderly, after, meet, nothing}

pub same_terms : (s t : Terms) → ((q : Path) → s.reads q ≡ t.reads q) → ((q : Path) → s.writes q ≡ t.writes q) → s ≡ t
same_terms s t r w = λ i. record { reads = λ q. r q i; writes = λ q. w q i }

pub lawful_front : (p q : Path) → all_lawful (p ++ q) ≡ true → all_lawful p ≡ true
lawful_front [] q h = refl
lawful_front (n ∷ p) q h =
    let parts = and_parts (lawful n) (all_lawful (p ++ q)) h in
    and_from (lawful n) (all_lawful p) parts.0 (lawful_front p q parts.1)

-- what both permit is orderly where each is
pub meet_orderly : (s t : Terms) → Orderly s → Orderly t → Orderly (meet s t)
meet_orderly s t os ot = record {
  beginnings = λ p q h.
      let parts = and_parts (s.reads (p ++ q)) (t.reads (p ++ q)) h in
      and_from (s.reads p) (t.reads p) (os.beginnings p q parts.0) (ot.beginnings p q parts.1);
  readable_lawful = λ p h. os.readable_lawful p (and_parts (s.reads p) (t.reads p) h).0;
  writable_lawful = λ p h. os.writable_lawful p (and_parts (s.writes p) (t.writes p) h).0;
}

-- bytes that are no name step to where nothing is permitted
pub after_unlawful : (t : Terms) → Orderly t → (p : Name) → lawful p ≡ false → after p t ≡ nothing
after_unlawful t o p h =
    same_terms (after p t) nothing (λ q. none (t.reads (p ∷ q)) (λ e. parts q (o.readable_lawful (p ∷ q) e))) (λ q. none (t.writes (p ∷ q)) (λ e. parts q (o.writable_lawful (p ∷ q) e)))
  where
    none : (b : Bool) → (b ≢ true) → b ≡ false
    none true h = absurd (h refl)
    none false h = refl

    parts : (q : Path) → all_lawful (p ∷ q) ≢ true
    parts q e = both_ways (lawful p) h (and_parts (lawful p) (all_lawful q) e).0
