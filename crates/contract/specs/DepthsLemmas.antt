-- The contract by the number of names keeps the laws.
use Rattle.std.specs.Prelude.{ℕ, ◌+◌, ◌≤◌, ◌&&◌, ◌++◌, length, Some, None, Option, nat_le}
use Rattle.std.proofs.Common.{arith, length-append}
use Rattle.std.proofs.lemmas.Bool.{and_parts, and_from, le-leb, leb-true, false≢true}
use Rattle.lexer.specs.Names.{all_lawful}
use Rattle.contract.specs.Terms.{Orderly}
use Rattle.contract.specs.Depths.{depth_terms}
use Rattle.contract.specs.declared.depth.Depth.{Depth}
use Rattle.contract.specs.Quotients.{lawful_front}

pub depth_orderly : (d : Depth) (r : Option ℕ) → Orderly (depth_terms d r)
depth_orderly d (Some n) = record {
  beginnings = λ p q h.
      let parts = and_parts (all_lawful (p ++ q)) (nat_le (n + length (p ++ q)) d.read) h in
      let within : n + length (p ++ q) ≤ d.read = leb-true (n + length (p ++ q)) d.read parts.1 in
      and_from (all_lawful p) (nat_le (n + length p) d.read) (lawful_front p q parts.0) (le-leb (n + length p) d.read (omega (arith, length-append p q)));
  readable_lawful = λ p h. (and_parts (all_lawful p) (nat_le (n + length p) d.read) h).0;
  writable_lawful = λ p h. (and_parts (all_lawful p) (nat_le 1 (n + length p) && nat_le (n + length p) d.write) h).0;
}
depth_orderly d None = record {
  beginnings = λ p q h. h;
  readable_lawful = λ p h. absurd (false≢true h);
  writable_lawful = λ p h. absurd (false≢true h);
}
