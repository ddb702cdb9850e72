-- The contract that bounds the number of names.
use Rattle.std.specs.Prelude.{ℕ, ◌+◌, false, ◌&&◌, length, Some, None, Option, nat_le}
use Rattle.lexer.specs.Names.{all_lawful}
use Rattle.contract.specs.Terms.{Terms}
use Rattle.contract.specs.declared.depth.Depth.{Depth}

-- after n names: paths of at most `read` names in all are readable, and of 1 to `write` names in all writable; nothing is
-- permitted beyond both bounds, or after bytes that are no name
abbrev pub depth_terms : Depth → Option ℕ → Terms
depth_terms d (Some n) = record {
  reads = λ q. all_lawful q && nat_le (n + length q) d.read;
  writes = λ q. all_lawful q && (nat_le 1 (n + length q) && nat_le (n + length q) d.write);
}
depth_terms d None = record { reads = λ q. false; writes = λ q. false }
