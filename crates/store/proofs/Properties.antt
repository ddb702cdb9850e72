-- When two properties are one.
use Rattle.std.proofs.Common.{◌≡◌, ℕ, true, eqb}
use Rattle.std.proofs.lemmas.Slice.Eq.{bytes_eq-Decides}
use Rattle.std.proofs.lemmas.Bool.{and_from, and_parts, eq-eqb, eqb-true}
use Rattle.std.specs.Str.{bytes_eq}
use Rattle.lexer.specs.Names.{Name}
use Rattle.store.specs.Records.{same}

module _ (o p : ℕ) (n q : Name) where
  pub same_from : o ≡ p → n ≡ q → same o n p q ≡ true
  same_from e f = and_from (eqb o p) (bytes_eq n q) (eq-eqb o p e) ((bytes_eq-Decides n q).1 f)

  pub same_object : same o n p q ≡ true → o ≡ p
  same_object t = eqb-true o p (and_parts (eqb o p) (bytes_eq n q) t).0

  pub same_name : same o n p q ≡ true → n ≡ q
  same_name t = (bytes_eq-Decides n q).0 (and_parts (eqb o p) (bytes_eq n q) t).1
