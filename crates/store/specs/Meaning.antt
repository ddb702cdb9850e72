-- What a store means, and what its calls answer and leave.
use Rattle.std.specs.Prelude.{◌≡◌, ℕ, ◌-◌, ◌≤◌, Bool, true, cond, ◌&&◌, is_ok, Ok, Err, Result, nat_lt}
use Rattle.lexer.specs.Names.{Name, lawful}
use Rattle.lexer.specs.declared.refusal.Reason.{Reason}
use Rattle.lexer.specs.declared.refusal.Reason.TheVariants.{Object, Name as unlawful, Full}
use Rattle.store.specs.Records.{same}
use Rattle.store.specs.declared.value.Value.{Value}
use Rattle.store.specs.declared.value.Value.TheVariants.{Nothing, Number, Reference}

-- the value of each property, by its object and its name
abbrev pub Graph : Type 0
Graph = ℕ → Name → Value

pub record Meaning : Type 0 where
  pub objects : ℕ
  pub graph : Graph
  pub left : ℕ

-- whether a value, if it is a reference, is one to an object below n
abbrev pub inside : ℕ → Value → Bool
inside n Nothing = true
inside n (Number i) = true
inside n (Reference o) = nat_lt o n

-- there are 1 to 1,024 objects, and each reference is to one of them
pub record Lawful (m : Meaning) : Type 0 where
  pub some : 1 ≤ m.objects
  pub few : m.objects ≤ 1024
  pub closed : (o : ℕ) (n : Name) → inside m.objects (m.graph o n) ≡ true

-- the tests of a get among k objects: Object, then Name
abbrev pub get_test : ℕ → ℕ → Name → Result (Unit {0}) Reason
get_test k o n = cond (nat_lt o k) (cond (lawful n) (Ok tt) (Err unlawful)) (Err Object)

-- the tests of a put among k objects with l writes left: Object, then Name, then Full
abbrev pub put_test : ℕ → ℕ → ℕ → Name → Value → Result (Unit {0}) Reason
put_test k l o n v = cond (nat_lt o k && inside k v) (cond (lawful n) (cond (nat_lt 0 l) (Ok tt) (Err Full)) (Err unlawful)) (Err Object)

-- a value, where the tests have passed
abbrev pub if_passed : Result (Unit {0}) Reason → Value → Result Value Reason
if_passed (Ok passed) v = Ok v
if_passed (Err why) v = Err why

abbrev pub get_answer : Meaning → ℕ → Name → Result Value Reason
get_answer m o n = if_passed (get_test m.objects o n) (m.graph o n)

abbrev pub put_answer : Meaning → ℕ → Name → Value → Result (Unit {0}) Reason
put_answer m o n v = put_test m.objects m.left o n v

-- a graph with one property set
abbrev pub changed : Graph → ℕ → Name → Value → Graph
changed g o n v = λ p q. cond (same o n p q) v (g p q)

-- one property is set, and one write is taken
abbrev pub set_in : Meaning → ℕ → Name → Value → Meaning
set_in m o n v = record { objects = m.objects; graph = changed m.graph o n v; left = m.left - 1 }

-- what a store means after a put: a refused one leaves it as it was
abbrev pub put_after : Meaning → ℕ → Name → Value → Meaning
put_after m o n v = cond (is_ok (put_answer m o n v)) (set_in m o n v) m
