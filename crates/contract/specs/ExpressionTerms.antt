-- What a contract by two path expressions permits.
use Rattle.std.specs.Prelude.{◌≡◌, ℕ, Bool, true, false, ◌↔◌, [], ◌∷◌, ◌++◌, Some, None, Ok, Err, Option, Result}
use Rattle.automaton.specs.Residues.{reads_left, writes_left}
use Rattle.automaton.specs.declared.positions.Positions.{Positions}
use Rattle.expression.specs.Expressions.{Expr}
use Rattle.expression.specs.Languages.{In, begins, accepts}
use Rattle.expression.specs.Reading.{Reading, trees, refusal}
use Rattle.expression.specs.Texts.{text_number}
use Rattle.expression.specs.declared.texts.TextRefusal.{TextRefusal}
use Rattle.lexer.specs.Names.{Path}
use Rattle.lexer.specs.declared.refusal.Reason.{Reason}
use Rattle.contract.specs.Terms.{Terms}
use Rattle.contract.specs.declared.expressions.Expression.{Expression}

-- at a residue: the paths that it leaves
abbrev pub expression_terms : Expression → Positions → Terms
expression_terms c r = record { reads = reads_left c.automaton r.mask; writes = writes_left c.automaton r.mask }

-- from the start
abbrev pub start_terms : Expression → Terms
start_terms c = expression_terms c c.start

-- the beginnings of the read text's paths are readable, and the write text's paths writable
abbrev pub by_trees : Expr → Expr → Terms
by_trees e d = record { reads = begins e; writes = accepts d }

abbrev pub is_empty : Path → Bool
is_empty [] = true
is_empty (p ∷ q) = false

-- the empty path alone, for reading
abbrev pub only_empty : Terms
only_empty = record { reads = is_empty; writes = λ q. false }

-- after a reading: what its trees permit, or what was permitted before it was refused
abbrev pub renewed : Terms → Reading → Terms
renewed t (trees e d) = by_trees e d
renewed t (refusal reason text place) = t

-- the refusal that a reading is, and that an answer tells
pub record Told : Type 0 where
  pub reason : Reason
  pub text : ℕ
  pub place : ℕ

abbrev pub refusal_in : Reading → Option Told
refusal_in (trees e d) = None
refusal_in (refusal reason text place) = Some (record { reason = reason; text = text; place = place })

abbrev pub refusal_told : Result (Unit {0}) TextRefusal → Option Told
refusal_told (Ok _) = None
refusal_told (Err x) = Some (record { reason = x.reason; text = text_number x.text; place = x.place })

-- what two trees permit, by union, joining and repetition: a path is readable exactly if it begins a path of the read
-- tree's language, and writable exactly if it is in the write tree's
pub record ByLanguages (e d : Expr) (p : Path) : Type 0 where
  pub reads : ((by_trees e d).reads p ≡ true) ↔ ((v : Path) × In e (p ++ v))
  pub writes : ((by_trees e d).writes p ≡ true) ↔ In d p

abbrev pub TreesPermitTheirLanguages : Type 0
TreesPermitTheirLanguages = (e d : Expr) (p : Path) → ByLanguages e d p
