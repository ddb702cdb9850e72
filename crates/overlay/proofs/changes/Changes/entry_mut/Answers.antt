use Rattle.std.proofs.Common.{◌≡◌, ◌≤◌, length, set, refl, ap₂, rules}
use native.Mathlib.Bridge.{le_prop}
use native.Mathlib.Nat.{ℕ_set}
use Rattle.std.proofs.lemmas.List.{get_or_default}
use Rattle.store.specs.declared.cell.Cell.{Cell}
use Rattle.overlay.specs.declared.changes.Changes.{Changes}
use Rattle.overlay.proofs.changes.Changes.entry_mut.Goals as goal

pub returns : goal.returns
returns g c =
    let t = c.args.self.now in
    let make : (w : Cell) → t.used ≤ 64 → length (set t.entries c.args.i w) ≡ 64 → Changes g.row.S.Denot =
    λ w p q. record { below = t.below; entries = set t.entries c.args.i w; used = t.used; within = p; full = q } in ((refl, λ w. ap₂ (make w) (le_prop _ _) (ℕ_set _ _ _ _)), search (rules, get_or_default))
