-- What the answer of a push tells of the room that there was.
use Rattle.std.proofs.Common.{◌≡◌, Bool, true, false, cond, Ok, Err, Result, refl, sym, ap, ◌∙◌}
use Rattle.std.specs.Prelude.{is_ok, is_err}

module _ {X : Type 0} where
  -- an answer that hangs on a test alone
  pub passes : (b : Bool) (x : X) → is_ok (cond {A = Result (Unit {0}) X} b (Ok tt) (Err x)) ≡ b
  passes true x = refl
  passes false x = refl

  module _ (r : Result (Unit {0}) X) (b : Bool) (x : X) (is : r ≡ cond b (Ok tt) (Err x)) where
    pub full : is_err r ≡ true → b ≡ false
    full h = go b (ap is_err (sym is) ∙ h)
      where
        go : (a : Bool) → is_err (cond {A = Result (Unit {0}) X} a (Ok tt) (Err x)) ≡ true → a ≡ false
        go true k = sym k
        go false k = refl

    pub room : is_err r ≡ false → b ≡ true
    room h = go b (ap is_err (sym is) ∙ h)
      where
        go : (a : Bool) → is_err (cond {A = Result (Unit {0}) X} a (Ok tt) (Err x)) ≡ false → a ≡ true
        go true k = refl
        go false k = sym k
