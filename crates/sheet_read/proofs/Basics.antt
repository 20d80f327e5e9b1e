-- Choices by a test.
use Rattle.std.proofs.Common.{◌≡◌, Bool, true, false, cond, ◌&&◌, refl}

pub cond_then : {X : Type 0} (b : Bool) (x y : X) → b ≡ true → cond b x y ≡ x
cond_then true x y e = refl
cond_then false x y e = absurd cc

pub cond_else : {X : Type 0} (b : Bool) (x y : X) → b ≡ false → cond b x y ≡ y
cond_else true x y e = absurd cc
cond_else false x y e = refl

pub and_both : (a b : Bool) → (a && b) ≡ true → (a ≡ true) × (b ≡ true)
and_both true b e = (refl, e)
and_both false b e = absurd cc
