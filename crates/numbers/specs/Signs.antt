-- Signs of whole numbers. Assumes nothing.
use Rattle.std.specs.Prelude.{◌≡◌, suc, ℤ, pos, negsuc, ◌*ℤ◌, unsigned_abs}
use Rattle.std.proofs.Common.{◌∙◌, ap}
use Rattle.std.proofs.Math.Nat as NatL
use Rattle.algebra.proofs.Integers.{abs_mul}
use Rattle.numbers.specs.Steps.{sign}

pub sign_abs : (x : ℤ) → sign x *ℤ x ≡ pos (unsigned_abs x)
sign_abs (pos n) = ap pos (NatL.one-mul n)
sign_abs (negsuc n) = ap pos (NatL.one-mul (suc n))

pub abs_turned : (x y : ℤ) → unsigned_abs (sign y *ℤ x) ≡ unsigned_abs x
abs_turned x (pos n) = abs_mul (pos 1) x ∙ NatL.one-mul (unsigned_abs x)
abs_turned x (negsuc n) = abs_mul (negsuc 0) x ∙ NatL.one-mul (unsigned_abs x)
