-- What the machine's operations on signed words give where nothing is lost. Assumes nothing.
use Rattle.std.specs.Prelude.{◌≡◌, ℕ, suc, ◌/◌, ◌^◌, ◌<◌, ◌≤◌, ℤ, pos, negsuc, neg_ℤ, FitsSigned, int_div, unsigned_abs, refl}
use Rattle.std.proofs.Common.{sym, ◌∙◌, ap, ap₂, subst, arith, to_z, of_z}
use Rattle.std.proofs.Math.Nat as NatL
use Rattle.std.specs.Int.{w64}
use Rattle.std.proofs.lemmas.Int.{ints, to_z-of_z, to_z_pos}
use Rattle.algebra.specs.Rational.{part}

-- a number that fits comes through a word unchanged
pub word : (x : ℤ) → FitsSigned w64 x → to_z w64 (of_z w64 x) ≡ x
word x f = to_z-of_z w64 x f

pub fits : (z : ℤ) → unsigned_abs z < 2 ^ 63 → FitsSigned w64 z
fits z h = omega (arith, ints)

-- a word divided by a number above 0
part_fits : (x : ℤ) (g : ℕ) → FitsSigned w64 x → FitsSigned w64 (int_div x (pos g))
part_fits (pos n) g f = let h : n / g ≤ n = NatL.div-le_self n g in omega (arith, ints)
part_fits (negsuc n) g f = let h : suc n / g ≤ suc n = NatL.div-le_self (suc n) g in go (suc n / g) h
  where
    go : (k : ℕ) → k ≤ suc n → FitsSigned w64 (neg_ℤ (pos k))
    go k h = omega (arith, ints)

part_is : (x : ℤ) (g : ℕ) → int_div x (pos g) ≡ part x g
part_is (pos n) g = refl
part_is (negsuc n) g = refl

module _ (x : ℤ) (r g : ℕ) (f : FitsSigned w64 x) (small : g < 2 ^ 63) (e : r ≡ g) where
  same : int_div (to_z w64 (of_z w64 x)) (to_z w64 r) ≡ int_div x (pos g)
  same = ap₂ int_div (to_z-of_z w64 x f) (ap (to_z w64) e ∙ to_z_pos w64 g small)

  part_fitted : FitsSigned w64 (int_div (to_z w64 (of_z w64 x)) (to_z w64 r))
  part_fitted = subst (FitsSigned w64) (sym same) (part_fits x g f)

  pub divides_well : 0 < g → (0 < r) × FitsSigned w64 (int_div (to_z w64 (of_z w64 x)) (to_z w64 r))
  divides_well h = (subst (λ (n : ℕ). 0 < n) (sym e) h, part_fitted)

  pub divides_to : to_z w64 (of_z w64 (int_div (to_z w64 (of_z w64 x)) (to_z w64 r))) ≡ part x g
  divides_to = to_z-of_z w64 (int_div (to_z w64 (of_z w64 x)) (to_z w64 r)) part_fitted ∙ same ∙ part_is x g
