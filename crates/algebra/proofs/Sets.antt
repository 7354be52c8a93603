-- Whether two exact numbers are the same can be decided, so they are a set. Assumes nothing.
use Rattle.std.proofs.Common.{◌≡◌, ℕ, ap}
use mathlib.Core.HLevel.{Discrete, hedberg}
use native.Mathlib.Decide.{ℕ_discrete}
use lib.IntN.{ℤ_discrete}
use Rattle.algebra.specs.Rational.{ℚ}
use Rattle.algebra.specs.Exact.{Exact}
use Rattle.algebra.proofs.Rational as Q
use Rattle.algebra.proofs.ExactRing as E

pub ℚ_discrete : Discrete ℚ
ℚ_discrete x y = go (ℤ_discrete x.num y.num) (ℕ_discrete x.den y.den)
  where
    go : Dec (x.num ≡ y.num) → Dec (x.den ≡ y.den) → Dec (x ≡ y)
    go (yes p) (yes q) = yes (Q.parts_equal x y p q)
    go (yes p) (no f) = no (λ e. f (ap (λ (z : ℚ). z.den) e))
    go (no f) d = no (λ e. f (ap (λ (z : ℚ). z.num) e))

pub exact_discrete : {D : ℕ} → Discrete (Exact D)
exact_discrete {D} x y = go (ℚ_discrete x.re y.re) (ℚ_discrete x.im y.im)
  where
    go : Dec (x.re ≡ y.re) → Dec (x.im ≡ y.im) → Dec (x ≡ y)
    go (yes p) (yes q) = yes (E.parts_equal x y p q)
    go (yes p) (no f) = no (λ e. f (ap (λ (z : Exact D). z.im) e))
    go (no f) d = no (λ e. f (ap (λ (z : Exact D). z.re) e))

pub exact_set : {D : ℕ} → IsSet (Exact D)
exact_set = hedberg exact_discrete
