-- Exact numbers are a commutative ring. Assumes nothing.
use Rattle.std.proofs.Common.{◌≡◌, ℕ, zero, suc, T, pos, nat_abs, sym, refl, ap, ◌∙◌, ap₂, arith, eqb→eq}
use mathlib.Core.HLevel.{is_prop→PathP}
use lib.Dec.{T_prop}
use Rattle.algebra.specs.Ring.{Ring}
use Rattle.algebra.specs.Rational.{ℚ, 0ℚ, 1ℚ, over, whole, addℚ, negq, mulℚ}
use Rattle.algebra.specs.Exact.{Exact, fits, root_part, exact, zero_e, one_e, whole_e, add_e, neg_e, mul_e}
use Rattle.algebra.proofs.RingSolver.{mul_nil, neg-zero}
use Rattle.algebra.proofs.Rational.{ℚ_ring, is_zero}
use Rattle.algebra.proofs.Integers.{abs_zero}
use Rattle.algebra.proofs.RingsMade.{pairs, within}

-- ---- the parts
pub parts_equal : {D : ℕ} (x y : Exact D) → x.re ≡ y.re → x.im ≡ y.im → x ≡ y
parts_equal {D} x y p q = λ i. record {
  re = p i;
  im = q i;
  flat = is_prop→PathP (λ i. T (fits D (q i))) (λ i. T_prop (fits D (q i))) x.flat y.flat i;
}

fits_zero : (D : ℕ) (b : ℚ) → T (fits D b) → D ≡ 0 → b ≡ 0ℚ
fits_zero zero b t e = is_zero b (abs_zero b.num (eqb→eq (nat_abs b.num) 0 t))
fits_zero (suc n) b t e = absurd (omega arith)

pub flat_zero : {D : ℕ} (x : Exact D) → D ≡ 0 → x.im ≡ 0ℚ
flat_zero {D} x e = fits_zero D x.im x.flat e

pub kept : (D : ℕ) (b : ℚ) → (D ≡ 0 → b ≡ 0ℚ) → root_part D b ≡ b
kept zero b h = sym (h refl)
kept (suc n) b h = refl

pub zero-mul : (a : ℚ) → mulℚ 0ℚ a ≡ 0ℚ
zero-mul a = ℚ_ring.mul_comm 0ℚ a ∙ mul_nil ℚ_ring a

im_zero : (D : ℕ) → root_part D 0ℚ ≡ 0ℚ
im_zero D = kept D 0ℚ (λ e. refl)

module _ {D : ℕ} (x y : Exact D) where
  pub im_add : root_part D (addℚ x.im y.im) ≡ addℚ x.im y.im
  im_add = kept D (addℚ x.im y.im) (λ e. ap₂ addℚ (flat_zero x e) (flat_zero y e) ∙ ℚ_ring.add-zero 0ℚ)

  pub im_mul : root_part D (addℚ (mulℚ x.re y.im) (mulℚ x.im y.re)) ≡ addℚ (mulℚ x.re y.im) (mulℚ x.im y.re)
  im_mul = kept D (addℚ (mulℚ x.re y.im) (mulℚ x.im y.re))
      (λ e. ap₂ addℚ (ap (mulℚ x.re) (flat_zero y e) ∙ mul_nil ℚ_ring x.re) (ap (λ b. mulℚ b y.re) (flat_zero x e) ∙ zero-mul y.re) ∙ ℚ_ring.add-zero 0ℚ)

pub im_neg : {D : ℕ} (x : Exact D) → root_part D (negq x.im) ≡ negq x.im
im_neg {D} x = kept D (negq x.im) (λ e. ap negq (flat_zero x e) ∙ neg-zero ℚ_ring)

-- the two parts, as a pair
abbrev pub both : {D : ℕ} → Exact D → ℚ × ℚ
both x = (x.re, x.im)

abbrev pub Pairs : ℕ → Ring
Pairs D = pairs ℚ_ring (whole D)

module _ (D : ℕ) where
  pub both_inj : (x y : Exact D) → both x ≡ both y → x ≡ y
  both_inj x y e = parts_equal x y (ap (λ (p : ℚ × ℚ). p.0) e) (ap (λ (p : ℚ × ℚ). p.1) e)

  pub both_zero : both (zero_e D) ≡ (0ℚ, 0ℚ)
  both_zero = λ i. (0ℚ, im_zero D i)

  pub both_one : both (one_e D) ≡ (1ℚ, 0ℚ)
  both_one = λ i. (1ℚ, im_zero D i)

  pub both_add : (x y : Exact D) → both (add_e x y) ≡ (Pairs D).add (both x) (both y)
  unfolding add_e
  both_add x y = λ i. (addℚ x.re y.re, im_add x y i)

  pub both_neg : (x : Exact D) → both (neg_e x) ≡ (Pairs D).neg (both x)
  unfolding neg_e
  both_neg x = λ i. (negq x.re, im_neg x i)

  pub both_mul : (x y : Exact D) → both (mul_e x y) ≡ (Pairs D).mul (both x) (both y)
  unfolding mul_e
  both_mul x y = λ i. (addℚ (mulℚ x.re y.re) (mulℚ (whole D) (mulℚ x.im y.im)), im_mul x y i)

  pub both_whole : (n : ℕ) → both (whole_e D (pos n)) ≡ (Pairs D).nat n
  unfolding whole_e exact over whole
  both_whole n = λ i. (whole n, im_zero D i)

  abbrev pub exact_ring : Ring
  exact_ring = within (Pairs D) (Exact D) (zero_e D) (one_e D) add_e neg_e mul_e (λ n. whole_e D (pos n)) both both_inj both_zero both_one both_add both_neg both_mul both_whole
