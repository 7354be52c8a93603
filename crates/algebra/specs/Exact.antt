-- The exact numbers (p + q√D)/m, held as a + b√D with fractions a and b in lowest terms, so that `≡` says that two are the same number.
-- Where D is 0, √D is 0 and b is 0. Everything computes, so that a closed example is `refl`. Assumes nothing.
--
--   NoSquare D            D is no square
--   Radicand D            D may stand under the root: it is 0, or no square
--   Exact D               the numbers a + b√D
--   exact D p q m         (p + q√D)/m, for m > 0
--   whole_e D w           the whole number w
--   zero_e D, one_e D     0 and 1
--   add_e, neg_e, mul_e   sum, opposite, product
--   inv_e x               1/x, and 0 at 0
--   PosE x                x is positive
use Rattle.std.specs.Prelude.{◌≡◌, ℕ, zero, suc, ◌*◌, Bool, true, ◌&&◌, ◌||◌, T, ◌≢◌, ◌⊎◌, ℤ, pos, ◌==◌, unsigned_abs}
use Rattle.algebra.specs.Rational.{ℚ, 0ℚ, 1ℚ, over, whole, addℚ, negq, mulℚ, invℚ, positive}

abbrev pub NoSquare : ℕ → Type 0
NoSquare D = (r : ℕ) → r * r ≢ D

abbrev pub Radicand : ℕ → Type 0
Radicand D = (D ≡ 0) ⊎ NoSquare D

-- no root part where D is 0
abbrev pub fits : ℕ → ℚ → Bool
fits zero b = unsigned_abs b.num == 0
fits (suc n) b = true

pub record Exact (D : ℕ) : Type 0 where
  pub re : ℚ
  pub im : ℚ
  pub flat : T (fits D im)

abbrev pub root_part : ℕ → ℚ → ℚ
root_part zero b = 0ℚ
root_part (suc n) b = b

abbrev pub root_part_fits : (D : ℕ) (b : ℚ) → T (fits D (root_part D b))
root_part_fits zero b = tt
root_part_fits (suc n) b = tt

-- a + b√D
abbrev pub made : (D : ℕ) → ℚ → ℚ → Exact D
made D a b = record { re = a; im = root_part D b; flat = root_part_fits D b }

unfoldable pub exact : (D : ℕ) → ℤ → ℤ → ℕ → Exact D
exact D p q m = made D (over p m) (over q m)

abbrev pub zero_e : (D : ℕ) → Exact D
zero_e D = made D 0ℚ 0ℚ

abbrev pub one_e : (D : ℕ) → Exact D
one_e D = made D 1ℚ 0ℚ

unfoldable pub whole_e : (D : ℕ) → ℤ → Exact D
whole_e D w = exact D w (pos 0) 1

abbrev pub above : ℚ → Bool
above a = positive a.num

abbrev pub null : ℚ → Bool
null a = unsigned_abs a.num == 0

module _ {D : ℕ} where
  unfoldable pub add_e : Exact D → Exact D → Exact D
  add_e x y = made D (addℚ x.re y.re) (addℚ x.im y.im)

  unfoldable pub neg_e : Exact D → Exact D
  neg_e x = made D (negq x.re) (negq x.im)

  unfoldable pub mul_e : Exact D → Exact D → Exact D
  mul_e x y = made D (addℚ (mulℚ x.re y.re) (mulℚ (whole D) (mulℚ x.im y.im))) (addℚ (mulℚ x.re y.im) (mulℚ x.im y.re))

  -- the norm a² − D·b²
  unfoldable pub norm_e : Exact D → ℚ
  norm_e x = addℚ (mulℚ x.re x.re) (negq (mulℚ (whole D) (mulℚ x.im x.im)))

  -- (a − b√D)/(a² − D·b²)
  unfoldable pub inv_e : Exact D → Exact D
  inv_e x = let n = invℚ (norm_e x) in made D (mulℚ x.re n) (mulℚ (negq x.im) n)

  -- neither part is negative, and not both are 0; or the positive part is the greater in size
  unfoldable pub positive_e : Exact D → Bool
  positive_e x =
      (above x.re || null x.re) && (above x.im || null x.im) && (above x.re || above x.im)
      || above x.re && above (negq x.im) && above (norm_e x)
      || above (negq x.re) && above x.im && above (negq (norm_e x))

  unfoldable pub PosE : Exact D → Type 0
  PosE x = T (positive_e x)
