-- Fractions in lowest terms, so that `≡` says that two are the same number. Assumes nothing.
--
--   ℚ                        the fractions num/den
--   over p m                 p/m, for m > 0
--   whole n                  the natural number n
--   0ℚ, 1ℚ                   0 and 1
--   addℚ, negq, mulℚ, invℚ   sum, opposite, product, and 1/x (0 at 0)
--   Posℚ x                   x is positive
use Rattle.std.specs.Prelude.{ℕ, zero, suc, ◌*◌, ◌/◌, Bool, true, false, ◌&&◌, T, ℤ, pos, negsuc, ◌+ℤ◌, ◌*ℤ◌, neg_ℤ, ◌==◌, nat_lt, unsigned_abs}
use Rattle.algebra.specs.Gcd.{gcd}

abbrev pub lowest_terms : ℤ → ℕ → Bool
lowest_terms n d = nat_lt 0 d && gcd (unsigned_abs n) d == 1

pub record ℚ : Type 0 where
  pub num : ℤ
  pub den : ℕ
  pub lowest : T (lowest_terms num den)

abbrev pub 0ℚ : ℚ
0ℚ = record { num = pos 0; den = 1; lowest = tt }

abbrev pub 1ℚ : ℚ
1ℚ = record { num = pos 1; den = 1; lowest = tt }

-- n/d where that is in lowest terms, else 0
abbrev pub pack' : (n : ℤ) (d : ℕ) (b : Bool) → (T b → T (lowest_terms n d)) → ℚ
pack' n d true h = record { num = n; den = d; lowest = h tt }
pack' n d false h = 0ℚ

abbrev pub pack : ℤ → ℕ → ℚ
pack n d = pack' n d (lowest_terms n d) (λ t. t)

-- a whole number divided by one that goes into it
abbrev pub part : ℤ → ℕ → ℤ
part (pos n) g = pos (n / g)
part (negsuc n) g = neg_ℤ (pos (suc n / g))

-- p/m, for m > 0
unfoldable pub over : ℤ → ℕ → ℚ
over p m = let g = gcd (unsigned_abs p) m in pack (part p g) (m / g)

unfoldable pub addℚ : ℚ → ℚ → ℚ
addℚ x y = over (x.num *ℤ pos y.den +ℤ y.num *ℤ pos x.den) (x.den * y.den)

unfoldable pub negq : ℚ → ℚ
negq x = over (neg_ℤ x.num) x.den

unfoldable pub mulℚ : ℚ → ℚ → ℚ
mulℚ x y = over (x.num *ℤ y.num) (x.den * y.den)

abbrev pub flip : ℤ → ℕ → ℚ
flip (pos zero) d = 0ℚ
flip (pos (suc n)) d = over (pos d) (suc n)
flip (negsuc n) d = over (neg_ℤ (pos d)) (suc n)

-- 1/x, and 0 at 0
unfoldable pub invℚ : ℚ → ℚ
invℚ x = flip x.num x.den

abbrev pub positive : ℤ → Bool
positive (pos n) = nat_lt 0 n
positive (negsuc n) = false

abbrev pub Posℚ : ℚ → Type 0
Posℚ x = T (positive x.num)

-- a whole number as a fraction
unfoldable pub whole : ℕ → ℚ
whole n = over (pos n) 1
