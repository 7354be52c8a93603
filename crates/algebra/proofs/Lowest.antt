-- Every triple has lowest parts, and triples in lowest parts that mean the same number are the same. Assumes nothing.
use Rattle.std.proofs.Common.{◌≡◌, ℕ, zero, suc, ◌*◌, ◌/◌, ◌<◌, ℤ, pos, ◌*ℤ◌, nat_abs, sym, refl, ap, ◌∙◌, subst, ap₂, arith}
use Prim.Native.Nat.{◌∣◌}
use native.Mathlib.Nat as NatL
use Rattle.algebra.specs.Gcd.{gcd₃}
use Rattle.algebra.specs.Rational.{ℚ, over, part}
use Rattle.algebra.specs.Exact.{exact}
use Rattle.algebra.specs.Laws.{Plain, LowestParts, LowestPartsUnique, LowestPartsExist}
use Rattle.algebra.proofs.RingSolver.{◌:*◌, lit, ◌≋◌, solve₁, solve₃}
use Rattle.algebra.proofs.Integers.{ℤ_ring, abs_mul}
use Rattle.algebra.proofs.Gcd.{gcd₃_is, gcd₃_scale, gcd₃_parts}
use Rattle.algebra.proofs.Rational.{abs_part, part_is, cancel_right, agree, over_is, dens, den_pos}
use Rattle.algebra.proofs.ExactRing.{parts_equal, flat_zero}
use Rattle.algebra.proofs.Triples.{same_number, exact_same, re_exact, im_exact}

-- m divides m' where p/m and q/m in lowest parts are p'/m' and q'/m'
divides : (p q p' q' : ℤ) (m m' : ℕ) → 0 < m' → gcd₃ (nat_abs p) (nat_abs q) m ≡ 1 → p *ℤ pos m' ≡ p' *ℤ pos m → q *ℤ pos m' ≡ q' *ℤ pos m → m ∣ m'
divides p q p' q' m m' h e f g =
    subst (λ n. m ∣ n) (ap (λ n. m' * n) e ∙ NatL.mul-one m') (gcd₃_scale m' (nat_abs p) (nat_abs q) m m h (side p p' f) (side q q' g) (NatL.dvd-mul_left m m'))
  where
    side : (x x' : ℤ) → x *ℤ pos m' ≡ x' *ℤ pos m → m ∣ m' * nat_abs x
    side x x' e = subst (λ n. m ∣ n) (sym (abs_mul x' (pos m)) ∙ ap nat_abs (sym e) ∙ abs_mul x (pos m') ∙ NatL.mul_comm (nat_abs x) m') (NatL.dvd-mul_left m (nat_abs x'))

pub lowest_parts_unique : LowestPartsUnique
lowest_parts_unique D p q m p' q' m' l l' e =
    let c = (same_number D p q m p' q' m' l.above l'.above l.plain l'.plain).0 e in
    let same : m ≡ m' = NatL.dvd_antisymm (divides p q p' q' m m' l'.above l.coprime c.0 c.1) (divides p' q' p q m' m l.above l'.coprime (sym c.0) (sym c.1)) in
    (cancel_right m' p p' l'.above (c.0 ∙ ap (λ n. p' *ℤ pos n) same), cancel_right m' q q' l'.above (c.1 ∙ ap (λ n. q' *ℤ pos n) same), same)

-- ---- divided by the greatest common divisor
module _ (D : ℕ) (p q : ℤ) (m : ℕ) (h : 0 < m) where
  abbrev pub divisor : ℕ
  divisor = gcd₃ (nat_abs p) (nat_abs q) m

  times_part : (x : ℤ) → divisor ∣ nat_abs x → divisor * (nat_abs x / divisor) ≡ nat_abs x
  times_part x d = NatL.mul-div_cancel' divisor d

  whole_part : divisor * (m / divisor) ≡ m
  whole_part = NatL.mul-div_cancel' divisor (gcd₃_is (nat_abs p) (nat_abs q) m).third

  pub part_above : 0 < m / divisor
  part_above = go (m / divisor) whole_part
    where
      go : (n : ℕ) → divisor * n ≡ m → 0 < n
      go zero e = let z : m ≡ 0 = sym e ∙ NatL.mul-zero divisor in omega arith
      go (suc n) e = omega arith

  pub parts_lowest : Plain D q → LowestParts D (part p divisor) (part q divisor) (m / divisor)
  parts_lowest f = record {
    above = part_above;
    plain = λ e. ap (λ z. part z divisor) (f e) ∙ ap pos (NatL.zero-div divisor);
    coprime = ap₂ (λ a b. gcd₃ a b (m / divisor)) (abs_part p divisor) (abs_part q divisor) ∙ gcd₃_parts (nat_abs p) (nat_abs q) m h;
  }

  pub parts_same : exact D (part p divisor) (part q divisor) (m / divisor) ≡ exact D p q m
  parts_same =
      exact_same D (part p divisor) (part q divisor) p q (m / divisor) m part_above h
      (part_is p divisor m (times_part p (gcd₃_is (nat_abs p) (nat_abs q) m).first) whole_part)
      (part_is q divisor m (times_part q (gcd₃_is (nat_abs p) (nat_abs q) m).second) whole_part)

-- ---- every number has lowest parts
pub lowest_parts_exist : LowestPartsExist
lowest_parts_exist D x =
    (part p (divisor D p q m h), part q (divisor D p q m h), m / divisor D p q m h, parts_lowest D p q m h plain, parts_same D p q m h ∙ triple)
  where
    a : ℚ
    a = x.re

    b : ℚ
    b = x.im

    p : ℤ
    p = a.num *ℤ pos b.den

    q : ℤ
    q = b.num *ℤ pos a.den

    m : ℕ
    m = a.den * b.den

    h : 0 < m
    h = dens a b

    plain : Plain D q
    plain e = ap (λ (z : ℚ). z.num *ℤ pos a.den) (flat_zero x e) ∙ solve₁ ℤ_ring (λ d. lit 0 :* d ≋ lit 0) tt (pos a.den)

    re_same : over p m ≡ a
    re_same = agree (over p m) a p a.num m a.den h (den_pos a) (over_is p m h) refl (solve₃ ℤ_ring (λ n d e. n :* e :* d ≋ n :* (d :* e)) tt a.num (pos a.den) (pos b.den))

    im_same : over q m ≡ b
    im_same = agree (over q m) b q b.num m b.den h (den_pos b) (over_is q m h) refl (solve₃ ℤ_ring (λ n d e. n :* d :* e ≋ n :* (d :* e)) tt b.num (pos a.den) (pos b.den))

    triple : exact D p q m ≡ x
    triple = parts_equal (exact D p q m) x (re_exact D p q m ∙ re_same) (im_exact D p q m h plain ∙ im_same)
