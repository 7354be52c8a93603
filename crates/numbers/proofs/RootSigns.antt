-- When a number with a root is positive, by the signs of its parts. Assumes nothing.
use Rattle.std.proofs.Common.{◌≡◌, ℕ, zero, suc, ◌*◌, Bool, true, false, T, ◌≢◌, ◌↔◌, ℤ, pos, negsuc, ◌+ℤ◌, ◌-ℤ◌, ◌*ℤ◌, nat_abs, ◌≤ℤ◌, ◌<ℤ◌, sym, refl, ap, ◌∙◌, subst, ap₂, inl, inr, arith, ltb→lt}
use lib.Signed.{lt_z}
use Rattle.std.proofs.lemmas.Int.{ints}
use Rattle.algebra.specs.Exact.{exact, PosE}
use Rattle.algebra.specs.Laws.{Plain, PositiveParts}
use Rattle.algebra.proofs.RingSolver.{◌:*◌, lit, ◌≋◌, solve₁}
use Rattle.algebra.proofs.Integers.{ℤ_ring}
use Rattle.algebra.proofs.Positive.{positive_of_parts}
use Rattle.numbers.specs.Answers.{Decides}
use Rattle.numbers.specs.Rows.{row_number}
use Rattle.numbers.specs.declared.Parts.{Parts}
use Rattle.numbers.specs.FractionSteps.{decides}
use Rattle.numbers.specs.RootSteps.{conjugate}

square : (q : ℤ) → q *ℤ q ≡ pos (nat_abs q * nat_abs q)
square (pos a) = refl
square (negsuc a) = refl

under_square : (D : ℕ) (q : ℤ) → pos 0 ≤ℤ (pos D *ℤ (q *ℤ q))
under_square D q = subst (λ z. pos 0 ≤ℤ (pos D *ℤ z)) (sym (square q)) (nonneg (D * (nat_abs q * nat_abs q)))
  where
    nonneg : (n : ℕ) → pos 0 ≤ℤ pos n
    nonneg n = omega (arith, ints)

square_above : (q : ℤ) → pos 0 ≤ℤ (q *ℤ q)
square_above q = subst (λ z. pos 0 ≤ℤ z) (sym (square q)) (nonneg (nat_abs q * nat_abs q))
  where
    nonneg : (n : ℕ) → pos 0 ≤ℤ pos n
    nonneg n = omega (arith, ints)

-- u − v against 0
above_by : (u v : ℤ) → pos 0 <ℤ (u -ℤ v) → v <ℤ u
above_by u v h = omega (arith, ints)

by_above : (u v : ℤ) → v <ℤ u → pos 0 <ℤ (u -ℤ v)
by_above u v h = omega (arith, ints)

below_by : (u v : ℤ) → (u -ℤ v) <ℤ pos 0 → u <ℤ v
below_by u v h = omega (arith, ints)

by_below : (u v : ℤ) → u <ℤ v → (u -ℤ v) <ℤ pos 0
by_below u v h = omega (arith, ints)

clash : {X : Type 0} (x : ℤ) → x <ℤ pos 0 → pos 0 ≤ℤ x → X
clash (pos n) h k = absurd (omega (arith, ints))
clash (negsuc n) h k = elim k.le [ ]

strict : (x : ℤ) → pos 0 ≤ℤ x → x ≢ pos 0 → pos 0 <ℤ x
strict (pos zero) h n = absurd (n refl)
strict (pos (suc k)) h n = omega (arith, ints)
strict (negsuc k) h n = elim h.le [ ]

module _ (D : ℕ) (p q : ℤ) where
  pub both_above : pos 0 ≤ℤ p → pos 0 ≤ℤ q → Decides (lt_z (pos 0) (p +ℤ q)) (PositiveParts D p q)
  both_above h k = decides (lt_z (pos 0) (p +ℤ q)) (PositiveParts D p q) (λ t. inl (h, k, λ e. nonzero t e)) back
    where
      nonzero : T (lt_z (pos 0) (p +ℤ q)) → (p ≡ pos 0) × (q ≡ pos 0) → ⊥
      nonzero t e = subst (λ z. T (lt_z (pos 0) z)) (ap₂ ◌+ℤ◌ e.0 e.1) t

      one_of : (p q : ℤ) → pos 0 ≤ℤ p → pos 0 ≤ℤ q → ¬ ((p ≡ pos 0) × (q ≡ pos 0)) → pos 0 <ℤ (p +ℤ q)
      one_of (pos zero) (pos zero) h k n = absurd (n (refl, refl))
      one_of (pos zero) (pos (suc b)) h k n = omega (arith, ints)
      one_of (pos (suc a)) (pos b) h k n = omega (arith, ints)
      one_of (pos a) (negsuc b) h k n = elim k.le [ ]
      one_of (negsuc a) q h k n = elim h.le [ ]

      back : PositiveParts D p q → T (lt_z (pos 0) (p +ℤ q))
      back (inl c) = (one_of p q h k c.2).lt
      back (inr (inl c)) = clash q c.1 k
      back (inr (inr c)) = clash p c.0 h

  pub both_below : p <ℤ pos 0 → q <ℤ pos 0 → ¬ PositiveParts D p q
  both_below h k (inl c) = clash p h c.0
  both_below h k (inr (inl c)) = let a = c.0 in absurd (omega (arith, ints))
  both_below h k (inr (inr c)) = let a = c.1 in absurd (omega (arith, ints))

  pub p_above : pos 0 ≤ℤ p → q <ℤ pos 0 → Decides (lt_z (pos 0) (conjugate p q p q (pos D))) (PositiveParts D p q)
  p_above h k = decides (lt_z (pos 0) (conjugate p q p q (pos D))) (PositiveParts D p q)
      (λ t. let c = above_by (p *ℤ p) (pos D *ℤ (q *ℤ q)) (record { lt = t }) in inr (inl (strict p h (nonzero c), k, c)))
      back
    where
      nonzero : (pos D *ℤ (q *ℤ q)) <ℤ (p *ℤ p) → p ≢ pos 0
      nonzero c e = clash (pos D *ℤ (q *ℤ q)) (subst (λ z. (pos D *ℤ (q *ℤ q)) <ℤ (z *ℤ z)) e c) (under_square D q)

      back : PositiveParts D p q → T (lt_z (pos 0) (conjugate p q p q (pos D)))
      back (inl c) = clash q k c.1
      back (inr (inl c)) = (by_above (p *ℤ p) (pos D *ℤ (q *ℤ q)) c.2).lt
      back (inr (inr c)) = clash p c.0 h

  pub q_above : p <ℤ pos 0 → pos 0 ≤ℤ q → Decides (lt_z (conjugate p q p q (pos D)) (pos 0)) (PositiveParts D p q)
  q_above h k = decides (lt_z (conjugate p q p q (pos D)) (pos 0)) (PositiveParts D p q)
      (λ t. let c = below_by (p *ℤ p) (pos D *ℤ (q *ℤ q)) (record { lt = t }) in inr (inr (h, strict q k (nonzero c), c)))
      back
    where
      nonzero : (p *ℤ p) <ℤ (pos D *ℤ (q *ℤ q)) → q ≢ pos 0
      nonzero c e = clash (p *ℤ p) (subst (λ z. (p *ℤ p) <ℤ z) (ap (λ z. pos D *ℤ (z *ℤ z)) e ∙ solve₁ ℤ_ring (λ d. d :* (lit 0 :* lit 0) ≋ lit 0) tt (pos D)) c) (square_above p)

      back : PositiveParts D p q → T (lt_z (conjugate p q p q (pos D)) (pos 0))
      back (inl c) = clash p h c.0
      back (inr (inl c)) = clash q c.1 k
      back (inr (inr c)) = (by_below (p *ℤ p) (pos D *ℤ (q *ℤ q)) c.2).lt

decides_by : (b : Bool) (P Q : Type 0) → Decides b P → (Q ↔ P) → Decides b Q
decides_by true P Q d e = e.1 d
decides_by false P Q d e = λ c. d (e.0 c)

-- the test on the parts decides for the number
pub positive_row : (D : ℕ) (row : Parts) (b : Bool) → pos 0 <ℤ row.m → Plain D row.q → Decides b (PositiveParts D row.p row.q) → Decides b (PosE (row_number D row))
positive_row D row b h f d = go row.m h
  where
    go : (m : ℤ) → pos 0 <ℤ m → Decides b (PosE (exact D row.p row.q (nat_abs m)))
    go (pos m) h = decides_by b (PositiveParts D row.p row.q) (PosE (exact D row.p row.q m)) d (positive_of_parts D row.p row.q m (ltb→lt 0 m h.lt) f)
    go (negsuc m) h = elim h.lt [ ]
