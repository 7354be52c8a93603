-- The quotient of two triples. A factor s of 1 or −1 keeps the part below above 0; the lemmas hold for every s. Assumes nothing.
use Rattle.std.proofs.Common.{◌≡◌, ℕ, ◌*◌, ◌<◌, ◌≢◌, ℤ, pos, ◌+ℤ◌, ◌-ℤ◌, ◌*ℤ◌, neg_ℤ, sym, ap, ◌∙◌, arith}
use native.Mathlib.Nat as NatL
use Rattle.algebra.specs.Exact.{Exact, Radicand, exact, zero_e, mul_e, inv_e}
use Rattle.algebra.specs.Laws.{Plain}
use Rattle.algebra.proofs.RingSolver.{◌:+◌, ◌:*◌, ◌:-◌, :neg, lit, ◌≋◌, solve₁, solve₂, solve₃, solve₆, solve₈}
use Rattle.algebra.proofs.Integers.{ℤ_ring}
use Rattle.algebra.proofs.ExactRing.{exact_ring}
use Rattle.algebra.proofs.ExactOrder.{exact_ordered, mul-inv}
use Rattle.algebra.proofs.OrderedRing as Ord
use Rattle.algebra.proofs.Triples.{exact_same, exact_mul, exact_zero, zero_parts}

module _ (D : ℕ) (good : Radicand D) where
  -- x/y is the z with z·y = x
  pub quotient_is : (x y z : Exact D) → y ≢ zero_e D → mul_e z y ≡ x → mul_e x (inv_e y) ≡ z
  quotient_is x y z n e =
      ap (λ t. mul_e t (inv_e y)) (sym e)
      ∙ (exact_ring D).mul_assoc z y (inv_e y)
      ∙ ap (mul_e z) (mul-inv D good y n)
      ∙ (exact_ring D).mul-one z

  -- a triple times another is a third
  product_is : (P Q p q p' q' : ℤ) (M m m' : ℕ) → 0 < M → 0 < m → 0 < m'
      → (P *ℤ p' +ℤ pos D *ℤ (Q *ℤ q')) *ℤ pos m ≡ p *ℤ (pos M *ℤ pos m')
      → (P *ℤ q' +ℤ Q *ℤ p') *ℤ pos m ≡ q *ℤ (pos M *ℤ pos m')
      → mul_e (exact D P Q M) (exact D p' q' m') ≡ exact D p q m
  product_is P Q p q p' q' M m m' H h h' e f =
      sym (exact_mul D P Q p' q' M m' H h')
      ∙ exact_same D (P *ℤ p' +ℤ pos D *ℤ (Q *ℤ q')) (P *ℤ q' +ℤ Q *ℤ p') p q (M * m') m (NatL.mul-pos H h') h e f

  -- m'·(p + q√D)·(p' − q'√D) over m·(p'² − D·q'²)
  pub root_quotient : (s p q p' q' : ℤ) (M m m' : ℕ) → 0 < M → 0 < m → 0 < m'
      → pos M ≡ s *ℤ (pos m *ℤ (p' *ℤ p' -ℤ pos D *ℤ (q' *ℤ q')))
      → exact D p' q' m' ≢ zero_e D
      → mul_e (exact D p q m) (inv_e (exact D p' q' m')) ≡ exact D (s *ℤ pos m' *ℤ (p *ℤ p' -ℤ pos D *ℤ (q *ℤ q'))) (s *ℤ pos m' *ℤ (q *ℤ p' -ℤ p *ℤ q')) M
  root_quotient s p q p' q' M m m' H h h' e n =
      quotient_is (exact D p q m) (exact D p' q' m') _ n
      (product_is (s *ℤ pos m' *ℤ (p *ℤ p' -ℤ pos D *ℤ (q *ℤ q'))) (s *ℤ pos m' *ℤ (q *ℤ p' -ℤ p *ℤ q')) p q p' q' M m m' H h h'
      (plain (pos D) s p q p' q' (pos m) (pos m') ∙ ap (λ z. p *ℤ (z *ℤ pos m')) (sym e))
      (rooted (pos D) s p q p' q' (pos m) (pos m') ∙ ap (λ z. q *ℤ (z *ℤ pos m')) (sym e)))
    where
      plain : (d s p q u v m w : ℤ) → (s *ℤ w *ℤ (p *ℤ u -ℤ d *ℤ (q *ℤ v)) *ℤ u +ℤ d *ℤ (s *ℤ w *ℤ (q *ℤ u -ℤ p *ℤ v) *ℤ v)) *ℤ m ≡ p *ℤ (s *ℤ (m *ℤ (u *ℤ u -ℤ d *ℤ (v *ℤ v))) *ℤ w)
      plain = solve₈ ℤ_ring (λ d s p q u v m w. (s :* w :* (p :* u :- d :* (q :* v)) :* u :+ d :* (s :* w :* (q :* u :- p :* v) :* v)) :* m ≋ p :* (s :* (m :* (u :* u :- d :* (v :* v))) :* w)) tt

      rooted : (d s p q u v m w : ℤ) → (s *ℤ w *ℤ (p *ℤ u -ℤ d *ℤ (q *ℤ v)) *ℤ v +ℤ s *ℤ w *ℤ (q *ℤ u -ℤ p *ℤ v) *ℤ u) *ℤ m ≡ q *ℤ (s *ℤ (m *ℤ (u *ℤ u -ℤ d *ℤ (v *ℤ v))) *ℤ w)
      rooted = solve₈ ℤ_ring (λ d s p q u v m w. (s :* w :* (p :* u :- d :* (q :* v)) :* v :+ s :* w :* (q :* u :- p :* v) :* u) :* m ≋ q :* (s :* (m :* (u :* u :- d :* (v :* v))) :* w)) tt

  -- p·m' over m·p', for numbers without a root part
  pub plain_quotient : (s p p' : ℤ) (M m m' : ℕ) → 0 < M → 0 < m → 0 < m'
      → pos M ≡ s *ℤ (pos m *ℤ p')
      → exact D p' (pos 0) m' ≢ zero_e D
      → mul_e (exact D p (pos 0) m) (inv_e (exact D p' (pos 0) m')) ≡ exact D (s *ℤ (p *ℤ pos m')) (pos 0) M
  plain_quotient s p p' M m m' H h h' e n =
      quotient_is (exact D p (pos 0) m) (exact D p' (pos 0) m') _ n
      (product_is (s *ℤ (p *ℤ pos m')) (pos 0) p (pos 0) p' (pos 0) M m m' H h h'
      (plain (pos D) s p p' (pos m) (pos m') ∙ ap (λ z. p *ℤ (z *ℤ pos m')) (sym e))
      (rooted s p p' (pos m) (pos m') (pos M)))
    where
      plain : (d s p u m w : ℤ) → (s *ℤ (p *ℤ w) *ℤ u +ℤ d *ℤ (pos 0 *ℤ pos 0)) *ℤ m ≡ p *ℤ (s *ℤ (m *ℤ u) *ℤ w)
      plain = solve₆ ℤ_ring (λ d s p u m w. (s :* (p :* w) :* u :+ d :* (lit 0 :* lit 0)) :* m ≋ p :* (s :* (m :* u) :* w)) tt

      rooted : (s p u m w M : ℤ) → (s *ℤ (p *ℤ w) *ℤ pos 0 +ℤ pos 0 *ℤ u) *ℤ m ≡ pos 0 *ℤ (M *ℤ w)
      rooted = solve₆ ℤ_ring (λ s p u m w M. (s :* (p :* w) :* lit 0 :+ lit 0 :* u) :* m ≋ lit 0 :* (M :* w)) tt

  -- the norm p² − D·q² of a triple other than 0 is not 0: it is the product of p + q√D and p − q√D
  pub norm_nonzero : (p q : ℤ) → Plain D q → ¬ ((p ≡ pos 0) × (q ≡ pos 0)) → p *ℤ p -ℤ pos D *ℤ (q *ℤ q) ≢ pos 0
  norm_nonzero p q f n e =
      Ord.mul_ne (exact_ring D) (exact_ordered D good) (exact D p q 1) (exact D p (neg_ℤ q) 1)
      (λ z. n (zero_parts D p q 1 (omega arith) f z))
      (λ z. n (both (zero_parts D p (neg_ℤ q) 1 (omega arith) (λ d. ap neg_ℤ (f d)) z)))
      (sym (exact_mul D p q p (neg_ℤ q) 1 1 (omega arith) (omega arith))
      ∙ exact_same D (p *ℤ p +ℤ pos D *ℤ (q *ℤ neg_ℤ q)) (p *ℤ neg_ℤ q +ℤ q *ℤ p) (pos 0) (pos 0) (1 * 1) 1 (omega arith) (omega arith) plain rooted
      ∙ exact_zero D 1 (omega arith))
    where
      both : (p ≡ pos 0) × (neg_ℤ q ≡ pos 0) → (p ≡ pos 0) × (q ≡ pos 0)
      both z = (z.0, solve₁ ℤ_ring (λ q. q ≋ :neg (:neg q)) tt q ∙ ap neg_ℤ z.1)

      plain : (p *ℤ p +ℤ pos D *ℤ (q *ℤ neg_ℤ q)) *ℤ pos 1 ≡ pos 0 *ℤ pos (1 * 1)
      plain = solve₃ ℤ_ring (λ d p q. (p :* p :+ d :* (q :* :neg q)) :* lit 1 ≋ (p :* p :- d :* (q :* q)) :* lit 1) tt (pos D) p q ∙ ap (λ z. z *ℤ pos 1) e

      rooted : (p *ℤ neg_ℤ q +ℤ q *ℤ p) *ℤ pos 1 ≡ pos 0 *ℤ pos (1 * 1)
      rooted = solve₂ ℤ_ring (λ p q. (p :* :neg q :+ q :* p) :* lit 1 ≋ lit 0 :* lit 1) tt p q
