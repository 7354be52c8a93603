-- The operations on triples (p + q√D)/m. Assumes nothing.
use Rattle.std.proofs.Common.{◌≡◌, ℕ, zero, suc, ◌*◌, ◌<◌, ℤ, pos, ◌+ℤ◌, ◌*ℤ◌, neg_ℤ, sym, refl, ap, ◌∙◌, subst, ap₂, arith}
use native.Mathlib.Nat as NatL
use Rattle.algebra.specs.Rational.{ℚ, 0ℚ, over, whole, addℚ, negq, mulℚ}
use Rattle.algebra.specs.Exact.{Exact, root_part, made, exact, zero_e, add_e, neg_e, mul_e}
use Rattle.algebra.specs.Laws.{Plain, SameNumber}
use Rattle.algebra.proofs.RingSolver.{◌:+◌, ◌:*◌, lit, ◌≋◌, solve₁, solve₂, solve₆, solve₇}
use Rattle.algebra.proofs.Integers.{ℤ_ring}
use Rattle.algebra.proofs.Rational.{Is, agree, over_is, add_is, mul_is, neg_is, nat_zero, is_zero, cancel_right}
use Rattle.algebra.proofs.Irrational.{is_cross}
use Rattle.algebra.proofs.ExactRing.{parts_equal, zero-mul, kept}

-- p/m = p'/m' as fractions just where p·m' = p'·m
pub over_same : (p p' : ℤ) (m m' : ℕ) → 0 < m → 0 < m' → p *ℤ pos m' ≡ p' *ℤ pos m → over p m ≡ over p' m'
over_same p p' m m' h h' e = agree (over p m) (over p' m') p p' m m' h h' (over_is p m h) (over_is p' m' h') e

pub over_cross : (p p' : ℤ) (m m' : ℕ) → 0 < m → 0 < m' → over p m ≡ over p' m' → p *ℤ pos m' ≡ p' *ℤ pos m
over_cross p p' m m' h h' e = is_cross (over p m) p p' m m' (over_is p m h) (subst (λ x. Is x p' m') (sym e) (over_is p' m' h'))

-- two triples with p·m' = p'·m and q·m' = q'·m are one number
pub exact_same : (D : ℕ) (p q p' q' : ℤ) (m m' : ℕ) → 0 < m → 0 < m' → p *ℤ pos m' ≡ p' *ℤ pos m → q *ℤ pos m' ≡ q' *ℤ pos m → exact D p q m ≡ exact D p' q' m'
unfolding exact
exact_same D p q p' q' m m' h h' e f = ap₂ (made D) (over_same p p' m m' h h' e) (over_same q q' m m' h h' f)

over_zero : (m : ℕ) → 0 < m → over (pos 0) m ≡ 0ℚ
over_zero m h = is_zero (over (pos 0) m) (cancel_right m (over (pos 0) m).num (pos 0) h (over_is (pos 0) m h ∙ solve₂ ℤ_ring (λ a b. lit 0 :* a ≋ lit 0 :* b) tt (pos (over (pos 0) m).den) (pos m)))

-- the root part is not lost
pub im_exact : (D : ℕ) (p q : ℤ) (m : ℕ) → 0 < m → Plain D q → (exact D p q m).im ≡ over q m
unfolding exact
im_exact D p q m h f = kept D (over q m) (λ e. ap (λ z. over z m) (f e) ∙ over_zero m h)

pub re_exact : (D : ℕ) (p q : ℤ) (m : ℕ) → (exact D p q m).re ≡ over p m
unfolding exact
re_exact D p q m = refl

pub same_number : SameNumber
same_number D p q m p' q' m' h h' f f' = (cross, λ c. exact_same D p q p' q' m m' h h' c.0 c.1)
  where
    cross : exact D p q m ≡ exact D p' q' m' → (p *ℤ pos m' ≡ p' *ℤ pos m) × (q *ℤ pos m' ≡ q' *ℤ pos m)
    cross e = (
      over_cross p p' m m' h h' (sym (re_exact D p q m) ∙ ap (λ (x : Exact D). x.re) e ∙ re_exact D p' q' m'),
      over_cross q q' m m' h h' (sym (im_exact D p q m h f) ∙ ap (λ (x : Exact D). x.im) e ∙ im_exact D p' q' m' h' f'),
    )

over_neg : (p : ℤ) (m : ℕ) → 0 < m → over (neg_ℤ p) m ≡ negq (over p m)
over_neg p m h = agree (over (neg_ℤ p) m) (negq (over p m)) (neg_ℤ p) (neg_ℤ p) m m h h (over_is (neg_ℤ p) m h) (neg_is (over p m) p m (over_is p m h)) refl

root_neg : (D : ℕ) (b : ℚ) → root_part D (negq (root_part D b)) ≡ root_part D (negq b)
root_neg zero b = refl
root_neg (suc n) b = refl

root_add : (D : ℕ) (b c : ℚ) → root_part D (addℚ (root_part D b) (root_part D c)) ≡ root_part D (addℚ b c)
root_add zero b c = refl
root_add (suc n) b c = refl

root_mul : (D : ℕ) (a a' b b' : ℚ) → root_part D (addℚ (mulℚ a (root_part D b')) (mulℚ (root_part D b) a')) ≡ root_part D (addℚ (mulℚ a b') (mulℚ b a'))
root_mul zero a a' b b' = refl
root_mul (suc n) a a' b b' = refl

root_root : (D : ℕ) (b b' : ℚ) → mulℚ (whole D) (mulℚ (root_part D b) (root_part D b')) ≡ mulℚ (whole D) (mulℚ b b')
root_root zero b b' = gone (mulℚ 0ℚ 0ℚ) ∙ sym (gone (mulℚ b b'))
  where
    gone : (x : ℚ) → mulℚ (whole 0) x ≡ 0ℚ
    gone x = ap (λ z. mulℚ z x) nat_zero ∙ zero-mul x
root_root (suc n) b b' = refl

pub exact_neg : (D : ℕ) (p q : ℤ) (m : ℕ) → 0 < m → exact D (neg_ℤ p) (neg_ℤ q) m ≡ neg_e (exact D p q m)
unfolding exact neg_e
exact_neg D p q m h = parts_equal (exact D (neg_ℤ p) (neg_ℤ q) m) (neg_e (exact D p q m)) (over_neg p m h) (ap (root_part D) (over_neg q m h) ∙ sym (root_neg D (over q m)))

over_add : (p q : ℤ) (m n : ℕ) → 0 < m → 0 < n → over (p *ℤ pos n +ℤ q *ℤ pos m) (m * n) ≡ addℚ (over p m) (over q n)
over_add p q m n h k =
    agree (over (p *ℤ pos n +ℤ q *ℤ pos m) (m * n)) (addℚ (over p m) (over q n)) _ _ (m * n) (m * n) (NatL.mul-pos h k) (NatL.mul-pos h k)
    (over_is (p *ℤ pos n +ℤ q *ℤ pos m) (m * n) (NatL.mul-pos h k)) (add_is (over p m) (over q n) p q m n (over_is p m h) (over_is q n k)) refl

pub exact_add : (D : ℕ) (p q p' q' : ℤ) (m m' : ℕ) → 0 < m → 0 < m' → exact D (p *ℤ pos m' +ℤ p' *ℤ pos m) (q *ℤ pos m' +ℤ q' *ℤ pos m) (m * m') ≡ add_e (exact D p q m) (exact D p' q' m')
unfolding exact add_e
exact_add D p q p' q' m m' h h' =
    parts_equal (exact D (p *ℤ pos m' +ℤ p' *ℤ pos m) (q *ℤ pos m' +ℤ q' *ℤ pos m) (m * m')) (add_e (exact D p q m) (exact D p' q' m'))
    (over_add p p' m m' h h') (ap (root_part D) (over_add q q' m m' h h') ∙ sym (root_add D (over q m) (over q' m')))

over_mul_re : (D : ℕ) (p q p' q' : ℤ) (m m' : ℕ) → 0 < m → 0 < m' → over (p *ℤ p' +ℤ pos D *ℤ (q *ℤ q')) (m * m') ≡ addℚ (mulℚ (over p m) (over p' m')) (mulℚ (whole D) (mulℚ (over q m) (over q' m')))
unfolding whole
over_mul_re D p q p' q' m m' h h' =
    let mm : 0 < m * m' = NatL.mul-pos h h' in
    agree (over (p *ℤ p' +ℤ pos D *ℤ (q *ℤ q')) (m * m')) (addℚ (mulℚ (over p m) (over p' m')) (mulℚ (whole D) (mulℚ (over q m) (over q' m'))))
    (p *ℤ p' +ℤ pos D *ℤ (q *ℤ q')) (p *ℤ p' *ℤ pos (1 * (m * m')) +ℤ pos D *ℤ (q *ℤ q') *ℤ pos (m * m')) (m * m') (m * m' * (1 * (m * m'))) mm (NatL.mul-pos mm (NatL.mul-pos {m = 1} (omega arith) mm))
    (over_is (p *ℤ p' +ℤ pos D *ℤ (q *ℤ q')) (m * m') mm)
    (add_is (mulℚ (over p m) (over p' m')) (mulℚ (whole D) (mulℚ (over q m) (over q' m'))) (p *ℤ p') (pos D *ℤ (q *ℤ q')) (m * m') (1 * (m * m'))
    (mul_is (over p m) (over p' m') p p' m m' (over_is p m h) (over_is p' m' h'))
    (mul_is (whole D) (mulℚ (over q m) (over q' m')) (pos D) (q *ℤ q') 1 (m * m') (over_is (pos D) 1 (omega arith)) (mul_is (over q m) (over q' m') q q' m m' (over_is q m h) (over_is q' m' h'))))
    (solve₇ ℤ_ring (λ d p q r s m n. (p :* r :+ d :* (q :* s)) :* (m :* n :* (lit 1 :* (m :* n))) ≋ (p :* r :* (lit 1 :* (m :* n)) :+ d :* (q :* s) :* (m :* n)) :* (m :* n)) tt (pos D) p q p' q' (pos m) (pos m'))

over_mul_im : (p q p' q' : ℤ) (m m' : ℕ) → 0 < m → 0 < m' → over (p *ℤ q' +ℤ q *ℤ p') (m * m') ≡ addℚ (mulℚ (over p m) (over q' m')) (mulℚ (over q m) (over p' m'))
over_mul_im p q p' q' m m' h h' =
    let mm : 0 < m * m' = NatL.mul-pos h h' in
    agree (over (p *ℤ q' +ℤ q *ℤ p') (m * m')) (addℚ (mulℚ (over p m) (over q' m')) (mulℚ (over q m) (over p' m')))
    (p *ℤ q' +ℤ q *ℤ p') (p *ℤ q' *ℤ pos (m * m') +ℤ q *ℤ p' *ℤ pos (m * m')) (m * m') (m * m' * (m * m')) mm (NatL.mul-pos mm mm)
    (over_is (p *ℤ q' +ℤ q *ℤ p') (m * m') mm)
    (add_is (mulℚ (over p m) (over q' m')) (mulℚ (over q m) (over p' m')) (p *ℤ q') (q *ℤ p') (m * m') (m * m')
    (mul_is (over p m) (over q' m') p q' m m' (over_is p m h) (over_is q' m' h'))
    (mul_is (over q m) (over p' m') q p' m m' (over_is q m h) (over_is p' m' h')))
    (solve₆ ℤ_ring (λ p q r s m n. (p :* s :+ q :* r) :* (m :* n :* (m :* n)) ≋ (p :* s :* (m :* n) :+ q :* r :* (m :* n)) :* (m :* n)) tt p q p' q' (pos m) (pos m'))

pub exact_mul : (D : ℕ) (p q p' q' : ℤ) (m m' : ℕ) → 0 < m → 0 < m' → exact D (p *ℤ p' +ℤ pos D *ℤ (q *ℤ q')) (p *ℤ q' +ℤ q *ℤ p') (m * m') ≡ mul_e (exact D p q m) (exact D p' q' m')
unfolding exact mul_e
exact_mul D p q p' q' m m' h h' =
    parts_equal (exact D (p *ℤ p' +ℤ pos D *ℤ (q *ℤ q')) (p *ℤ q' +ℤ q *ℤ p') (m * m')) (mul_e (exact D p q m) (exact D p' q' m'))
    (over_mul_re D p q p' q' m m' h h' ∙ ap (addℚ (mulℚ (over p m) (over p' m'))) (sym (root_root D (over q m) (over q' m'))))
    (ap (root_part D) (over_mul_im p q p' q' m m' h h') ∙ sym (root_mul D (over p m) (over p' m') (over q m) (over q' m')))

zero_at_one : (D : ℕ) → exact D (pos 0) (pos 0) 1 ≡ zero_e D
unfolding exact over
zero_at_one D = refl

-- 0 as a triple
pub exact_zero : (D : ℕ) (m : ℕ) → 0 < m → exact D (pos 0) (pos 0) m ≡ zero_e D
exact_zero D m h = exact_same D (pos 0) (pos 0) (pos 0) (pos 0) m 1 h (omega arith) zeros zeros ∙ zero_at_one D
  where
    zeros : pos 0 *ℤ pos 1 ≡ pos 0 *ℤ pos m
    zeros = solve₁ ℤ_ring (λ m. lit 0 :* lit 1 ≋ lit 0 :* m) tt (pos m)

-- a triple means 0 only where p and q are 0
pub zero_parts : (D : ℕ) (p q : ℤ) (m : ℕ) → 0 < m → Plain D q → exact D p q m ≡ zero_e D → (p ≡ pos 0) × (q ≡ pos 0)
zero_parts D p q m h f e =
    let c = (same_number D p q m (pos 0) (pos 0) 1 h (omega arith) f (λ _. refl)).0 (e ∙ sym (exact_zero D 1 (omega arith))) in
    (part p c.0, part q c.1)
  where
    part : (z : ℤ) → z *ℤ pos 1 ≡ pos 0 *ℤ pos m → z ≡ pos 0
    part z e = solve₁ ℤ_ring (λ z. z ≋ z :* lit 1) tt z ∙ e ∙ solve₁ ℤ_ring (λ m. lit 0 :* m ≋ lit 0) tt (pos m)
