-- A triple is positive exactly where its parts pass a test on whole numbers. Assumes nothing.
use Rattle.std.proofs.Common.{◌≡◌, ℕ, zero, suc, ◌*◌, ◌<◌, Bool, ◌&&◌, ◌||◌, T, eqb, ℤ, pos, negsuc, ◌+ℤ◌, ◌*ℤ◌, neg_ℤ, nat_abs, ◌≤ℤ◌, ◌<ℤ◌, sym, refl, ap, ◌∙◌, subst, inl, inr, arith, eqb→eq, lt→ltb}
use native.Mathlib.Nat as NatL
use Rattle.std.proofs.Math.Facts.{or_yes}
use Rattle.std.proofs.lemmas.Int.{ints}
use Rattle.algebra.specs.Rational.{ℚ, whole, addℚ, negq, mulℚ, positive}
use Rattle.algebra.specs.Exact.{exact, norm_e, above, null, positive_e, PosE}
use Rattle.algebra.specs.Laws.{Plain, PositiveParts, PositiveOfParts}
use Rattle.algebra.proofs.Booleans.{or_left, or_right, and_split, and_join, same_test}
use Rattle.algebra.proofs.RingSolver.{◌:+◌, ◌:*◌, :neg, lit, ◌≋◌, solve₂, solve₄}
use Rattle.algebra.proofs.Integers.{ℤ_ring, ℤ_ordered, positive_mul, abs_zero}
use Rattle.algebra.proofs.OrderedRing as Ord
use Rattle.algebra.proofs.Rational.{Is, over_is, add_is, mul_is, neg_is, rewrite_is, sign_is, den_pos, cancel_right}
use Rattle.algebra.proofs.Triples.{im_exact, re_exact}

-- ---- the sign of a fraction is that of its numerator
module _ (x : ℚ) (p : ℤ) (m : ℕ) (h : 0 < m) (e : Is x p m) where
  pub sign_same : above x ≡ positive p
  sign_same = same_test (above x) (positive p) back (sign_is x p m h e)
    where
      back : T (above x) → T (positive p)
      back t = Ord.unscale ℤ_ring ℤ_ordered (pos x.den) p (lt→ltb 0 x.den (den_pos x))
          (subst (λ z. T (positive z)) (e ∙ solve₂ ℤ_ring (λ a b. a :* b ≋ b :* a) tt p (pos x.den)) (positive_mul x.num (pos m) t (lt→ltb 0 m h)))

  pub null_same : null x ≡ eqb (nat_abs p) 0
  null_same = same_test (null x) (eqb (nat_abs p) 0) (λ t. to (eqb→eq (nat_abs x.num) 0 t)) (λ t. back (eqb→eq (nat_abs p) 0 t))
    where
      is_null : (z : ℤ) → z ≡ pos 0 → T (eqb (nat_abs z) 0)
      is_null z e = subst (λ (y : ℤ). T (eqb (nat_abs y) 0)) (sym e) tt

      to : nat_abs x.num ≡ 0 → T (eqb (nat_abs p) 0)
      to z = is_null p (cancel_right x.den p (pos 0) (den_pos x) (sym e ∙ ap (λ n. n *ℤ pos m) (abs_zero x.num z) ∙ solve₂ ℤ_ring (λ a b. lit 0 :* a ≋ lit 0 :* b) tt (pos m) (pos x.den)))

      back : nat_abs p ≡ 0 → T (null x)
      back z = is_null x.num (cancel_right m x.num (pos 0) h (e ∙ ap (λ n. n *ℤ pos x.den) (abs_zero p z) ∙ solve₂ ℤ_ring (λ a b. lit 0 :* a ≋ lit 0 :* b) tt (pos x.den) (pos m)))

-- ---- the three cases, over their tests
abbrev three : Bool → Bool → Bool → Bool → Bool → Bool → Bool → Bool → Bool
three p p0 −p q q0 −q n −n = (p || p0) && (q || q0) && (p || q) || p && −q && n || −p && q && −n

abbrev norm_z : ℕ → ℤ → ℤ → ℤ
norm_z D p q = p *ℤ p +ℤ neg_ℤ (pos D *ℤ (q *ℤ q))

abbrev test : ℕ → ℤ → ℤ → Bool
test D p q = three (positive p) (eqb (nat_abs p) 0) (positive (neg_ℤ p)) (positive q) (eqb (nat_abs q) 0) (positive (neg_ℤ q)) (positive (norm_z D p q)) (positive (neg_ℤ (norm_z D p q)))

module _ (D : ℕ) (p q : ℤ) (m : ℕ) (h : 0 < m) (f : Plain D q) where
  re_is : Is (exact D p q m).re p m
  re_is = subst (λ z. Is z p m) (sym (re_exact D p q m)) (over_is p m h)

  im_is : Is (exact D p q m).im q m
  im_is = subst (λ z. Is z q m) (sym (im_exact D p q m h f)) (over_is q m h)

  square : 0 < m * m
  square = NatL.mul-pos h h

  norm_is : Is (norm_e (exact D p q m)) (norm_z D p q) (m * m)
  unfolding norm_e whole
  norm_is =
      let a = (exact D p q m).re in let b = (exact D p q m).im in
      rewrite_is (addℚ (mulℚ a a) (negq (mulℚ (whole D) (mulℚ b b))))
      (p *ℤ p *ℤ pos (1 * (m * m)) +ℤ neg_ℤ (pos D *ℤ (q *ℤ q)) *ℤ pos (m * m)) (norm_z D p q) (m * m * (1 * (m * m))) (m * m)
      (NatL.mul-pos square (NatL.mul-pos {m = 1} (omega arith) square))
      (add_is (mulℚ a a) (negq (mulℚ (whole D) (mulℚ b b))) (p *ℤ p) (neg_ℤ (pos D *ℤ (q *ℤ q))) (m * m) (1 * (m * m))
      (mul_is a a p p m m re_is re_is)
      (neg_is (mulℚ (whole D) (mulℚ b b)) (pos D *ℤ (q *ℤ q)) (1 * (m * m)) (mul_is (whole D) (mulℚ b b) (pos D) (q *ℤ q) 1 (m * m) (over_is (pos D) 1 (omega arith)) (mul_is b b q q m m im_is im_is))))
      (solve₄ ℤ_ring (λ d p q m. (p :* p :* (lit 1 :* (m :* m)) :+ :neg (d :* (q :* q)) :* (m :* m)) :* (m :* m) ≋ (p :* p :+ :neg (d :* (q :* q))) :* (m :* m :* (lit 1 :* (m :* m)))) tt (pos D) p q (pos m))

  neg_of : (y : ℚ) (z : ℤ) (n : ℕ) → 0 < n → Is y z n → above (negq y) ≡ positive (neg_ℤ z)
  neg_of y z n k e = sign_same (negq y) (neg_ℤ z) n k (neg_is y z n e)

  pub by_test : positive_e (exact D p q m) ≡ test D p q
  unfolding positive_e
  by_test =
      let a = (exact D p q m).re in let b = (exact D p q m).im in let n = norm_e (exact D p q m) in
      let a₁ = sign_same a p m h re_is in let a₀ = null_same a p m h re_is in let a₂ = neg_of a p m h re_is in
      let b₁ = sign_same b q m h im_is in let b₀ = null_same b q m h im_is in let b₂ = neg_of b q m h im_is in
      let n₁ = sign_same n (norm_z D p q) (m * m) square norm_is in let n₂ = neg_of n (norm_z D p q) (m * m) square norm_is in
      λ i. three (a₁ i) (a₀ i) (a₂ i) (b₁ i) (b₀ i) (b₂ i) (n₁ i) (n₂ i)

-- ---- the tests as orders of whole numbers
above_zero : (z : ℤ) → T (positive z) → pos 0 <ℤ z
above_zero (pos n) t = record { lt = t }
above_zero (negsuc n) t = elim t [ ]

zero_above : (z : ℤ) → pos 0 <ℤ z → T (positive z)
zero_above (pos n) t = t.lt
zero_above (negsuc n) t = elim t.lt [ ]

below_zero : (z : ℤ) → T (positive (neg_ℤ z)) → z <ℤ pos 0
below_zero z t = let h = above_zero (neg_ℤ z) t in omega (arith, ints)

zero_below : (z : ℤ) → z <ℤ pos 0 → T (positive (neg_ℤ z))
zero_below z h = zero_above (neg_ℤ z) (omega (arith, ints))

not_below : (z : ℤ) → T (positive z || eqb (nat_abs z) 0) → pos 0 ≤ℤ z
not_below (pos n) t = omega (arith, ints)
not_below (negsuc n) t = absurd (let h = eqb→eq (suc n) 0 t in omega arith)

below_not : (z : ℤ) → pos 0 ≤ℤ z → T (positive z || eqb (nat_abs z) 0)
below_not (pos zero) t = tt
below_not (pos (suc n)) t = or_left (positive (pos (suc n))) (eqb (suc n) 0) (lt→ltb 0 (suc n) (omega arith))
below_not (negsuc n) t = elim t.le [ ]

one_of : (p q : ℤ) → pos 0 ≤ℤ p → pos 0 ≤ℤ q → ¬ ((p ≡ pos 0) × (q ≡ pos 0)) → T (positive p || positive q)
one_of (pos zero) (pos zero) h k n = absurd (n (refl, refl))
one_of (pos zero) (pos (suc b)) h k n = lt→ltb 0 (suc b) (omega arith)
one_of (pos (suc a)) q h k n = or_left (positive (pos (suc a))) (positive q) (lt→ltb 0 (suc a) (omega arith))
one_of (pos zero) (negsuc b) h k n = elim k.le [ ]
one_of (negsuc a) q h k n = elim h.le [ ]

not_both_zero : (p q : ℤ) → T (positive p || positive q) → ¬ ((p ≡ pos 0) × (q ≡ pos 0))
not_both_zero p q t e = elim (or_yes (positive p) (positive q) t) [ inl h ↦ subst (λ z. T (positive z)) e.0 h | inr h ↦ subst (λ z. T (positive z)) e.1 h ]

greater : (u v : ℤ) → pos 0 <ℤ (u +ℤ neg_ℤ v) → v <ℤ u
greater u v h = omega (arith, ints)

less : (u v : ℤ) → v <ℤ u → pos 0 <ℤ (u +ℤ neg_ℤ v)
less u v h = omega (arith, ints)

greater' : (u v : ℤ) → pos 0 <ℤ neg_ℤ (u +ℤ neg_ℤ v) → u <ℤ v
greater' u v h = omega (arith, ints)

less' : (u v : ℤ) → u <ℤ v → pos 0 <ℤ neg_ℤ (u +ℤ neg_ℤ v)
less' u v h = omega (arith, ints)

module _ (D : ℕ) (p q : ℤ) where
  test_cases : T (test D p q) → PositiveParts D p q
  test_cases t = elim (or_yes ((positive p || eqb (nat_abs p) 0) && (positive q || eqb (nat_abs q) 0) && (positive p || positive q) || positive p && positive (neg_ℤ q) && positive (norm_z D p q)) (positive (neg_ℤ p) && positive q && positive (neg_ℤ (norm_z D p q))) t) [
    | inl u ↦ elim (or_yes ((positive p || eqb (nat_abs p) 0) && (positive q || eqb (nat_abs q) 0) && (positive p || positive q)) (positive p && positive (neg_ℤ q) && positive (norm_z D p q)) u) [
      | inl v ↦
          let s = and_split ((positive p || eqb (nat_abs p) 0) && (positive q || eqb (nat_abs q) 0)) (positive p || positive q) v in
          let r = and_split (positive p || eqb (nat_abs p) 0) (positive q || eqb (nat_abs q) 0) s.0 in
          inl (not_below p r.0, not_below q r.1, not_both_zero p q s.1)
      | inr v ↦
          let s = and_split (positive p && positive (neg_ℤ q)) (positive (norm_z D p q)) v in
          let r = and_split (positive p) (positive (neg_ℤ q)) s.0 in
          inr (inl (above_zero p r.0, below_zero q r.1, greater (p *ℤ p) (pos D *ℤ (q *ℤ q)) (above_zero (norm_z D p q) s.1)))
    ]
    | inr v ↦
        let s = and_split (positive (neg_ℤ p) && positive q) (positive (neg_ℤ (norm_z D p q))) v in
        let r = and_split (positive (neg_ℤ p)) (positive q) s.0 in
        inr (inr (below_zero p r.0, above_zero q r.1, greater' (p *ℤ p) (pos D *ℤ (q *ℤ q)) (above_zero (neg_ℤ (norm_z D p q)) s.1)))
  ]

  cases_test : PositiveParts D p q → T (test D p q)
  cases_test (inl h) =
      or_left _ _ (or_left _ _ (and_join _ _ (and_join _ _ (below_not p h.0) (below_not q h.1)) (one_of p q h.0 h.1 h.2)))
  cases_test (inr (inl h)) =
      or_left _ _ (or_right ((positive p || eqb (nat_abs p) 0) && (positive q || eqb (nat_abs q) 0) && (positive p || positive q)) _ (and_join _ _ (and_join _ _ (zero_above p h.0) (zero_below q h.1)) (zero_above (norm_z D p q) (less (p *ℤ p) (pos D *ℤ (q *ℤ q)) h.2))))
  cases_test (inr (inr h)) =
      or_right ((positive p || eqb (nat_abs p) 0) && (positive q || eqb (nat_abs q) 0) && (positive p || positive q) || positive p && positive (neg_ℤ q) && positive (norm_z D p q)) _ (and_join _ _ (and_join _ _ (zero_below p h.0) (zero_above q h.1)) (zero_above (neg_ℤ (norm_z D p q)) (less' (p *ℤ p) (pos D *ℤ (q *ℤ q)) h.2)))

pub positive_of_parts : PositiveOfParts
unfolding PosE
positive_of_parts D p q m h f =
    (λ t. test_cases D p q (subst T (by_test D p q m h f) t), λ c. subst T (sym (by_test D p q m h f)) (cases_test D p q c))
