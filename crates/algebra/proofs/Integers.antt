-- The whole numbers are a commutative ring, and ordered. Assumes nothing.
use Rattle.std.proofs.Common.{◌≡◌, ℕ, zero, suc, ◌+◌, ◌*◌, T, ◌⊎◌, ℤ, pos, negsuc, ◌+ℤ◌, ◌*ℤ◌, neg_ℤ, nat_abs, sym, refl, ap, ◌∙◌, subst, ap₂, inl, inr, arith, ltb→lt, lt→ltb}
use native.Mathlib.Nat as NatL
use lib.IntN.{one, ℤ_ind, +ℤ_one, -ℤ_one, +ℤ_comm, +ℤ_assoc, +ℤ_idr, +ℤ_invr, zero-*ℤ, *ℤ-one, *ℤ_comm, suc_ℤ-*ℤ, pred_ℤ-*ℤ, neg_ℤ-+ℤ, neg_ℤ-neg_ℤ}
use Rattle.algebra.specs.Ring.{Ring, Ordered}
use Rattle.algebra.specs.Rational.{positive}

swap : (a b c d : ℤ) → (a +ℤ b) +ℤ (c +ℤ d) ≡ (a +ℤ c) +ℤ (b +ℤ d)
swap a b c d =
    +ℤ_assoc a b (c +ℤ d) ∙ ap (λ x. a +ℤ x) (sym (+ℤ_assoc b c d) ∙ ap (λ x. x +ℤ d) (+ℤ_comm b c) ∙ +ℤ_assoc c b d) ∙ sym (+ℤ_assoc a c (b +ℤ d))

pub *ℤ-+ℤ : (x y z : ℤ) → x *ℤ (y +ℤ z) ≡ x *ℤ y +ℤ x *ℤ z
*ℤ-+ℤ x y z = ℤ_ind P base up down x
  where
    P : ℤ → Type 0
    P x = x *ℤ (y +ℤ z) ≡ x *ℤ y +ℤ x *ℤ z

    base : P (pos zero)
    base = zero-*ℤ (y +ℤ z) ∙ sym (ap₂ ◌+ℤ◌ (zero-*ℤ y) (zero-*ℤ z))

    up : (n : ℕ) → P (pos n) → P (pos n +ℤ pos (suc zero))
    up n h = subst P (sym (+ℤ_one (pos n))) (suc_ℤ-*ℤ (pos n) (y +ℤ z) ∙ ap (λ w. w +ℤ (y +ℤ z)) h ∙ swap (pos n *ℤ y) (pos n *ℤ z) y z ∙ sym (ap₂ ◌+ℤ◌ (suc_ℤ-*ℤ (pos n) y) (suc_ℤ-*ℤ (pos n) z)))

    down : (n : ℕ) → P (neg_ℤ (pos n)) → P (neg_ℤ (pos n) +ℤ neg_ℤ (pos (suc zero)))
    down n h =
        let m = neg_ℤ (pos n) in
        subst P (sym (-ℤ_one m)) (pred_ℤ-*ℤ m (y +ℤ z) ∙ ap₂ ◌+ℤ◌ h (neg_ℤ-+ℤ y z) ∙ swap (m *ℤ y) (m *ℤ z) (neg_ℤ y) (neg_ℤ z) ∙ sym (ap₂ ◌+ℤ◌ (pred_ℤ-*ℤ m y) (pred_ℤ-*ℤ m z)))

+ℤ-*ℤ : (x y z : ℤ) → (x +ℤ y) *ℤ z ≡ x *ℤ z +ℤ y *ℤ z
+ℤ-*ℤ x y z = *ℤ_comm (x +ℤ y) z ∙ *ℤ-+ℤ z x y ∙ ap₂ ◌+ℤ◌ (*ℤ_comm z x) (*ℤ_comm z y)

neg-*ℤ : (x z : ℤ) → neg_ℤ x *ℤ z ≡ neg_ℤ (x *ℤ z)
neg-*ℤ (pos zero) z = zero-*ℤ z ∙ ap neg_ℤ (sym (zero-*ℤ z))
neg-*ℤ (pos (suc n)) (pos m) = refl
neg-*ℤ (pos (suc n)) (negsuc m) = sym (neg_ℤ-neg_ℤ (pos (suc n * suc m)))
neg-*ℤ (negsuc n) (pos m) = sym (neg_ℤ-neg_ℤ (pos (suc n * m)))
neg-*ℤ (negsuc n) (negsuc m) = refl

pub *ℤ_assoc : (x y z : ℤ) → (x *ℤ y) *ℤ z ≡ x *ℤ (y *ℤ z)
*ℤ_assoc x y z = ℤ_ind P base up down x
  where
    P : ℤ → Type 0
    P x = (x *ℤ y) *ℤ z ≡ x *ℤ (y *ℤ z)

    base : P (pos zero)
    base = ap (λ w. w *ℤ z) (zero-*ℤ y) ∙ zero-*ℤ z ∙ sym (zero-*ℤ (y *ℤ z))

    up : (n : ℕ) → P (pos n) → P (pos n +ℤ pos (suc zero))
    up n h = subst P (sym (+ℤ_one (pos n))) (ap (λ w. w *ℤ z) (suc_ℤ-*ℤ (pos n) y) ∙ +ℤ-*ℤ (pos n *ℤ y) y z ∙ ap (λ w. w +ℤ y *ℤ z) h ∙ sym (suc_ℤ-*ℤ (pos n) (y *ℤ z)))

    down : (n : ℕ) → P (neg_ℤ (pos n)) → P (neg_ℤ (pos n) +ℤ neg_ℤ (pos (suc zero)))
    down n h =
        let m = neg_ℤ (pos n) in
        subst P (sym (-ℤ_one m)) (ap (λ w. w *ℤ z) (pred_ℤ-*ℤ m y) ∙ +ℤ-*ℤ (m *ℤ y) (neg_ℤ y) z ∙ ap₂ ◌+ℤ◌ h (neg-*ℤ y z) ∙ sym (pred_ℤ-*ℤ m (y *ℤ z)))

pub by_one : (x : ℤ) → x *ℤ pos 1 ≡ x
unfolding one
by_one x = *ℤ-one x

abbrev pub ℤ_ring : Ring
ℤ_ring = record {
  car = ℤ;
  zero = pos 0;
  one = pos 1;
  add = ◌+ℤ◌;
  neg = neg_ℤ;
  mul = ◌*ℤ◌;
  nat = pos;
  add_comm = +ℤ_comm;
  add_assoc = +ℤ_assoc;
  add-zero = +ℤ_idr;
  add-neg = +ℤ_invr;
  mul_comm = *ℤ_comm;
  mul_assoc = *ℤ_assoc;
  mul-one = by_one;
  mul-add = *ℤ-+ℤ;
  nat_zero = refl;
  nat_suc = λ n. ap pos (omega arith);
}

-- ---- the order

pub positive_add : (x y : ℤ) → T (positive x) → T (positive y) → T (positive (x +ℤ y))
positive_add (pos a) (pos b) s t = lt→ltb 0 (a + b) (let h = ltb→lt 0 a s in omega arith)
positive_add (pos a) (negsuc b) s t = elim t [ ]
positive_add (negsuc a) y s t = elim s [ ]

pub positive_mul : (x y : ℤ) → T (positive x) → T (positive y) → T (positive (x *ℤ y))
positive_mul (pos a) (pos b) s t = lt→ltb 0 (a * b) (NatL.mul-pos (ltb→lt 0 a s) (ltb→lt 0 b t))
positive_mul (pos a) (negsuc b) s t = elim t [ ]
positive_mul (negsuc a) y s t = elim s [ ]

pub tri : (x : ℤ) → T (positive x) ⊎ ((x ≡ pos 0) ⊎ T (positive (neg_ℤ x)))
tri (pos zero) = inr (inl refl)
tri (pos (suc n)) = inl (lt→ltb 0 (suc n) (omega arith))
tri (negsuc n) = inr (inr (lt→ltb 0 (suc n) (omega arith)))

abbrev pub ℤ_ordered : Ordered ℤ_ring
ℤ_ordered = record {
  Pos = λ x. T (positive x);
  tri = tri;
  not_zero = λ t. t;
  pos_add = positive_add;
  pos_mul = positive_mul;
}

-- ---- the size

pub abs_neg : (n : ℕ) → nat_abs (neg_ℤ (pos n)) ≡ n
abs_neg zero = refl
abs_neg (suc n) = refl

pub abs_mul : (x y : ℤ) → nat_abs (x *ℤ y) ≡ nat_abs x * nat_abs y
abs_mul (pos a) (pos b) = refl
abs_mul (pos a) (negsuc b) = abs_neg (a * suc b)
abs_mul (negsuc a) (pos b) = abs_neg (suc a * b)
abs_mul (negsuc a) (negsuc b) = refl

pub abs_zero : (k : ℤ) → nat_abs k ≡ 0 → k ≡ pos 0
abs_zero (pos n) e = ap pos e
abs_zero (negsuc n) e = absurd (let h : suc n ≡ 0 = e in omega arith)
