-- A number that is no square is no square of a fraction. Assumes nothing.
use Rattle.std.proofs.Common.{◌≡◌, ℕ, zero, suc, ◌+◌, ◌-◌, ◌*◌, ◌<◌, ◌≤◌, ℤ, pos, ◌+ℤ◌, ◌-ℤ◌, ◌*ℤ◌, neg_ℤ, nat_abs, sym, refl, ap, ◌∙◌, subst, ap₂, arith}
use native.Mathlib.Nat as NatL
use native.Mathlib.Decide.{dec_lt}
use Rattle.algebra.specs.Rational.{ℚ, 0ℚ, whole, mulℚ}
use Rattle.algebra.proofs.RingSolver.{◌:+◌, ◌:*◌, ◌:-◌, :neg, lit, ◌≋◌, from₁, from₂, solve₂, solve₃, solve₄, solve₆}
use Rattle.algebra.proofs.Integers.{ℤ_ring, abs_mul, abs_zero}
use Rattle.algebra.proofs.Rational.{Is, over_is, mul_is, mul_self, den_pos, is_zero, cancel_right}

-- (ky)² = k²y²
squares : (k y : ℕ) → k * y * (k * y) ≡ k * k * (y * y)
squares k y = ap nat_abs (solve₂ ℤ_ring (λ k y. k :* y :* (k :* y) ≋ k :* k :* (y :* y)) tt (pos k) (pos y))

lt_by : (a b : ℕ) → (b ≤ a → ⊥) → a < b
lt_by a b f = elim (dec_lt a b) [ yes h ↦ h | no g ↦ absurd (f (omega arith)) ]

less_than : (a b c d : ℕ) → a ≤ b → b ≡ c → c < d → a ≡ d → ⊥
less_than a b c d h e k f = omega arith

swap_front : (x k y : ℕ) → x * (k * y) ≡ y * (k * x)
swap_front x k y = ap nat_abs (solve₃ ℤ_ring (λ x k y. x :* (k :* y) ≋ y :* (k :* x)) tt (pos x) (pos k) (pos y))

-- the step down: (x, y) to (Dy − kx, x − ky)
step_whole : (k D x y x' y' : ℤ) → D *ℤ y ≡ k *ℤ x +ℤ x' → x ≡ k *ℤ y +ℤ y' → x *ℤ x ≡ D *ℤ (y *ℤ y) → x' *ℤ x' ≡ D *ℤ (y' *ℤ y')
step_whole k D x y x' y' e f h =
    ap₂ ◌*ℤ◌ left left
    ∙ from₁ ℤ_ring ((D *ℤ y -ℤ k *ℤ x) *ℤ (D *ℤ y -ℤ k *ℤ x)) (D *ℤ ((x -ℤ k *ℤ y) *ℤ (x -ℤ k *ℤ y))) (k *ℤ k -ℤ D) (x *ℤ x) (D *ℤ (y *ℤ y)) h
    (solve₄ ℤ_ring (λ k D x y. (D :* y :- k :* x) :* (D :* y :- k :* x) :- D :* ((x :- k :* y) :* (x :- k :* y)) ≋ (k :* k :- D) :* (x :* x :- D :* (y :* y))) tt k D x y)
    ∙ ap (λ z. D *ℤ z) (ap₂ ◌*ℤ◌ (sym right) (sym right))
  where
    left : x' ≡ D *ℤ y -ℤ k *ℤ x
    left = solve₂ ℤ_ring (λ a b. b ≋ a :+ b :- a) tt (k *ℤ x) x' ∙ ap (λ z. z -ℤ k *ℤ x) (sym e)

    right : y' ≡ x -ℤ k *ℤ y
    right = solve₂ ℤ_ring (λ a b. b ≋ a :+ b :- a) tt (k *ℤ y) y' ∙ ap (λ z. z -ℤ k *ℤ y) (sym f)

module _ (k D : ℕ) (low : k * k < D) (high : D < suc k * suc k) where
  descend : (n x y : ℕ) → y ≤ n → x * x ≡ D * (y * y) → y ≡ 0
  descend n x zero h e = refl
  descend zero x (suc y₁) h e = absurd (omega arith)
  descend (suc n) x (suc y₁) h e =
      let y : ℕ = suc y₁ in
      let y0 : 0 < y = omega arith in
      let yy0 : 0 < y * y = NatL.mul-pos y0 y0 in
      let lo : k * y < x = lt_by (k * y) x (λ g. less_than (x * x) (k * y * (k * y)) (k * k * (y * y)) (D * (y * y)) (NatL.mul-le-mul g g) (squares k y) (NatL.mul-lt-mul_of_pos_right low yy0) e) in
      let hi : x < suc k * y = lt_by x (suc k * y) (λ g. less_than (suc k * y * (suc k * y)) (x * x) (D * (y * y)) (suc k * suc k * (y * y)) (NatL.mul-le-mul g g) e (NatL.mul-lt-mul_of_pos_right high yy0) (squares (suc k) y)) in
      let hi' : x < k * y + y = subst (λ z. x < z) (NatL.suc-mul k y) hi in
      let y' : ℕ = x - k * y in
      let f : x ≡ k * y + y' = omega arith in
      let over' : y * (k * x) < y * (D * y) =
      subst (λ z. y * (k * x) < z) (e ∙ NatL.mul_left_comm D y y) (subst (λ z. z < x * x) (swap_front x k y) (NatL.mul-lt-mul_of_pos_left {k = x} lo (omega arith))) in
      let x' : ℕ = D * y - k * x in
      let lo' : k * x < D * y = NatL.lt_of_mul-lt-mul_left y over' in
      let g : D * y ≡ k * x + x' = omega arith in
      let z : y' ≡ 0 = descend n x' y' (omega arith) (ap nat_abs (step_whole (pos k) (pos D) (pos x) (pos y) (pos x') (pos y') (ap pos g) (ap pos f) (ap pos e))) in
      absurd (omega arith)

-- two ways to write one fraction
pub is_cross : (x : ℚ) (p p' : ℤ) (m m' : ℕ) → Is x p m → Is x p' m' → p *ℤ pos m' ≡ p' *ℤ pos m
is_cross x p p' m m' e f = cancel_right x.den (p *ℤ pos m') (p' *ℤ pos m) (den_pos x) (go x.num (pos x.den) p p' (pos m) (pos m') e f)
  where
    go : (a d p p' m m' : ℤ) → a *ℤ m ≡ p *ℤ d → a *ℤ m' ≡ p' *ℤ d → p *ℤ m' *ℤ d ≡ p' *ℤ m *ℤ d
    go a d p p' m m' e f = from₂ ℤ_ring (p *ℤ m' *ℤ d) (p' *ℤ m *ℤ d) (neg_ℤ m') (a *ℤ m) (p *ℤ d) m (a *ℤ m') (p' *ℤ d) e f
        (solve₆ ℤ_ring (λ a d p q m n. p :* n :* d :- q :* m :* d ≋ :neg n :* (a :* m :- p :* d) :+ m :* (a :* n :- q :* d)) tt a d p p' m m')

mul-zero_left : (q m : ℕ) → 0 < m → q * m ≡ 0 → q ≡ 0
mul-zero_left zero m h e = refl
mul-zero_left (suc q) m h e = absurd (let k : 0 < suc q * m = NatL.mul-pos {m = suc q} (omega arith) h in omega arith)

-- no fraction is √D
pub irrational : (k D : ℕ) → k * k < D → D < suc k * suc k → (a b : ℚ) → mulℚ a a ≡ mulℚ (whole D) (mulℚ b b) → b ≡ 0ℚ
unfolding whole
irrational k D low high a b e =
    let p : ℤ = a.num in let m : ℕ = a.den in let q : ℤ = b.num in let n : ℕ = b.den in
    let left : Is (mulℚ a a) (p *ℤ p) (m * m) = mul_self a a in
    let right : Is (mulℚ (whole D) (mulℚ b b)) (pos D *ℤ (q *ℤ q)) (1 * (n * n)) = mul_is (whole D) (mulℚ b b) (pos D) (q *ℤ q) 1 (n * n) (over_is (pos D) 1 (omega arith)) (mul_self b b) in
    let c : p *ℤ p *ℤ pos (1 * (n * n)) ≡ pos D *ℤ (q *ℤ q) *ℤ pos (m * m) = is_cross (mulℚ a a) (p *ℤ p) (pos D *ℤ (q *ℤ q)) (m * m) (1 * (n * n)) left (subst (λ x. Is x (pos D *ℤ (q *ℤ q)) (1 * (n * n))) (sym e) right) in
    let lhs : nat_abs (p *ℤ p *ℤ pos (1 * (n * n))) ≡ nat_abs p * nat_abs p * (1 * (n * n)) = abs_mul (p *ℤ p) (pos (1 * (n * n))) ∙ ap (λ z. z * (1 * (n * n))) (abs_mul p p) in
    let rhs : nat_abs (pos D *ℤ (q *ℤ q) *ℤ pos (m * m)) ≡ D * (nat_abs q * nat_abs q) * (m * m) = abs_mul (pos D *ℤ (q *ℤ q)) (pos (m * m)) ∙ ap (λ z. z * (m * m)) (abs_mul (pos D) (q *ℤ q) ∙ ap (λ z. D * z) (abs_mul q q)) in
    let square : nat_abs p * n * (nat_abs p * n) ≡ D * (nat_abs q * m * (nat_abs q * m)) = front (nat_abs p) n ∙ sym lhs ∙ ap nat_abs c ∙ rhs ∙ back D (nat_abs q) m in
    let gone : nat_abs q * m ≡ 0 = descend k D low high (nat_abs q * m) (nat_abs p * n) (nat_abs q * m) (omega arith) square in
    is_zero b (abs_zero q (mul-zero_left (nat_abs q) m (den_pos a) gone))
  where
    front : (p n : ℕ) → p * n * (p * n) ≡ p * p * (1 * (n * n))
    front p n = ap nat_abs (solve₂ ℤ_ring (λ p n. p :* n :* (p :* n) ≋ p :* p :* (lit 1 :* (n :* n))) tt (pos p) (pos n))

    back : (D q m : ℕ) → D * (q * q) * (m * m) ≡ D * (q * m * (q * m))
    back D q m = ap nat_abs (solve₃ ℤ_ring (λ D q m. D :* (q :* q) :* (m :* m) ≋ D :* (q :* m :* (q :* m))) tt (pos D) (pos q) (pos m))

-- the whole part of a root
pub floor : (D : ℕ) → (k : ℕ) × (k * k ≤ D) × (D < suc k * suc k)
floor zero = (0, omega arith, omega arith)
floor (suc D) =
    let r : (k : ℕ) × (k * k ≤ D) × (D < suc k * suc k) = floor D in
    let k : ℕ = r.0 in
    elim (dec_lt (suc D) (suc k * suc k)) [
      | yes h ↦ (k, omega arith, h)
      | no g ↦ (suc k, omega arith, grown (suc k) D (omega arith) r.2)
    ]
  where
    grown : (k D : ℕ) → k * k ≤ suc D → D < k * k → suc D < suc k * suc k
    grown k D h e = let s : suc k * suc k ≡ k * k + k + suc k = NatL.suc-mul k (suc k) ∙ ap (λ z. z + suc k) (NatL.mul-suc k k) in omega arith
