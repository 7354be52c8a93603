-- The fractions are an ordered field. Assumes nothing.
use Rattle.std.proofs.Common.{◌≡◌, ℕ, zero, suc, ◌+◌, ◌*◌, ◌/◌, ◌<◌, Bool, true, false, T, eqb, ltb, ◌≢◌, ℤ, pos, negsuc, ◌+ℤ◌, ◌*ℤ◌, neg_ℤ, nat_abs, sym, refl, ap, ◌∙◌, subst, inl, inr, arith, eqb→eq, ltb→lt, lt→ltb}
use mathlib.Core.HLevel.{is_prop→PathP}
use native.Mathlib.Nat as NatL
use lib.Dec.{T_prop}
use Rattle.algebra.specs.Ring.{Ring, Ordered, Inverses}
use Rattle.algebra.specs.Gcd.{gcd}
use Rattle.algebra.specs.Rational.{ℚ, 0ℚ, 1ℚ, lowest_terms, pack', part, over, addℚ, negq, mulℚ, flip, invℚ, positive, Posℚ, whole}
use Rattle.algebra.proofs.Gcd.{gcd_left, gcd_right, gcd_parts, same_den}
use Rattle.algebra.proofs.RingSolver.{lit, ◌:+◌, ◌:*◌, ◌:-◌, :neg, ◌≋◌, from₂, solve₁, solve₂, solve₄, solve₆, solve₈, from₃}
use Rattle.algebra.proofs.Booleans.{and_split, and_join}
use Rattle.algebra.proofs.Integers.{ℤ_ring, ℤ_ordered, positive_add, positive_mul, tri, abs_neg, abs_mul}
use Rattle.algebra.proofs.OrderedRing as Ord

pub den_pos : (x : ℚ) → 0 < x.den
den_pos x = ltb→lt 0 x.den (and_split (ltb 0 x.den) (eqb (gcd (nat_abs x.num) x.den) 1) x.lowest).0

coprime : (x : ℚ) → gcd (nat_abs x.num) x.den ≡ 1
coprime x = eqb→eq (gcd (nat_abs x.num) x.den) 1 (and_split (ltb 0 x.den) (eqb (gcd (nat_abs x.num) x.den) 1) x.lowest).1

-- equal parts, equal fractions
pub parts_equal : (x y : ℚ) → x.num ≡ y.num → x.den ≡ y.den → x ≡ y
parts_equal x y p q = λ i. record {
  num = p i;
  den = q i;
  lowest = is_prop→PathP (λ i. T (lowest_terms (p i) (q i))) (λ i. T_prop (lowest_terms (p i) (q i))) x.lowest y.lowest i;
}

pos_ne : (m : ℕ) → 0 < m → pos m ≢ pos 0
pos_ne m h e = let z : m ≡ 0 = ap nat_abs e in omega arith

pub cancel_right : (m : ℕ) (x y : ℤ) → 0 < m → x *ℤ pos m ≡ y *ℤ pos m → x ≡ y
cancel_right m x y h e =
    Ord.cancel ℤ_ring ℤ_ordered (pos m) x y (pos_ne m h)
    (solve₂ ℤ_ring (λ a b. a :* b ≋ b :* a) tt (pos m) x ∙ e ∙ solve₂ ℤ_ring (λ a b. a :* b ≋ b :* a) tt y (pos m))

-- the fraction x is p/m
abbrev pub Is : ℚ → ℤ → ℕ → Type 0
Is x p m = x.num *ℤ pos m ≡ p *ℤ pos x.den

pub cross : (x y : ℚ) → x.num *ℤ pos y.den ≡ y.num *ℤ pos x.den → x ≡ y
cross x y e = parts_equal x y num_same den_same
  where
    den_same : x.den ≡ y.den
    den_same = same_den (nat_abs x.num) x.den (nat_abs y.num) y.den (coprime x) (coprime y) (den_pos x) (den_pos y)
        (sym (abs_mul x.num (pos y.den)) ∙ ap nat_abs e ∙ abs_mul y.num (pos x.den))

    num_same : x.num ≡ y.num
    num_same = cancel_right y.den x.num y.num (den_pos y) (e ∙ ap (λ n. y.num *ℤ pos n) den_same)

-- two ways to write a number agree: a/d = p/m, b/e = p'/m' and p/m = p'/m' give a/d = b/e
chain : (a b d e p p' m m' : ℤ) → a *ℤ m ≡ p *ℤ d → b *ℤ m' ≡ p' *ℤ e → p *ℤ m' ≡ p' *ℤ m → a *ℤ e *ℤ (m *ℤ m') ≡ b *ℤ d *ℤ (m *ℤ m')
chain a b d e p p' m m' f g h =
    from₃ ℤ_ring (a *ℤ e *ℤ (m *ℤ m')) (b *ℤ d *ℤ (m *ℤ m')) (e *ℤ m') (a *ℤ m) (p *ℤ d) (neg_ℤ (d *ℤ m)) (b *ℤ m') (p' *ℤ e) (d *ℤ e) (p *ℤ m') (p' *ℤ m) f g h
    (solve₈ ℤ_ring (λ a b d e p q m n. a :* e :* (m :* n) :- b :* d :* (m :* n) ≋ e :* n :* (a :* m :- p :* d) :+ :neg (d :* m) :* (b :* n :- q :* e) :+ d :* e :* (p :* n :- q :* m)) tt a b d e p p' m m')

pub agree : (x y : ℚ) (p p' : ℤ) (m m' : ℕ) → 0 < m → 0 < m' → Is x p m → Is y p' m' → p *ℤ pos m' ≡ p' *ℤ pos m → x ≡ y
agree x y p p' m m' h h' e e' c =
    cross x y (cancel_right (m * m') (x.num *ℤ pos y.den) (y.num *ℤ pos x.den) (NatL.mul-pos h h')
    (chain x.num y.num (pos x.den) (pos y.den) p p' (pos m) (pos m') e e' c))

-- ---- `over p m` is p/m
pub abs_part : (p : ℤ) (g : ℕ) → nat_abs (part p g) ≡ nat_abs p / g
abs_part (pos n) g = refl
abs_part (negsuc n) g = abs_neg (suc n / g)

pub part_is : (p : ℤ) (g m : ℕ) → g * (nat_abs p / g) ≡ nat_abs p → g * (m / g) ≡ m → part p g *ℤ pos m ≡ p *ℤ pos (m / g)
part_is (pos n) g m e f = ap pos (sym (ap (λ k. n / g * k) f) ∙ NatL.mul_left_comm (n / g) g (m / g) ∙ sym (NatL.mul_assoc g (n / g) (m / g)) ∙ ap (λ k. k * (m / g)) e)
part_is (negsuc n) g m e f =
    solve₂ ℤ_ring (λ a b. :neg a :* b ≋ :neg (a :* b)) tt (pos (suc n / g)) (pos m)
    ∙ ap (λ k. neg_ℤ (pos k)) (sym (ap (λ k. suc n / g * k) f) ∙ NatL.mul_left_comm (suc n / g) g (m / g) ∙ sym (NatL.mul_assoc g (suc n / g) (m / g)) ∙ ap (λ k. k * (m / g)) e)

packed : (n : ℤ) (d : ℕ) (b : Bool) (h : T b → T (lowest_terms n d)) → T b → ((pack' n d b h).num ≡ n) × ((pack' n d b h).den ≡ d)
packed n d true h t = (refl, refl)
packed n d false h t = elim t [ ]

pub over_is : (p : ℤ) (m : ℕ) → 0 < m → Is (over p m) p m
unfolding over
over_is p m h =
    let g : ℕ = gcd (nat_abs p) m in
    let gm : g * (m / g) ≡ m = NatL.mul-div_cancel' g (gcd_right (nat_abs p) m) in
    let gp : g * (nat_abs p / g) ≡ nat_abs p = NatL.mul-div_cancel' g (gcd_left (nat_abs p) m) in
    let d0 : 0 < m / g = pos_part (m / g) g m gm h in
    let one_left : gcd (nat_abs (part p g)) (m / g) ≡ 1 = ap (λ n. gcd n (m / g)) (abs_part p g) ∙ gcd_parts (nat_abs p) m h in
    let low : T (lowest_terms (part p g) (m / g)) = and_join (ltb 0 (m / g)) (eqb (gcd (nat_abs (part p g)) (m / g)) 1) (lt→ltb 0 (m / g) d0) (subst (λ n. T (eqb n 1)) (sym one_left) tt) in
    let both = packed (part p g) (m / g) (lowest_terms (part p g) (m / g)) (λ t. t) low in
    ap (λ n. n *ℤ pos m) both.0 ∙ part_is p g m gp gm ∙ ap (λ d. p *ℤ pos d) (sym both.1)
  where
    pos_part : (d g m : ℕ) → g * d ≡ m → 0 < m → 0 < d
    pos_part zero g m e h = let z : m ≡ 0 = sym e ∙ NatL.mul-zero g in omega arith
    pos_part (suc d) g m e h = omega arith

-- another way to write the same fraction
pub rewrite_is : (x : ℚ) (p p' : ℤ) (m m' : ℕ) → 0 < m → Is x p m → p *ℤ pos m' ≡ p' *ℤ pos m → Is x p' m'
rewrite_is x p p' m m' h e c = cancel_right m (x.num *ℤ pos m') (p' *ℤ pos x.den) h (go x.num (pos x.den) p p' (pos m) (pos m') e c)
  where
    go : (a d p p' m m' : ℤ) → a *ℤ m ≡ p *ℤ d → p *ℤ m' ≡ p' *ℤ m → a *ℤ m' *ℤ m ≡ p' *ℤ d *ℤ m
    go a d p p' m m' e c = from₂ ℤ_ring (a *ℤ m' *ℤ m) (p' *ℤ d *ℤ m) m' (a *ℤ m) (p *ℤ d) d (p *ℤ m') (p' *ℤ m) e c
        (solve₆ ℤ_ring (λ a d p q m n. a :* n :* m :- q :* d :* m ≋ n :* (a :* m :- p :* d) :+ d :* (p :* n :- q :* m)) tt a d p p' m m')

-- ---- the operations on p/m and q/n
pub dens : (x y : ℚ) → 0 < x.den * y.den
dens x y = NatL.mul-pos (den_pos x) (den_pos y)

pub add_self : (x y : ℚ) → Is (addℚ x y) (x.num *ℤ pos y.den +ℤ y.num *ℤ pos x.den) (x.den * y.den)
unfolding addℚ
add_self x y = over_is (x.num *ℤ pos y.den +ℤ y.num *ℤ pos x.den) (x.den * y.den) (dens x y)

pub mul_self : (x y : ℚ) → Is (mulℚ x y) (x.num *ℤ y.num) (x.den * y.den)
unfolding mulℚ
mul_self x y = over_is (x.num *ℤ y.num) (x.den * y.den) (dens x y)

pub neg_self : (x : ℚ) → Is (negq x) (neg_ℤ x.num) x.den
unfolding negq
neg_self x = over_is (neg_ℤ x.num) x.den (den_pos x)

pub add_is : (x y : ℚ) (p q : ℤ) (m n : ℕ) → Is x p m → Is y q n → Is (addℚ x y) (p *ℤ pos n +ℤ q *ℤ pos m) (m * n)
add_is x y p q m n e f =
    rewrite_is (addℚ x y) (x.num *ℤ pos y.den +ℤ y.num *ℤ pos x.den) (p *ℤ pos n +ℤ q *ℤ pos m) (x.den * y.den) (m * n) (dens x y) (add_self x y)
    (go x.num y.num (pos x.den) (pos y.den) p q (pos m) (pos n) e f)
  where
    go : (a b d e p q m n : ℤ) → a *ℤ m ≡ p *ℤ d → b *ℤ n ≡ q *ℤ e → (a *ℤ e +ℤ b *ℤ d) *ℤ (m *ℤ n) ≡ (p *ℤ n +ℤ q *ℤ m) *ℤ (d *ℤ e)
    go a b d e p q m n f g = from₂ ℤ_ring ((a *ℤ e +ℤ b *ℤ d) *ℤ (m *ℤ n)) ((p *ℤ n +ℤ q *ℤ m) *ℤ (d *ℤ e)) (e *ℤ n) (a *ℤ m) (p *ℤ d) (d *ℤ m) (b *ℤ n) (q *ℤ e) f g
        (solve₈ ℤ_ring (λ a b d e p q m n. (a :* e :+ b :* d) :* (m :* n) :- (p :* n :+ q :* m) :* (d :* e) ≋ e :* n :* (a :* m :- p :* d) :+ d :* m :* (b :* n :- q :* e)) tt a b d e p q m n)

pub mul_is : (x y : ℚ) (p q : ℤ) (m n : ℕ) → Is x p m → Is y q n → Is (mulℚ x y) (p *ℤ q) (m * n)
mul_is x y p q m n e f =
    rewrite_is (mulℚ x y) (x.num *ℤ y.num) (p *ℤ q) (x.den * y.den) (m * n) (dens x y) (mul_self x y)
    (go x.num y.num (pos x.den) (pos y.den) p q (pos m) (pos n) e f)
  where
    go : (a b d e p q m n : ℤ) → a *ℤ m ≡ p *ℤ d → b *ℤ n ≡ q *ℤ e → (a *ℤ b) *ℤ (m *ℤ n) ≡ (p *ℤ q) *ℤ (d *ℤ e)
    go a b d e p q m n f g = from₂ ℤ_ring ((a *ℤ b) *ℤ (m *ℤ n)) ((p *ℤ q) *ℤ (d *ℤ e)) (b *ℤ n) (a *ℤ m) (p *ℤ d) (p *ℤ d) (b *ℤ n) (q *ℤ e) f g
        (solve₈ ℤ_ring (λ a b d e p q m n. a :* b :* (m :* n) :- p :* q :* (d :* e) ≋ b :* n :* (a :* m :- p :* d) :+ p :* d :* (b :* n :- q :* e)) tt a b d e p q m n)

pub neg_is : (x : ℚ) (p : ℤ) (m : ℕ) → Is x p m → Is (negq x) (neg_ℤ p) m
neg_is x p m e =
    rewrite_is (negq x) (neg_ℤ x.num) (neg_ℤ p) x.den m (den_pos x) (neg_self x)
    (solve₂ ℤ_ring (λ a m. :neg a :* m ≋ :neg (a :* m)) tt x.num (pos m) ∙ ap neg_ℤ e ∙ solve₂ ℤ_ring (λ p d. :neg (p :* d) ≋ :neg p :* d) tt p (pos x.den))

-- ---- the laws
pub add_comm : (x y : ℚ) → addℚ x y ≡ addℚ y x
add_comm x y = agree (addℚ x y) (addℚ y x) _ _ (x.den * y.den) (y.den * x.den) (dens x y) (dens y x) (add_self x y) (add_self y x)
    (solve₄ ℤ_ring (λ a d b e. (a :* e :+ b :* d) :* (e :* d) ≋ (b :* d :+ a :* e) :* (d :* e)) tt x.num (pos x.den) y.num (pos y.den))

pub add_assoc : (x y z : ℚ) → addℚ (addℚ x y) z ≡ addℚ x (addℚ y z)
add_assoc x y z =
    agree (addℚ (addℚ x y) z) (addℚ x (addℚ y z)) _ _ (x.den * y.den * z.den) (x.den * (y.den * z.den))
    (NatL.mul-pos (dens x y) (den_pos z)) (NatL.mul-pos (den_pos x) (dens y z))
    (add_is (addℚ x y) z _ z.num (x.den * y.den) z.den (add_self x y) refl)
    (add_is x (addℚ y z) x.num _ x.den (y.den * z.den) refl (add_self y z))
    (solve₆ ℤ_ring (λ a d b e c f. ((a :* e :+ b :* d) :* f :+ c :* (d :* e)) :* (d :* (e :* f)) ≋ (a :* (e :* f) :+ (b :* f :+ c :* e) :* d) :* (d :* e :* f)) tt x.num (pos x.den) y.num (pos y.den) z.num (pos z.den))

pub add-zero : (x : ℚ) → addℚ x 0ℚ ≡ x
add-zero x = agree (addℚ x 0ℚ) x _ x.num (x.den * 1) x.den (NatL.mul-pos (den_pos x) (omega arith)) (den_pos x) (add_self x 0ℚ) refl
    (solve₂ ℤ_ring (λ a d. (a :* lit 1 :+ lit 0 :* d) :* d ≋ a :* (d :* lit 1)) tt x.num (pos x.den))

pub add-neg : (x : ℚ) → addℚ x (negq x) ≡ 0ℚ
add-neg x = agree (addℚ x (negq x)) 0ℚ _ (pos 0) (x.den * x.den) 1 (dens x x) (omega arith) (add_is x (negq x) x.num (neg_ℤ x.num) x.den x.den refl (neg_self x)) refl
    (solve₂ ℤ_ring (λ a d. (a :* d :+ :neg a :* d) :* lit 1 ≋ lit 0 :* (d :* d)) tt x.num (pos x.den))

pub mul_comm : (x y : ℚ) → mulℚ x y ≡ mulℚ y x
mul_comm x y = agree (mulℚ x y) (mulℚ y x) _ _ (x.den * y.den) (y.den * x.den) (dens x y) (dens y x) (mul_self x y) (mul_self y x)
    (solve₄ ℤ_ring (λ a d b e. a :* b :* (e :* d) ≋ b :* a :* (d :* e)) tt x.num (pos x.den) y.num (pos y.den))

pub mul_assoc : (x y z : ℚ) → mulℚ (mulℚ x y) z ≡ mulℚ x (mulℚ y z)
mul_assoc x y z =
    agree (mulℚ (mulℚ x y) z) (mulℚ x (mulℚ y z)) _ _ (x.den * y.den * z.den) (x.den * (y.den * z.den))
    (NatL.mul-pos (dens x y) (den_pos z)) (NatL.mul-pos (den_pos x) (dens y z))
    (mul_is (mulℚ x y) z _ z.num (x.den * y.den) z.den (mul_self x y) refl)
    (mul_is x (mulℚ y z) x.num _ x.den (y.den * z.den) refl (mul_self y z))
    (solve₆ ℤ_ring (λ a d b e c f. a :* b :* c :* (d :* (e :* f)) ≋ a :* (b :* c) :* (d :* e :* f)) tt x.num (pos x.den) y.num (pos y.den) z.num (pos z.den))

pub mul-one : (x : ℚ) → mulℚ x 1ℚ ≡ x
mul-one x = agree (mulℚ x 1ℚ) x _ x.num (x.den * 1) x.den (NatL.mul-pos (den_pos x) (omega arith)) (den_pos x) (mul_self x 1ℚ) refl
    (solve₂ ℤ_ring (λ a d. a :* lit 1 :* d ≋ a :* (d :* lit 1)) tt x.num (pos x.den))

pub mul-add : (x y z : ℚ) → mulℚ x (addℚ y z) ≡ addℚ (mulℚ x y) (mulℚ x z)
mul-add x y z =
    agree (mulℚ x (addℚ y z)) (addℚ (mulℚ x y) (mulℚ x z)) _ _ (x.den * (y.den * z.den)) (x.den * y.den * (x.den * z.den))
    (NatL.mul-pos (den_pos x) (dens y z)) (NatL.mul-pos (dens x y) (dens x z))
    (mul_is x (addℚ y z) x.num _ x.den (y.den * z.den) refl (add_self y z))
    (add_is (mulℚ x y) (mulℚ x z) _ _ (x.den * y.den) (x.den * z.den) (mul_self x y) (mul_self x z))
    (solve₆ ℤ_ring (λ a d b e c f. a :* (b :* f :+ c :* e) :* (d :* e :* (d :* f)) ≋ (a :* b :* (d :* f) :+ a :* c :* (d :* e)) :* (d :* (e :* f))) tt x.num (pos x.den) y.num (pos y.den) z.num (pos z.den))

pub nat_zero : whole 0 ≡ 0ℚ
unfolding whole over
nat_zero = refl

pub nat_suc : (n : ℕ) → whole (suc n) ≡ addℚ (whole n) 1ℚ
unfolding whole
nat_suc n = agree (whole (suc n)) (addℚ (whole n) 1ℚ) (pos (suc n)) (pos n *ℤ pos 1 +ℤ pos 1 *ℤ pos 1) 1 (1 * 1) (omega arith) (omega arith) (over_is (pos (suc n)) 1 (omega arith))
    (add_is (whole n) 1ℚ (pos n) (pos 1) 1 1 (over_is (pos n) 1 (omega arith)) refl) (let e : suc n * 1 ≡ (n * 1 + 1) * 1 = omega arith in ap pos e)

abbrev pub ℚ_ring : Ring
ℚ_ring = record {
  car = ℚ;
  zero = 0ℚ;
  one = 1ℚ;
  add = addℚ;
  neg = negq;
  mul = mulℚ;
  nat = whole;
  add_comm = add_comm;
  add_assoc = add_assoc;
  add-zero = add-zero;
  add-neg = add-neg;
  mul_comm = mul_comm;
  mul_assoc = mul_assoc;
  mul-one = mul-one;
  mul-add = mul-add;
  nat_zero = nat_zero;
  nat_suc = nat_suc;
}

-- ---- the order
pub sign_is : (x : ℚ) (p : ℤ) (m : ℕ) → 0 < m → Is x p m → T (positive p) → Posℚ x
sign_is x p m h e t =
    Ord.unscale ℤ_ring ℤ_ordered (pos m) x.num (lt→ltb 0 m h)
    (subst (λ z. T (positive z)) (sym e ∙ solve₂ ℤ_ring (λ a b. a :* b ≋ b :* a) tt x.num (pos m)) (positive_mul p (pos x.den) t (lt→ltb 0 x.den (den_pos x))))

pub den_positive : (x : ℚ) → T (positive (pos x.den))
den_positive x = lt→ltb 0 x.den (den_pos x)

pub is_zero : (x : ℚ) → x.num ≡ pos 0 → x ≡ 0ℚ
is_zero x e = cross x 0ℚ (ap (λ z. z *ℤ pos 1) e ∙ solve₁ ℤ_ring (λ d. lit 0 :* lit 1 ≋ lit 0 :* d) tt (pos x.den))

abbrev pub ℚ_ordered : Ordered ℚ_ring
ℚ_ordered = record {
  Pos = Posℚ;
  tri = λ x. elim (tri x.num) [
    | inl t ↦ inl t
    | inr (inl e) ↦ inr (inl (is_zero x e))
    | inr (inr t) ↦ inr (inr (sign_is (negq x) (neg_ℤ x.num) x.den (den_pos x) (neg_self x) t))
  ];
  not_zero = λ t. t;
  pos_add = λ x y s t. sign_is (addℚ x y) (x.num *ℤ pos y.den +ℤ y.num *ℤ pos x.den) (x.den * y.den) (dens x y) (add_self x y)
      (positive_add (x.num *ℤ pos y.den) (y.num *ℤ pos x.den) (positive_mul x.num (pos y.den) s (den_positive y)) (positive_mul y.num (pos x.den) t (den_positive x)));
  pos_mul = λ x y s t. sign_is (mulℚ x y) (x.num *ℤ y.num) (x.den * y.den) (dens x y) (mul_self x y) (positive_mul x.num y.num s t);
}

-- ---- the inverse
pub mul-inv : (x : ℚ) → x ≢ 0ℚ → mulℚ x (invℚ x) ≡ 1ℚ
unfolding invℚ
mul-inv x n = go x.num refl
  where
    d : ℕ
    d = x.den

    go : (k : ℤ) → x.num ≡ k → mulℚ x (flip k x.den) ≡ 1ℚ
    go (pos zero) e = absurd (n (is_zero x e))
    go (pos (suc j)) e = agree (mulℚ x (over (pos x.den) (suc j))) 1ℚ (x.num *ℤ pos x.den) (pos 1) (x.den * suc j) 1 (NatL.mul-pos (den_pos x) (omega arith)) (omega arith)
        (mul_is x (over (pos x.den) (suc j)) x.num (pos x.den) x.den (suc j) refl (over_is (pos x.den) (suc j) (omega arith))) refl
        (ap (λ z. z *ℤ pos x.den *ℤ pos 1) e ∙ solve₂ ℤ_ring (λ s d. s :* d :* lit 1 ≋ lit 1 :* (d :* s)) tt (pos (suc j)) (pos x.den))
    go (negsuc j) e = agree (mulℚ x (over (neg_ℤ (pos x.den)) (suc j))) 1ℚ (x.num *ℤ neg_ℤ (pos x.den)) (pos 1) (x.den * suc j) 1 (NatL.mul-pos (den_pos x) (omega arith)) (omega arith)
        (mul_is x (over (neg_ℤ (pos x.den)) (suc j)) x.num (neg_ℤ (pos x.den)) x.den (suc j) refl (over_is (neg_ℤ (pos x.den)) (suc j) (omega arith))) refl
        (ap (λ z. z *ℤ neg_ℤ (pos x.den) *ℤ pos 1) e ∙ solve₂ ℤ_ring (λ s d. :neg s :* :neg d :* lit 1 ≋ lit 1 :* (d :* s)) tt (pos (suc j)) (pos x.den))

pub inv-zero : invℚ 0ℚ ≡ 0ℚ
unfolding invℚ
inv-zero = refl

abbrev pub ℚ_inverses : Inverses ℚ_ring
ℚ_inverses = record { inv = invℚ; mul-inv = mul-inv; inv-zero = inv-zero }
