-- Identities of commutative rings by computation. An expression is put into a sum of monomials with whole coefficients,
-- and the two sides of an identity are equal where the coefficients of their difference are all zero. Assumes nothing.
use Rattle.std.proofs.Common.{◌≡◌, ℕ, zero, suc, ◌+◌, ◌*◌, Bool, true, ◌&&◌, T, eqb, List, [], ◌∷◌, sym, refl, ap, ◌∙◌, subst, ap₂, eqb→eq}
use mathlib.Core.Path.{◌≡⟨◌⟩◌, ◌∎}
use Prim.Native.Nat.{compare, Ordering}
use native.Mathlib.Nat as NatL
use lib.Dec.{compare_is_eq}
use Rattle.algebra.specs.Ring.{Ring}
use Rattle.algebra.proofs.Booleans.{and_split}

infixl 30 ◌≋◌
infixl 60 ◌:+◌
infixl 60 ◌:-◌
infixl 70 ◌:*◌
pub data Expr : Type 0 where
  var : ℕ → Expr
  lit : ℕ → Expr
  ◌:+◌ : Expr → Expr → Expr
  ◌:*◌ : Expr → Expr → Expr
  :neg : Expr → Expr

abbrev pub ◌:-◌ : Expr → Expr → Expr
x :- y = x :+ :neg y

-- a monomial: the exponent of each variable, from the first on
abbrev pub Mono : Type 0
Mono = List ℕ

-- a sum of terms (plus − minus)·mono, in falling order of mono
pub data Poly : Type 0 where
  nil : Poly
  term : ℕ → ℕ → Mono → Poly → Poly

abbrev pub cmp : Mono → Mono → Ordering
cmp [] [] = Ordering.eq
cmp [] (y ∷ ys) = Ordering.lt
cmp (x ∷ xs) [] = Ordering.gt
cmp (x ∷ xs) (y ∷ ys) = elim (compare x y) [ Ordering.lt ↦ Ordering.lt | Ordering.eq ↦ cmp xs ys | Ordering.gt ↦ Ordering.gt ]

abbrev pub times : Mono → Mono → Mono
times [] ys = ys
times (x ∷ xs) [] = x ∷ xs
times (x ∷ xs) (y ∷ ys) = (x + y) ∷ times xs ys

abbrev pub only : ℕ → Mono
only zero = 1 ∷ []
only (suc i) = 0 ∷ only i

abbrev pub insert : ℕ → ℕ → Mono → Poly → Poly
insert p n m nil = term p n m nil
insert p n m (term p' n' m' q) = elim (cmp m m') [
  | Ordering.gt ↦ term p n m (term p' n' m' q)
  | Ordering.eq ↦ term (p + p') (n + n') m q
  | Ordering.lt ↦ term p' n' m' (insert p n m q)
]

abbrev pub plus : Poly → Poly → Poly
plus nil q = q
plus (term p n m r) q = insert p n m (plus r q)

abbrev pub scale : ℕ → ℕ → Mono → Poly → Poly
scale p n m nil = nil
scale p n m (term p' n' m' q) = term (p * p' + n * n') (p * n' + n * p') (times m m') (scale p n m q)

abbrev pub product : Poly → Poly → Poly
product nil q = nil
product (term p n m r) q = plus (scale p n m q) (product r q)

abbrev pub minus : Poly → Poly
minus nil = nil
minus (term p n m q) = term n p m (minus q)

abbrev pub norm : Expr → Poly
norm (var i) = term 1 0 (only i) nil
norm (lit n) = term n 0 [] nil
norm (x :+ y) = plus (norm x) (norm y)
norm (x :* y) = product (norm x) (norm y)
norm (:neg x) = minus (norm x)

abbrev pub none : Poly → Bool
none nil = true
none (term p n m q) = eqb p n && none q

-- the two sides of an identity
pub data Eqn : Type 0 where
  ◌≋◌ : Expr → Expr → Eqn

abbrev pub holds : Eqn → Bool
holds (x ≋ y) = none (norm (x :- y))

cmp_eq : (xs ys : Mono) → T (compare_is_eq (cmp xs ys)) → xs ≡ ys
cmp_eq [] [] t = refl
cmp_eq [] (y ∷ ys) t = elim t [ ]
cmp_eq (x ∷ xs) [] t = elim t [ ]
cmp_eq (x ∷ xs) (y ∷ ys) t = go (compare x y) refl t (cmp_eq xs ys)
  where
    go : (o : Ordering) → compare x y ≡ o → T (compare_is_eq (elim o [ Ordering.lt ↦ Ordering.lt | Ordering.eq ↦ cmp xs ys | Ordering.gt ↦ Ordering.gt ])) → (T (compare_is_eq (cmp xs ys)) → xs ≡ ys) → x ∷ xs ≡ y ∷ ys
    go Ordering.lt e t ih = elim t [ ]
    go Ordering.eq e t ih = ap₂ ◌∷◌ (eqb→eq x y (subst (λ (o : Ordering). T (compare_is_eq o)) (sym e) tt)) (ih t)
    go Ordering.gt e t ih = elim t [ ]

module _ (R : Ring) where
  open R use {car, zero as 𝟘, one as 𝟙, add as ◌⊕◌, mul as ◌⊗◌, neg as ⊖, nat, add_comm, add_assoc, add-zero, add-neg, mul_comm, mul_assoc, mul-one, mul-add, nat_zero, nat_suc}

  infixl 60 ◌⊕◌
  infixl 70 ◌⊗◌
  abbrev pub eval : Expr → (ℕ → car) → car
  eval (var i) ρ = ρ i
  eval (lit n) ρ = nat n
  eval (x :+ y) ρ = eval x ρ ⊕ eval y ρ
  eval (x :* y) ρ = eval x ρ ⊗ eval y ρ
  eval (:neg x) ρ = ⊖ (eval x ρ)

  -- ---- what the laws give
  zero-add : (x : car) → 𝟘 ⊕ x ≡ x
  zero-add x = add_comm 𝟘 x ∙ add-zero x

  add_swap : (a b c d : car) → (a ⊕ b) ⊕ (c ⊕ d) ≡ (a ⊕ c) ⊕ (b ⊕ d)
  add_swap a b c d =
      add_assoc a b (c ⊕ d) ∙ ap (λ x. a ⊕ x) (sym (add_assoc b c d) ∙ ap (λ x. x ⊕ d) (add_comm b c) ∙ add_assoc c b d) ∙ sym (add_assoc a c (b ⊕ d))

  mul_swap : (a b c d : car) → (a ⊗ b) ⊗ (c ⊗ d) ≡ (a ⊗ c) ⊗ (b ⊗ d)
  mul_swap a b c d =
      mul_assoc a b (c ⊗ d) ∙ ap (λ x. a ⊗ x) (sym (mul_assoc b c d) ∙ ap (λ x. x ⊗ d) (mul_comm b c) ∙ mul_assoc c b d) ∙ sym (mul_assoc a c (b ⊗ d))

  unique : (a b : car) → a ⊕ b ≡ 𝟘 → b ≡ ⊖ a
  unique a b e =
      sym (zero-add b) ∙ ap (λ x. x ⊕ b) (sym (add_comm (⊖ a) a ∙ add-neg a)) ∙ add_assoc (⊖ a) a b ∙ ap (λ x. ⊖ a ⊕ x) e ∙ add-zero (⊖ a)

  mul-zero : (x : car) → x ⊗ 𝟘 ≡ 𝟘
  mul-zero x =
      let z : car = x ⊗ 𝟘 in
      let twice : z ⊕ z ≡ z = sym (mul-add x 𝟘 𝟘) ∙ ap (λ y. x ⊗ y) (add-zero 𝟘) in
      sym (add-zero z) ∙ ap (λ y. z ⊕ y) (sym (add-neg z)) ∙ sym (add_assoc z z (⊖ z)) ∙ ap (λ y. y ⊕ ⊖ z) twice ∙ add-neg z

  neg-add : (a b : car) → ⊖ (a ⊕ b) ≡ ⊖ a ⊕ ⊖ b
  neg-add a b = sym (unique (a ⊕ b) (⊖ a ⊕ ⊖ b) (add_swap a b (⊖ a) (⊖ b) ∙ ap₂ ◌⊕◌ (add-neg a) (add-neg b) ∙ add-zero 𝟘))

  neg-neg : (a : car) → ⊖ (⊖ a) ≡ a
  neg-neg a = sym (unique (⊖ a) a (add_comm (⊖ a) a ∙ add-neg a))

  pub neg-zero : ⊖ 𝟘 ≡ 𝟘
  neg-zero = sym (unique 𝟘 𝟘 (add-zero 𝟘))

  mul-neg : (a b : car) → a ⊗ ⊖ b ≡ ⊖ (a ⊗ b)
  mul-neg a b = unique (a ⊗ b) (a ⊗ ⊖ b) (sym (mul-add a b (⊖ b)) ∙ ap (λ x. a ⊗ x) (add-neg b) ∙ mul-zero a)

  neg-mul : (a b : car) → ⊖ a ⊗ b ≡ ⊖ (a ⊗ b)
  neg-mul a b = mul_comm (⊖ a) b ∙ mul-neg b a ∙ ap ⊖ (mul_comm b a)

  add-mul : (a b c : car) → (a ⊕ b) ⊗ c ≡ a ⊗ c ⊕ b ⊗ c
  add-mul a b c = mul_comm (a ⊕ b) c ∙ mul-add c a b ∙ ap₂ ◌⊕◌ (mul_comm c a) (mul_comm c b)

  nat_add : (m n : ℕ) → nat (m + n) ≡ nat m ⊕ nat n
  nat_add m zero = ap nat (NatL.add-zero m) ∙ sym (add-zero (nat m)) ∙ ap (λ x. nat m ⊕ x) (sym nat_zero)
  nat_add m (suc n) =
      ap nat (NatL.add-suc m n) ∙ nat_suc (m + n) ∙ ap (λ x. x ⊕ 𝟙) (nat_add m n) ∙ add_assoc (nat m) (nat n) 𝟙 ∙ ap (λ x. nat m ⊕ x) (sym (nat_suc n))

  nat_mul : (m n : ℕ) → nat (m * n) ≡ nat m ⊗ nat n
  nat_mul m zero = ap nat (NatL.mul-zero m) ∙ nat_zero ∙ sym (mul-zero (nat m)) ∙ ap (λ x. nat m ⊗ x) (sym nat_zero)
  nat_mul m (suc n) =
      ap nat (NatL.mul-suc m n) ∙ nat_add (m * n) m ∙ ap₂ ◌⊕◌ (nat_mul m n) (sym (mul-one (nat m))) ∙ sym (mul-add (nat m) (nat n) 𝟙) ∙ ap (λ x. nat m ⊗ x) (sym (nat_suc n))

  nat_one : nat 1 ≡ 𝟙
  nat_one = nat_suc 0 ∙ ap (λ x. x ⊕ 𝟙) nat_zero ∙ zero-add 𝟙

  -- ---- the meaning of a sum of monomials
  abbrev coef : ℕ → ℕ → car
  coef p n = nat p ⊕ ⊖ (nat n)

  coef_add : (p n p' n' : ℕ) → coef (p + p') (n + n') ≡ coef p n ⊕ coef p' n'
  coef_add p n p' n' = ap₂ (λ x y. x ⊕ ⊖ y) (nat_add p p') (nat_add n n') ∙ ap (λ x. (nat p ⊕ nat p') ⊕ x) (neg-add (nat n) (nat n')) ∙ add_swap (nat p) (nat p') (⊖ (nat n)) (⊖ (nat n'))

  nat_sum : (a b c d : ℕ) → nat (a * b + c * d) ≡ nat a ⊗ nat b ⊕ nat c ⊗ nat d
  nat_sum a b c d = nat_add (a * b) (c * d) ∙ ap₂ ◌⊕◌ (nat_mul a b) (nat_mul c d)

  spread : (a b c d : car) → (a ⊕ ⊖ b) ⊗ (c ⊕ ⊖ d) ≡ (a ⊗ c ⊕ b ⊗ d) ⊕ ⊖ (a ⊗ d ⊕ b ⊗ c)
  spread a b c d =
      (a ⊕ ⊖ b) ⊗ (c ⊕ ⊖ d) ≡⟨ add-mul a (⊖ b) (c ⊕ ⊖ d) ∙ ap₂ ◌⊕◌ (mul-add a c (⊖ d)) (mul-add (⊖ b) c (⊖ d)) ⟩
      (a ⊗ c ⊕ a ⊗ ⊖ d) ⊕ (⊖ b ⊗ c ⊕ ⊖ b ⊗ ⊖ d) ≡⟨ ap₂ ◌⊕◌ (ap (λ x. a ⊗ c ⊕ x) (mul-neg a d)) (ap₂ ◌⊕◌ (neg-mul b c) (neg-mul b (⊖ d) ∙ ap ⊖ (mul-neg b d) ∙ neg-neg (b ⊗ d)) ∙ add_comm (⊖ (b ⊗ c)) (b ⊗ d)) ⟩
      (a ⊗ c ⊕ ⊖ (a ⊗ d)) ⊕ (b ⊗ d ⊕ ⊖ (b ⊗ c)) ≡⟨ add_swap (a ⊗ c) (⊖ (a ⊗ d)) (b ⊗ d) (⊖ (b ⊗ c)) ∙ ap (λ x. (a ⊗ c ⊕ b ⊗ d) ⊕ x) (sym (neg-add (a ⊗ d) (b ⊗ c))) ⟩
      (a ⊗ c ⊕ b ⊗ d) ⊕ ⊖ (a ⊗ d ⊕ b ⊗ c) ∎

  coef_mul : (p n p' n' : ℕ) → coef (p * p' + n * n') (p * n' + n * p') ≡ coef p n ⊗ coef p' n'
  coef_mul p n p' n' = ap₂ (λ x y. x ⊕ ⊖ y) (nat_sum p p' n n') (nat_sum p n' n p') ∙ sym (spread (nat p) (nat n) (nat p') (nat n'))

  coef_neg : (p n : ℕ) → coef n p ≡ ⊖ (coef p n)
  coef_neg p n = sym (neg-add (nat p) (⊖ (nat n)) ∙ ap (λ x. ⊖ (nat p) ⊕ x) (neg-neg (nat n)) ∙ add_comm (⊖ (nat p)) (nat n))

  abbrev power : car → ℕ → car
  power r zero = 𝟙
  power r (suc n) = r ⊗ power r n

  power_add : (r : car) (m n : ℕ) → power r (m + n) ≡ power r m ⊗ power r n
  power_add r zero n = ap (power r) (NatL.zero-add n) ∙ sym (mul_comm 𝟙 (power r n) ∙ mul-one (power r n))
  power_add r (suc m) n = ap (power r) (NatL.suc-add m n) ∙ ap (λ x. r ⊗ x) (power_add r m n) ∙ sym (mul_assoc r (power r m) (power r n))

  abbrev mono : Mono → (ℕ → car) → car
  mono [] ρ = 𝟙
  mono (e ∷ es) ρ = power (ρ 0) e ⊗ mono es (λ n. ρ (suc n))

  one-mul : (x : car) → 𝟙 ⊗ x ≡ x
  one-mul x = mul_comm 𝟙 x ∙ mul-one x

  times_is : (a b : Mono) (ρ : ℕ → car) → mono (times a b) ρ ≡ mono a ρ ⊗ mono b ρ
  times_is [] b ρ = sym (one-mul (mono b ρ))
  times_is (x ∷ a) [] ρ = sym (mul-one (mono (x ∷ a) ρ))
  times_is (x ∷ a) (y ∷ b) ρ =
      ap₂ ◌⊗◌ (power_add (ρ 0) x y) (times_is a b (λ n. ρ (suc n))) ∙ mul_swap (power (ρ 0) x) (power (ρ 0) y) (mono a (λ n. ρ (suc n))) (mono b (λ n. ρ (suc n)))

  only_is : (i : ℕ) (ρ : ℕ → car) → mono (only i) ρ ≡ ρ i
  only_is zero ρ = mul-one (ρ 0 ⊗ 𝟙) ∙ mul-one (ρ 0)
  only_is (suc i) ρ = one-mul (mono (only i) (λ n. ρ (suc n))) ∙ only_is i (λ n. ρ (suc n))

  abbrev poly : Poly → (ℕ → car) → car
  poly nil ρ = 𝟘
  poly (term p n m q) ρ = coef p n ⊗ mono m ρ ⊕ poly q ρ

  insert_is : (p n : ℕ) (m : Mono) (q : Poly) (ρ : ℕ → car) → poly (insert p n m q) ρ ≡ coef p n ⊗ mono m ρ ⊕ poly q ρ
  insert_is p n m nil ρ = refl
  insert_is p n m (term p' n' m' q) ρ = go (cmp m m') refl (insert_is p n m q ρ)
    where
      here : car
      here = coef p n ⊗ mono m ρ

      go : (o : Ordering) → cmp m m' ≡ o → poly (insert p n m q) ρ ≡ coef p n ⊗ mono m ρ ⊕ poly q ρ → poly (elim o [ Ordering.gt ↦ term p n m (term p' n' m' q) | Ordering.eq ↦ term (p + p') (n + n') m q | Ordering.lt ↦ term p' n' m' (insert p n m q) ]) ρ ≡ coef p n ⊗ mono m ρ ⊕ (coef p' n' ⊗ mono m' ρ ⊕ poly q ρ)
      go Ordering.gt e ih = refl
      go Ordering.eq e ih =
          ap (λ x. x ⊕ poly q ρ) (ap (λ x. x ⊗ mono m ρ) (coef_add p n p' n') ∙ add-mul (coef p n) (coef p' n') (mono m ρ))
          ∙ add_assoc (coef p n ⊗ mono m ρ) (coef p' n' ⊗ mono m ρ) (poly q ρ)
          ∙ ap (λ (x : Mono). coef p n ⊗ mono m ρ ⊕ (coef p' n' ⊗ mono x ρ ⊕ poly q ρ)) (cmp_eq m m' (subst (λ (o : Ordering). T (compare_is_eq o)) (sym e) tt))
      go Ordering.lt e ih =
          ap (λ x. coef p' n' ⊗ mono m' ρ ⊕ x) ih ∙ sym (add_assoc (coef p' n' ⊗ mono m' ρ) (coef p n ⊗ mono m ρ) (poly q ρ))
          ∙ ap (λ x. x ⊕ poly q ρ) (add_comm (coef p' n' ⊗ mono m' ρ) (coef p n ⊗ mono m ρ)) ∙ add_assoc (coef p n ⊗ mono m ρ) (coef p' n' ⊗ mono m' ρ) (poly q ρ)

  plus_is : (a b : Poly) (ρ : ℕ → car) → poly (plus a b) ρ ≡ poly a ρ ⊕ poly b ρ
  plus_is nil b ρ = sym (zero-add (poly b ρ))
  plus_is (term p n m a) b ρ =
      insert_is p n m (plus a b) ρ ∙ ap (λ x. coef p n ⊗ mono m ρ ⊕ x) (plus_is a b ρ) ∙ sym (add_assoc (coef p n ⊗ mono m ρ) (poly a ρ) (poly b ρ))

  scale_is : (p n : ℕ) (m : Mono) (q : Poly) (ρ : ℕ → car) → poly (scale p n m q) ρ ≡ (coef p n ⊗ mono m ρ) ⊗ poly q ρ
  scale_is p n m nil ρ = sym (mul-zero (coef p n ⊗ mono m ρ))
  scale_is p n m (term p' n' m' q) ρ =
      ap₂ ◌⊕◌ (ap₂ ◌⊗◌ (coef_mul p n p' n') (times_is m m' ρ) ∙ mul_swap (coef p n) (coef p' n') (mono m ρ) (mono m' ρ)) (scale_is p n m q ρ)
      ∙ sym (mul-add (coef p n ⊗ mono m ρ) (coef p' n' ⊗ mono m' ρ) (poly q ρ))

  product_is : (a b : Poly) (ρ : ℕ → car) → poly (product a b) ρ ≡ poly a ρ ⊗ poly b ρ
  product_is nil b ρ = sym (mul_comm 𝟘 (poly b ρ) ∙ mul-zero (poly b ρ))
  product_is (term p n m a) b ρ =
      plus_is (scale p n m b) (product a b) ρ ∙ ap₂ ◌⊕◌ (scale_is p n m b ρ) (product_is a b ρ) ∙ sym (add-mul (coef p n ⊗ mono m ρ) (poly a ρ) (poly b ρ))

  minus_is : (a : Poly) (ρ : ℕ → car) → poly (minus a) ρ ≡ ⊖ (poly a ρ)
  minus_is nil ρ = sym neg-zero
  minus_is (term p n m a) ρ =
      ap₂ ◌⊕◌ (ap (λ x. x ⊗ mono m ρ) (coef_neg p n) ∙ neg-mul (coef p n) (mono m ρ)) (minus_is a ρ) ∙ sym (neg-add (coef p n ⊗ mono m ρ) (poly a ρ))

  coef_nat : (n : ℕ) → coef n 0 ≡ nat n
  coef_nat n = ap (λ x. nat n ⊕ ⊖ x) nat_zero ∙ ap (λ x. nat n ⊕ x) neg-zero ∙ add-zero (nat n)

  norm_is : (e : Expr) (ρ : ℕ → car) → poly (norm e) ρ ≡ eval e ρ
  norm_is (var i) ρ = add-zero (coef 1 0 ⊗ mono (only i) ρ) ∙ ap₂ ◌⊗◌ (coef_nat 1 ∙ nat_one) (only_is i ρ) ∙ one-mul (ρ i)
  norm_is (lit n) ρ = add-zero (coef n 0 ⊗ 𝟙) ∙ mul-one (coef n 0) ∙ coef_nat n
  norm_is (x :+ y) ρ = plus_is (norm x) (norm y) ρ ∙ ap₂ ◌⊕◌ (norm_is x ρ) (norm_is y ρ)
  norm_is (x :* y) ρ = product_is (norm x) (norm y) ρ ∙ ap₂ ◌⊗◌ (norm_is x ρ) (norm_is y ρ)
  norm_is (:neg x) ρ = minus_is (norm x) ρ ∙ ap ⊖ (norm_is x ρ)

  none_is : (a : Poly) (ρ : ℕ → car) → T (none a) → poly a ρ ≡ 𝟘
  none_is nil ρ t = refl
  none_is (term p n m a) ρ t =
      let both : T (eqb p n) × T (none a) = and_split (eqb p n) (none a) t in
      ap₂ (λ x y. x ⊗ mono m ρ ⊕ y) (ap (λ x. nat x ⊕ ⊖ (nat n)) (eqb→eq p n both.0) ∙ add-neg (nat n)) (none_is a ρ both.1)
      ∙ add-zero (𝟘 ⊗ mono m ρ) ∙ mul_comm 𝟘 (mono m ρ) ∙ mul-zero (mono m ρ)

  -- equal where the difference is zero
  pub equal : (a b : car) → a ⊕ ⊖ b ≡ 𝟘 → a ≡ b
  equal a b e = sym (add-zero a) ∙ ap (λ x. a ⊕ x) (sym (add_comm (⊖ b) b ∙ add-neg b)) ∙ sym (add_assoc a (⊖ b) b) ∙ ap (λ x. x ⊕ b) e ∙ zero-add b

  abbrev pub Says : Eqn → (ℕ → car) → Type 0
  Says (x ≋ y) ρ = eval x ρ ≡ eval y ρ

  pub sound : (q : Eqn) → T (holds q) → (ρ : ℕ → car) → Says q ρ
  sound (x ≋ y) t ρ = equal (eval x ρ) (eval y ρ) (sym (norm_is (x :- y) ρ) ∙ none_is (norm (x :- y)) ρ t)

  abbrev pub look : List car → ℕ → car
  look [] i = 𝟘
  look (x ∷ xs) zero = x
  look (x ∷ xs) (suc i) = look xs i

  pub solve₁ : (f : Expr → Eqn) → T (holds (f (var 0))) → (a : car) → Says (f (var 0)) (look (a ∷ []))
  solve₁ f t a = sound (f (var 0)) t (look (a ∷ []))

  pub solve₂ : (f : Expr → Expr → Eqn) → T (holds (f (var 0) (var 1))) → (a b : car) → Says (f (var 0) (var 1)) (look (a ∷ b ∷ []))
  solve₂ f t a b = sound (f (var 0) (var 1)) t (look (a ∷ b ∷ []))

  pub solve₃ : (f : Expr → Expr → Expr → Eqn) → T (holds (f (var 0) (var 1) (var 2))) → (a b c : car) → Says (f (var 0) (var 1) (var 2)) (look (a ∷ b ∷ c ∷ []))
  solve₃ f t a b c = sound (f (var 0) (var 1) (var 2)) t (look (a ∷ b ∷ c ∷ []))

  pub solve₄ : (f : Expr → Expr → Expr → Expr → Eqn) → T (holds (f (var 0) (var 1) (var 2) (var 3))) → (a b c d : car) → Says (f (var 0) (var 1) (var 2) (var 3)) (look (a ∷ b ∷ c ∷ d ∷ []))
  solve₄ f t a b c d = sound (f (var 0) (var 1) (var 2) (var 3)) t (look (a ∷ b ∷ c ∷ d ∷ []))

  -- ---- an equation from others: x − y is a combination of their differences
  gone : (c a b : car) → a ≡ b → c ⊗ (a ⊕ ⊖ b) ≡ 𝟘
  gone c a b e = ap (λ x. c ⊗ (x ⊕ ⊖ b)) e ∙ ap (λ x. c ⊗ x) (add-neg b) ∙ mul-zero c

  pub from₁ : (x y c a b : car) → a ≡ b → x ⊕ ⊖ y ≡ c ⊗ (a ⊕ ⊖ b) → x ≡ y
  from₁ x y c a b e h = equal x y (h ∙ gone c a b e)

  pub from₂ : (x y c a b c' a' b' : car) → a ≡ b → a' ≡ b' → x ⊕ ⊖ y ≡ c ⊗ (a ⊕ ⊖ b) ⊕ c' ⊗ (a' ⊕ ⊖ b') → x ≡ y
  from₂ x y c a b c' a' b' e e' h = equal x y (h ∙ ap₂ ◌⊕◌ (gone c a b e) (gone c' a' b' e') ∙ add-zero 𝟘)

  pub mul_nil : (x : car) → x ⊗ 𝟘 ≡ 𝟘
  mul_nil x = mul-zero x

  pub from₃ : (x y c a b c' a' b' c'' a'' b'' : car) → a ≡ b → a' ≡ b' → a'' ≡ b'' → x ⊕ ⊖ y ≡ c ⊗ (a ⊕ ⊖ b) ⊕ c' ⊗ (a' ⊕ ⊖ b') ⊕ c'' ⊗ (a'' ⊕ ⊖ b'') → x ≡ y
  from₃ x y c a b c' a' b' c'' a'' b'' e e' e'' h =
      equal x y (h ∙ ap₂ ◌⊕◌ (ap₂ ◌⊕◌ (gone c a b e) (gone c' a' b' e')) (gone c'' a'' b'' e'') ∙ add-zero (𝟘 ⊕ 𝟘) ∙ add-zero 𝟘)

  pub solve₅ : (f : Expr → Expr → Expr → Expr → Expr → Eqn) → T (holds (f (var 0) (var 1) (var 2) (var 3) (var 4))) → (a b c d e : car) → Says (f (var 0) (var 1) (var 2) (var 3) (var 4)) (look (a ∷ b ∷ c ∷ d ∷ e ∷ []))
  solve₅ f t a b c d e = sound (f (var 0) (var 1) (var 2) (var 3) (var 4)) t (look (a ∷ b ∷ c ∷ d ∷ e ∷ []))

  pub solve₆ : (f : Expr → Expr → Expr → Expr → Expr → Expr → Eqn) → T (holds (f (var 0) (var 1) (var 2) (var 3) (var 4) (var 5))) → (a b c d e g : car) → Says (f (var 0) (var 1) (var 2) (var 3) (var 4) (var 5)) (look (a ∷ b ∷ c ∷ d ∷ e ∷ g ∷ []))
  solve₆ f t a b c d e g = sound (f (var 0) (var 1) (var 2) (var 3) (var 4) (var 5)) t (look (a ∷ b ∷ c ∷ d ∷ e ∷ g ∷ []))

  pub solve₇ : (f : Expr → Expr → Expr → Expr → Expr → Expr → Expr → Eqn) → T (holds (f (var 0) (var 1) (var 2) (var 3) (var 4) (var 5) (var 6))) → (a b c d e g h : car) → Says (f (var 0) (var 1) (var 2) (var 3) (var 4) (var 5) (var 6)) (look (a ∷ b ∷ c ∷ d ∷ e ∷ g ∷ h ∷ []))
  solve₇ f t a b c d e g h = sound (f (var 0) (var 1) (var 2) (var 3) (var 4) (var 5) (var 6)) t (look (a ∷ b ∷ c ∷ d ∷ e ∷ g ∷ h ∷ []))

  pub solve₈ : (f : Expr → Expr → Expr → Expr → Expr → Expr → Expr → Expr → Eqn) → T (holds (f (var 0) (var 1) (var 2) (var 3) (var 4) (var 5) (var 6) (var 7))) → (a b c d e g h k : car) → Says (f (var 0) (var 1) (var 2) (var 3) (var 4) (var 5) (var 6) (var 7)) (look (a ∷ b ∷ c ∷ d ∷ e ∷ g ∷ h ∷ k ∷ []))
  solve₈ f t a b c d e g h k = sound (f (var 0) (var 1) (var 2) (var 3) (var 4) (var 5) (var 6) (var 7)) t (look (a ∷ b ∷ c ∷ d ∷ e ∷ g ∷ h ∷ k ∷ []))
