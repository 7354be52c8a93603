-- Two ways to make a commutative ring: pairs a + b√d over a ring, and a type with a map into a ring that loses nothing. Assumes nothing.
use Rattle.std.proofs.Common.{◌≡◌, ℕ, suc, sym, ap, ◌∙◌, ap₂}
use Rattle.algebra.specs.Ring.{Ring}
use Rattle.algebra.proofs.RingSolver.{◌:+◌, ◌:*◌, ◌≋◌, mul_nil, solve₄, solve₅, solve₆, solve₇}

module _ (R : Ring) (d : R.car) where
  open R use {car, zero as 𝟘, one as 𝟙, nat, add as ◌⊕◌, mul as ◌⊗◌, neg as ⊖, add-neg, add-zero, add_assoc, mul_comm, mul-one, add_comm, nat_zero, nat_suc}

  infixl 60 ◌⊕◌
  infixl 70 ◌⊗◌
  pub by_one : (a b : car) → (a ⊗ 𝟙 ⊕ d ⊗ (b ⊗ 𝟘) ≡ a) × (a ⊗ 𝟘 ⊕ b ⊗ 𝟙 ≡ b)
  by_one a b = (
    ap₂ ◌⊕◌ (mul-one a) (ap (λ z. d ⊗ z) (mul_nil R b) ∙ mul_nil R d) ∙ add-zero a,
    ap₂ ◌⊕◌ (mul_nil R a) (mul-one b) ∙ add_comm 𝟘 b ∙ add-zero b,
  )

  abbrev pub pairs : Ring
  pairs = record {
    car = car × car;
    zero = (𝟘, 𝟘);
    one = (𝟙, 𝟘);
    add = λ x y. (x.0 ⊕ y.0, x.1 ⊕ y.1);
    neg = λ x. (⊖ x.0, ⊖ x.1);
    mul = λ x y. (x.0 ⊗ y.0 ⊕ d ⊗ (x.1 ⊗ y.1), x.0 ⊗ y.1 ⊕ x.1 ⊗ y.0);
    nat = λ n. (nat n, 𝟘);
    add_comm = λ x y i. (add_comm x.0 y.0 i, add_comm x.1 y.1 i);
    add_assoc = λ x y z i. (add_assoc x.0 y.0 z.0 i, add_assoc x.1 y.1 z.1 i);
    add-zero = λ x i. (add-zero x.0 i, add-zero x.1 i);
    add-neg = λ x i. (add-neg x.0 i, add-neg x.1 i);
    mul_comm = λ x y i. (
      solve₅ R (λ a b p q d. a :* p :+ d :* (b :* q) ≋ p :* a :+ d :* (q :* b)) tt x.0 x.1 y.0 y.1 d i,
      solve₄ R (λ a b p q. a :* q :+ b :* p ≋ p :* b :+ q :* a) tt x.0 x.1 y.0 y.1 i,
    );
    mul_assoc = λ x y z i. (
      solve₇ R (λ a b p q u v d. (a :* p :+ d :* (b :* q)) :* u :+ d :* ((a :* q :+ b :* p) :* v) ≋ a :* (p :* u :+ d :* (q :* v)) :+ d :* (b :* (p :* v :+ q :* u))) tt x.0 x.1 y.0 y.1 z.0 z.1 d i,
      solve₇ R (λ a b p q u v d. (a :* p :+ d :* (b :* q)) :* v :+ (a :* q :+ b :* p) :* u ≋ a :* (p :* v :+ q :* u) :+ b :* (p :* u :+ d :* (q :* v))) tt x.0 x.1 y.0 y.1 z.0 z.1 d i,
    );
    mul-one = λ x i. ((by_one x.0 x.1).0 i, (by_one x.0 x.1).1 i);
    mul-add = λ x y z i. (
      solve₇ R (λ a b p q u v d. a :* (p :+ u) :+ d :* (b :* (q :+ v)) ≋ a :* p :+ d :* (b :* q) :+ (a :* u :+ d :* (b :* v))) tt x.0 x.1 y.0 y.1 z.0 z.1 d i,
      solve₆ R (λ a b p q u v. a :* (q :+ v) :+ b :* (p :+ u) ≋ a :* q :+ b :* p :+ (a :* v :+ b :* u)) tt x.0 x.1 y.0 y.1 z.0 z.1 i,
    );
    nat_zero = λ i. (nat_zero i, 𝟘);
    nat_suc = λ n i. (nat_suc n i, sym (add-zero 𝟘) i);
  }

module _ (S : Ring) (A : Type 0) (z o : A) (add : A → A → A) (neg : A → A) (mul : A → A → A) (nat : ℕ → A)
    (φ : A → S.car) (inj : (x y : A) → φ x ≡ φ y → x ≡ y)
    (φz : φ z ≡ S.zero) (φo : φ o ≡ S.one) (φadd : (x y : A) → φ (add x y) ≡ S.add (φ x) (φ y)) (φneg : (x : A) → φ (neg x) ≡ S.neg (φ x))
    (φmul : (x y : A) → φ (mul x y) ≡ S.mul (φ x) (φ y)) (φnat : (n : ℕ) → φ (nat n) ≡ S.nat n) where
  abbrev pub within : Ring
  within = record {
    car = A;
    zero = z;
    one = o;
    add = add;
    neg = neg;
    mul = mul;
    nat = nat;
    add_comm = λ x y. inj _ _ (φadd x y ∙ S.add_comm (φ x) (φ y) ∙ sym (φadd y x));
    add_assoc = λ x y w. inj _ _ (φadd (add x y) w ∙ ap (λ u. S.add u (φ w)) (φadd x y) ∙ S.add_assoc (φ x) (φ y) (φ w) ∙ ap (S.add (φ x)) (sym (φadd y w)) ∙ sym (φadd x (add y w)));
    add-zero = λ x. inj _ _ (φadd x z ∙ ap (S.add (φ x)) φz ∙ S.add-zero (φ x));
    add-neg = λ x. inj _ _ (φadd x (neg x) ∙ ap (S.add (φ x)) (φneg x) ∙ S.add-neg (φ x) ∙ sym φz);
    mul_comm = λ x y. inj _ _ (φmul x y ∙ S.mul_comm (φ x) (φ y) ∙ sym (φmul y x));
    mul_assoc = λ x y w. inj _ _ (φmul (mul x y) w ∙ ap (λ u. S.mul u (φ w)) (φmul x y) ∙ S.mul_assoc (φ x) (φ y) (φ w) ∙ ap (S.mul (φ x)) (sym (φmul y w)) ∙ sym (φmul x (mul y w)));
    mul-one = λ x. inj _ _ (φmul x o ∙ ap (S.mul (φ x)) φo ∙ S.mul-one (φ x));
    mul-add = λ x y w. inj _ _ (φmul x (add y w) ∙ ap (S.mul (φ x)) (φadd y w) ∙ S.mul-add (φ x) (φ y) (φ w) ∙ sym (φadd (mul x y) (mul x w) ∙ ap₂ S.add (φmul x y) (φmul x w)));
    nat_zero = inj _ _ (φnat 0 ∙ S.nat_zero ∙ sym φz);
    nat_suc = λ n. inj _ _ (φnat (suc n) ∙ S.nat_suc n ∙ sym (φadd (nat n) o ∙ ap₂ S.add (φnat n) φo));
  }
