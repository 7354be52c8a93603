-- What follows in every ordered commutative ring. Assumes nothing.
use Rattle.std.proofs.Common.{◌≡◌, ◌≢◌, ◌⊎◌, sym, ap, ◌∙◌, subst, inl, inr}
use Rattle.algebra.specs.Ring.{Ring, Ordered}
use Rattle.algebra.proofs.RingSolver.{◌:+◌, ◌:*◌, ◌:-◌, :neg, ◌≋◌, equal, mul_nil, neg-zero, solve₁, solve₂, solve₃}

module _ (R : Ring) (O : Ordered R) where
  open R use {car, zero as 𝟘, one as 𝟙, add as ◌⊕◌, mul as ◌⊗◌, neg as ⊖, add-neg, add-zero, mul_comm}
  open O use {Pos, tri, not_zero, pos_add, pos_mul}

  infixl 60 ◌⊕◌
  infixl 70 ◌⊗◌
  pub pos_ne : (x : car) → Pos x → x ≢ 𝟘
  pos_ne x h e = not_zero (subst Pos e h)

  pub not_both : (x : car) → Pos x → Pos (⊖ x) → ⊥
  not_both x h k = not_zero (subst Pos (add-neg x) (pos_add x (⊖ x) h k))

  -- a square of a number other than 0 is positive
  pub square_pos : (x : car) → x ≢ 𝟘 → Pos (x ⊗ x)
  square_pos x n = elim (tri x) [
    | inl h ↦ pos_mul x x h h
    | inr (inl e) ↦ absurd (n e)
    | inr (inr h) ↦ subst Pos (solve₁ R (λ a. :neg a :* :neg a ≋ a :* a) tt x) (pos_mul (⊖ x) (⊖ x) h h)
  ]

  abbrev pub Nonneg : car → Type 0
  Nonneg x = Pos x ⊎ (x ≡ 𝟘)

  pub square_nonneg : (x : car) → Nonneg (x ⊗ x)
  square_nonneg x = elim (tri x) [
    | inl h ↦ inl (pos_mul x x h h)
    | inr (inl e) ↦ inr (ap (λ y. x ⊗ y) e ∙ mul_nil R x)
    | inr (inr h) ↦ inl (subst Pos (solve₁ R (λ a. :neg a :* :neg a ≋ a :* a) tt x) (pos_mul (⊖ x) (⊖ x) h h))
  ]

  pub nonneg_mul : (x y : car) → Nonneg x → Nonneg y → Nonneg (x ⊗ y)
  nonneg_mul x y (inl h) (inl k) = inl (pos_mul x y h k)
  nonneg_mul x y (inl h) (inr k) = inr (ap (λ z. x ⊗ z) k ∙ mul_nil R x)
  nonneg_mul x y (inr h) k = inr (mul_comm x y ∙ ap (λ z. y ⊗ z) h ∙ mul_nil R y)

  pub add_nonneg : (x y : car) → Pos x → Nonneg y → Pos (x ⊕ y)
  add_nonneg x y h (inl k) = pos_add x y h k
  add_nonneg x y h (inr e) = subst Pos (sym (ap (λ z. x ⊕ z) e ∙ add-zero x)) h

  pub mul_ne : (x y : car) → x ≢ 𝟘 → y ≢ 𝟘 → x ⊗ y ≢ 𝟘
  mul_ne x y n m e =
      let s = pos_mul (x ⊗ x) (y ⊗ y) (square_pos x n) (square_pos y m) in
      not_zero (subst Pos (solve₂ R (λ a b. a :* a :* (b :* b) ≋ a :* b :* (a :* b)) tt x y ∙ ap (λ z. x ⊗ y ⊗ z) e ∙ mul_nil R (x ⊗ y)) s)

  pub zero? : (x : car) → (x ≡ 𝟘) ⊎ (x ≢ 𝟘)
  zero? x = elim (tri x) [
    | inl h ↦ inr (pos_ne x h)
    | inr (inl e) ↦ inl e
    | inr (inr h) ↦ inr (λ e. not_zero (subst Pos (ap ⊖ e ∙ neg-zero R) h))
  ]

  pub cancel : (c x y : car) → c ≢ 𝟘 → c ⊗ x ≡ c ⊗ y → x ≡ y
  cancel c x y n e = elim (zero? (x ⊕ ⊖ y)) [
    | inl z ↦ equal R x y z
    | inr m ↦ absurd (mul_ne c (x ⊕ ⊖ y) n m (solve₃ R (λ a b d. a :* (b :- d) ≋ a :* b :- a :* d) tt c x y ∙ ap (λ z. z ⊕ ⊖ (c ⊗ y)) e ∙ add-neg (c ⊗ y)))
  ]

  -- a positive u that is the greater in size decides the sign
  pub root : (u w : car) → Pos u → Pos (u ⊗ u ⊕ ⊖ (w ⊗ w)) → Pos (u ⊕ w)
  root u w h k = elim (tri (u ⊕ w)) [
    | inl p ↦ p
    | inr (inl e) ↦ absurd (not_zero (subst Pos (solve₂ R (λ a b. a :* a :- b :* b ≋ (a :- b) :* (a :+ b)) tt u w ∙ ap (λ z. (u ⊕ ⊖ w) ⊗ z) e ∙ mul_nil R (u ⊕ ⊖ w)) k))
    | inr (inr n) ↦
        let v = pos_add (u ⊕ u) (⊖ (u ⊕ w)) (pos_add u u h h) n in
        let m = pos_mul (u ⊕ u ⊕ ⊖ (u ⊕ w)) (⊖ (u ⊕ w)) v n in
        absurd (not_both (u ⊗ u ⊕ ⊖ (w ⊗ w)) k (subst Pos (solve₂ R (λ a b. (a :+ a :- (a :+ b)) :* :neg (a :+ b) ≋ :neg (a :* a :- b :* b)) tt u w) m))
  ]

  -- a positive factor may be left out
  pub unscale : (c x : car) → Pos c → Pos (c ⊗ x) → Pos x
  unscale c x h k = elim (tri x) [
    | inl p ↦ p
    | inr (inl e) ↦ absurd (not_zero (subst Pos (ap (λ z. c ⊗ z) e ∙ mul_nil R c) k))
    | inr (inr n) ↦ absurd (not_both (c ⊗ x) k (subst Pos (solve₂ R (λ a b. a :* :neg b ≋ :neg (a :* b)) tt c x) (pos_mul c (⊖ x) h n)))
  ]

  pub not_zero_sum : (x y : car) → Pos x → Nonneg y → x ⊕ y ≡ 𝟘 → ⊥
  not_zero_sum x y h k e = not_zero (subst Pos e (add_nonneg x y h k))
