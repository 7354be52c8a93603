-- Laws of an ordered field, taken over from those of ordered rings. Assumes nothing.
use mathlib.Core.Path.{◌≡◌, sym, ap, ◌∙◌}
use mathlib.Core.Logic.{◌⊎◌, ◌≢◌}
use Rattle.algebra.specs.Ring.{Ring}
use Rattle.algebra.specs.Field.{OrderedField}
use Rattle.algebra.proofs.ExactField.{ring_of, order_of}
use Rattle.algebra.proofs.RingSolver.{◌:+◌, ◌:*◌, ◌:-◌, :neg, lit, ◌≋◌, solve₁, solve₂, solve₃, equal, mul_nil}
use Rattle.algebra.proofs.RingSolver as rings
use Rattle.algebra.proofs.OrderedRing as ordered

module _ (K : OrderedField) where
  infixl 60 ◌⊕◌
  infixl 70 ◌⊗◌
  open K use {Car, 𝟘, 𝟙, ◌⊕◌, ◌⊗◌, neg, add-neg, mul_comm, mul-one, Pos}

  abbrev R : Ring
  R = ring_of K

  pub add_left_comm : (a b c : Car) → a ⊕ (b ⊕ c) ≡ b ⊕ (a ⊕ c)
  add_left_comm = solve₃ R (λ a b c. a :+ (b :+ c) ≋ b :+ (a :+ c)) tt

  pub mul_left_comm : (a b c : Car) → a ⊗ (b ⊗ c) ≡ b ⊗ (a ⊗ c)
  mul_left_comm = solve₃ R (λ a b c. a :* (b :* c) ≋ b :* (a :* c)) tt

  pub add-mul : (a b c : Car) → (a ⊕ b) ⊗ c ≡ a ⊗ c ⊕ b ⊗ c
  add-mul = solve₃ R (λ a b c. (a :+ b) :* c ≋ a :* c :+ b :* c) tt

  pub zero-add : (a : Car) → 𝟘 ⊕ a ≡ a
  zero-add = solve₁ R (λ a. lit 0 :+ a ≋ a) tt

  pub mul-zero : (a : Car) → a ⊗ 𝟘 ≡ 𝟘
  mul-zero = mul_nil R

  pub zero-mul : (a : Car) → 𝟘 ⊗ a ≡ 𝟘
  zero-mul = solve₁ R (λ a. lit 0 :* a ≋ lit 0) tt

  pub one-mul : (a : Car) → 𝟙 ⊗ a ≡ a
  one-mul a = mul_comm 𝟙 a ∙ mul-one a

  pub neg-zero : neg 𝟘 ≡ 𝟘
  neg-zero = rings.neg-zero R

  pub neg-neg : (a : Car) → neg (neg a) ≡ a
  neg-neg = solve₁ R (λ a. :neg (:neg a) ≋ a) tt

  pub neg-add : (a b : Car) → neg (a ⊕ b) ≡ neg a ⊕ neg b
  neg-add = solve₂ R (λ a b. :neg (a :+ b) ≋ :neg a :+ :neg b) tt

  pub neg-one-mul : (a : Car) → neg 𝟙 ⊗ a ≡ neg a
  neg-one-mul a = solve₂ R (λ e a. :neg e :* a ≋ :neg (e :* a)) tt 𝟙 a ∙ ap neg (one-mul a)

  pub neg-sub : (a b : Car) → neg (a ⊕ neg b) ≡ b ⊕ neg a
  neg-sub = solve₂ R (λ a b. :neg (a :- b) ≋ b :- a) tt

  pub sub-add : (a b : Car) → (a ⊕ neg b) ⊕ b ≡ a
  sub-add = solve₂ R (λ a b. (a :- b) :+ b ≋ a) tt

  pub add-sub : (a b : Car) → (a ⊕ b) ⊕ neg b ≡ a
  add-sub = solve₂ R (λ a b. (a :+ b) :- b ≋ a) tt

  pub sub_more : (a c : Car) → a ⊕ neg (a ⊕ c) ≡ neg c
  sub_more = solve₂ R (λ a c. a :- (a :+ c) ≋ :neg c) tt

  pub sub_both : (a b c : Car) → (a ⊕ b) ⊕ neg (a ⊕ c) ≡ b ⊕ neg c
  sub_both = solve₃ R (λ a b c. (a :+ b) :- (a :+ c) ≋ b :- c) tt

  pub add_cancel : (a b c : Car) → a ⊕ c ≡ b ⊕ c → a ≡ b
  add_cancel a b c e = sym (add-sub a c) ∙ ap (λ t. t ⊕ neg c) e ∙ add-sub b c

  -- a difference is zero exactly between equals
  pub sub-zero : (a b : Car) → a ⊕ neg b ≡ 𝟘 → a ≡ b
  sub-zero = equal R

  pub sub_same : (a b : Car) → a ≡ b → a ⊕ neg b ≡ 𝟘
  sub_same a b e = ap (λ t. t ⊕ neg b) e ∙ add-neg b

  pub zero_factor : (d g : Car) → d ≢ 𝟘 → d ⊗ g ≡ 𝟘 → g ≡ 𝟘
  zero_factor d g h e = ordered.cancel R (order_of K) d g 𝟘 h (e ∙ sym (mul-zero d))

  pub pos_ne : (a : Car) → Pos a → a ≢ 𝟘
  pos_ne = ordered.pos_ne R (order_of K)

  pub zero_or : (a : Car) → (a ≡ 𝟘) ⊎ (a ≢ 𝟘)
  zero_or = ordered.zero? R (order_of K)
