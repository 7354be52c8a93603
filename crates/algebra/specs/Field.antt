-- An ordered field, as a record over its carrier: the laws on which every theory of this repository rests. Assumes nothing.
--
--   OrderedField   the numbers (Car) with 𝟘, 𝟙, ◌⊕◌ (sum), ◌⊗◌ (product), neg (the opposite), inv (one over, 0 at 0) and Pos (is positive)
use Rattle.std.specs.Prelude.{◌≡◌, ◌≢◌, ◌⊎◌}

pub record OrderedField : Type 1 where
  infixl 60 ◌⊕◌
  infixl 70 ◌⊗◌
  pub Car : Type 0
  pub is_set : IsSet Car
  pub 𝟘 : Car
  pub 𝟙 : Car
  pub ◌⊕◌ : Car → Car → Car
  pub ◌⊗◌ : Car → Car → Car
  pub neg : Car → Car
  pub inv : Car → Car
  pub add_assoc : (a b c : Car) → (a ⊕ b) ⊕ c ≡ a ⊕ (b ⊕ c)
  pub add_comm : (a b : Car) → a ⊕ b ≡ b ⊕ a
  pub add-zero : (a : Car) → a ⊕ 𝟘 ≡ a
  pub add-neg : (a : Car) → a ⊕ neg a ≡ 𝟘
  pub mul_assoc : (a b c : Car) → (a ⊗ b) ⊗ c ≡ a ⊗ (b ⊗ c)
  pub mul_comm : (a b : Car) → a ⊗ b ≡ b ⊗ a
  pub mul-one : (a : Car) → a ⊗ 𝟙 ≡ a
  pub mul-add : (a b c : Car) → a ⊗ (b ⊕ c) ≡ a ⊗ b ⊕ a ⊗ c
  pub mul-inv : (a : Car) → a ≢ 𝟘 → a ⊗ inv a ≡ 𝟙
  pub inv-zero : inv 𝟘 ≡ 𝟘
  pub one-zero : 𝟙 ≢ 𝟘
  pub Pos : Car → Type 0
  pub pos_add : (a b : Car) → Pos a → Pos b → Pos (a ⊕ b)
  pub pos_mul : (a b : Car) → Pos a → Pos b → Pos (a ⊗ b)
  -- exactly one of: zero, positive, the opposite is positive
  pub tri : (a : Car) → (a ≡ 𝟘) ⊎ (Pos a ⊎ Pos (neg a))
  pub pos_zero : ¬ Pos 𝟘
  pub not_both : (a : Car) → Pos a → ¬ Pos (neg a)
  pub pos_square : (a : Car) → a ≢ 𝟘 → Pos (a ⊗ a)
