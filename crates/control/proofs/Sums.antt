-- Laws of finite sums, and search below a bound. Assumes nothing.
use mathlib.Core.Path.{◌≡◌, refl, sym, ap, ap₂, ◌∙◌, subst}
use mathlib.Core.Logic.{◌⊎◌, inl, inr, ◌≢◌}
use Prim.Native.Nat.{ℕ, zero, suc, ◌+◌, ◌<◌}
use native.Mathlib.Nat.{add-suc}
use native.Mathlib.Omega.{arith}
use native.Mathlib.Decide.{ℕ_discrete}
use Rattle.algebra.specs.Field.{OrderedField}
use Rattle.control.specs.Matrix.{sum}
use Rattle.control.proofs.Laws.{zero-add, add_left_comm, mul-zero}

-- what holds below n and at n holds below n + 1
pub below_suc : (n : ℕ) (A : ℕ → Type 0) → ((k : ℕ) → k < n → A k) → A n → (k : ℕ) → k < suc n → A k
below_suc n A h a k l = elim (ℕ_discrete k n) [ yes e ↦ subst A (sym e) a | no p ↦ h k (omega arith) ]

-- all below n are A, or there is a first that is B
pub first_below : (n : ℕ) (A B : ℕ → Type 0) → ((k : ℕ) → A k ⊎ B k)
    → ((k : ℕ) → k < n → A k) ⊎ ((k : ℕ) × (k < n) × ((j : ℕ) → j < k → A j) × B k)
first_below zero A B decide = inl (λ k l. absurd (omega arith))
first_below (suc n) A B decide =
    elim (first_below n A B decide) [
      | inr t ↦ inr (t.0, (let l = t.1 in omega arith), t.2, t.3)
      | inl all ↦ elim (decide n) [
        | inl a ↦ inl (below_suc n A all a)
        | inr b ↦ inr (n, omega arith, all, b)
      ]
    ]

module _ (K : OrderedField) where
  infixl 60 ◌⊕◌
  infixl 70 ◌⊗◌
  open K use {Car, 𝟘, ◌⊕◌, ◌⊗◌, add_assoc, add_comm, add-zero, mul-add}

  pub sum_ext : (n : ℕ) (f g : ℕ → Car) → ((k : ℕ) → k < n → f k ≡ g k) → sum K n f ≡ sum K n g
  sum_ext zero f g h = refl
  sum_ext (suc n) f g h = ap₂ ◌⊕◌ (sum_ext n f g (λ k l. h k (omega arith))) (h n (omega arith))

  pub sum-add : (n : ℕ) (f g : ℕ → Car) → sum K n (λ k. f k ⊕ g k) ≡ sum K n f ⊕ sum K n g
  sum-add zero f g = sym (add-zero 𝟘)
  sum-add (suc n) f g = ap (λ t. t ⊕ (f n ⊕ g n)) (sum-add n f g) ∙ simp (add_assoc, add_comm, add_left_comm K)

  pub sum-mul : (n : ℕ) (a : Car) (f : ℕ → Car) → sum K n (λ k. a ⊗ f k) ≡ a ⊗ sum K n f
  sum-mul zero a f = sym (mul-zero K a)
  sum-mul (suc n) a f = ap (λ t. t ⊕ a ⊗ f n) (sum-mul n a f) ∙ sym (mul-add a (sum K n f) (f n))

  pub sum_none : (n : ℕ) (f : ℕ → Car) → ((k : ℕ) → k < n → f k ≡ 𝟘) → sum K n f ≡ 𝟘
  sum_none zero f h = refl
  sum_none (suc n) f h = ap₂ ◌⊕◌ (sum_none n f (λ k l. h k (omega arith))) (h n (omega arith)) ∙ add-zero 𝟘

  pub sum_swap : (n m : ℕ) (f : ℕ → ℕ → Car) → sum K n (λ a. sum K m (λ b. f a b)) ≡ sum K m (λ b. sum K n (λ a. f a b))
  sum_swap zero m f = sym (sum_none m (λ _. 𝟘) (λ k l. refl))
  sum_swap (suc n) m f = ap (λ t. t ⊕ sum K m (λ b. f n b)) (sum_swap n m f) ∙ sym (sum-add m (λ b. sum K n (λ a. f a b)) (λ b. f n b))

  pub sum_split : (m n : ℕ) (f : ℕ → Car) → sum K (m + n) f ≡ sum K m f ⊕ sum K n (λ k. f (m + k))
  sum_split m zero f = ap (λ k. sum K k f) (omega arith) ∙ sym (add-zero (sum K m f))
  sum_split m (suc n) f = rw add-suc (ap (λ t. t ⊕ f (m + n)) (sum_split m n f) ∙ add_assoc _ _ _)

  -- all but the term j are zero
  pub sum_one : (n j : ℕ) (f : ℕ → Car) → j < n → ((k : ℕ) → k < n → k ≢ j → f k ≡ 𝟘) → sum K n f ≡ f j
  sum_one zero j f l h = absurd (omega arith)
  sum_one (suc n) j f l h =
      elim (ℕ_discrete n j) [
        | yes e ↦ ap₂ ◌⊕◌ (sum_none n f (λ k q. h k (omega arith) (omega arith))) (ap f e) ∙ zero-add K (f j)
        | no d ↦ ap₂ ◌⊕◌ (sum_one n j f (omega arith) (λ k q. h k (omega arith))) (h n (omega arith) d) ∙ add-zero (f j)
      ]
