-- Positive numbers, sums of terms that are zero or positive, and comparisons. Assumes nothing.
use mathlib.Core.Path.{◌≡◌, refl, sym, ap, ap₂, ◌∙◌, subst}
use mathlib.Core.Logic.{◌⊎◌, inl, inr, ◌≢◌}
use Prim.Native.Nat.{ℕ, zero, suc, ◌<◌}
use native.Mathlib.Omega.{arith}
use Rattle.algebra.specs.Field.{OrderedField}
use Rattle.algebra.proofs.ExactField.{ring_of, order_of}
use Rattle.algebra.proofs.OrderedRing as ordered
use Rattle.control.specs.Matrix.{sum}
use Rattle.control.specs.Optimality.{Exceeds, AtMost}
use Rattle.control.specs.Detour.{against_sign, against}
use Rattle.control.proofs.Laws.{zero-add, mul-zero, one-mul, neg-zero, neg-neg, neg-add, neg-one-mul, neg-sub, sub_more, sub_both, sub_same, zero_or}
use Rattle.control.proofs.Sums.{below_suc}

module _ (K : OrderedField) where
  infixl 60 ◌⊕◌
  infixl 70 ◌⊗◌
  open K use {Car, 𝟘, 𝟙, ◌⊕◌, ◌⊗◌, neg, add-zero, Pos, pos_add, pos_mul, pos_zero, pos_square, not_both, tri, one-zero}

  pub pos_or_not : (a : Car) → Pos a ⊎ (¬ Pos a)
  pos_or_not a = elim (tri a) [
    | inl e ↦ inr (λ p. pos_zero (subst Pos e p))
    | inr (inl p) ↦ inl p
    | inr (inr q) ↦ inr (λ p. not_both a p q)
  ]

  -- a pivot times a square
  pub square_or : (d g : Car) → Pos d → ((g ≡ 𝟘) × (d ⊗ (g ⊗ g) ≡ 𝟘)) ⊎ Pos (d ⊗ (g ⊗ g))
  square_or d g p = elim (zero_or K g) [
    | inl e ↦ inl (e, ap (λ t. d ⊗ (g ⊗ t)) e ∙ ap (λ t. d ⊗ t) (mul-zero K g) ∙ mul-zero K d)
    | inr q ↦ inr (pos_mul d (g ⊗ g) p (pos_square g q))
  ]

  both_or : (a b : Car) (A B : Type 0) → (A × (a ≡ 𝟘)) ⊎ Pos a → (B × (b ≡ 𝟘)) ⊎ Pos b → ((A × B) × (a ⊕ b ≡ 𝟘)) ⊎ Pos (a ⊕ b)
  both_or a b A B (inl p) (inl q) = inl ((p.0, q.0), ap₂ ◌⊕◌ p.1 q.1 ∙ add-zero 𝟘)
  both_or a b A B (inl p) (inr q) = inr (subst Pos (sym (zero-add K b) ∙ ap (λ t. t ⊕ b) (sym p.1)) q)
  both_or a b A B (inr p) (inl q) = inr (subst Pos (sym (add-zero a) ∙ ap (λ t. a ⊕ t) (sym q.1)) p)
  both_or a b A B (inr p) (inr q) = inr (pos_add a b p q)

  -- terms each of which is positive, or zero for a reason: so is their sum
  pub sum_or : (n : ℕ) (f : ℕ → Car) (A : ℕ → Type 0) → ((k : ℕ) → k < n → (A k × (f k ≡ 𝟘)) ⊎ Pos (f k))
      → (((k : ℕ) → k < n → A k) × (sum K n f ≡ 𝟘)) ⊎ Pos (sum K n f)
  sum_or zero f A h = inl (λ k l. absurd (omega arith), refl)
  sum_or (suc n) f A h =
      elim (both_or (sum K n f) (f n) ((k : ℕ) → k < n → A k) (A n) (sum_or n f A (λ k l. h k (omega arith))) (h n (omega arith))) [
        | inl p ↦ inl (below_suc n A p.0.0 p.0.1, p.1)
        | inr p ↦ inr p
      ]

  pub exceeds_not_both : (a b : Car) → Exceeds K a b → ¬ Exceeds K b a
  exceeds_not_both a b p q = not_both (a ⊕ neg b) p (subst Pos (sym (neg-sub K a b)) q)

  pub at_most_not : (a b : Car) → AtMost K a b → ¬ Exceeds K a b
  at_most_not a b (inl e) q = pos_zero (subst Pos (sub_same K a b e) q)
  at_most_not a b (inr r) q = exceeds_not_both a b q r

  pub at_most_add : (p a b : Car) → AtMost K a b → AtMost K (p ⊕ a) (p ⊕ b)
  at_most_add p a b (inl e) = inl (ap (λ t. p ⊕ t) e)
  at_most_add p a b (inr r) = inr (subst Pos (sym (sub_both K p b a)) r)

  -- what the form changes by when t is added to a variable with row s and diagonal entry d
  abbrev pub change : Car → Car → Car → Car
  change t s d = t ⊗ (s ⊕ s) ⊕ t ⊗ (t ⊗ d)

  abbrev Nonneg : Car → Type 0
  Nonneg = ordered.Nonneg (ring_of K) (order_of K)

  nonneg_add : (a b : Car) → Nonneg a → Nonneg b → Nonneg (a ⊕ b)
  nonneg_add a b (inl p) q = inl (ordered.add_nonneg (ring_of K) (order_of K) a b p q)
  nonneg_add a b (inr e) q = subst Nonneg (sym (ap (λ t. t ⊕ b) e ∙ zero-add K b)) q

  neg_of : (a : Car) → ¬ Pos a → Nonneg (neg a)
  neg_of a h = elim (tri a) [ inl e ↦ inr (ap neg e ∙ neg-zero K) | inr (inl p) ↦ absurd (h p) | inr (inr p) ↦ inl p ]

  one_up : (s d : Car) → neg (change 𝟙 s d) ≡ (neg s ⊕ neg s) ⊕ neg d
  one_up s d = ap neg (ap₂ ◌⊕◌ (one-mul K _) (one-mul K _ ∙ one-mul K _)) ∙ neg-add K _ _ ∙ ap (λ t. t ⊕ neg d) (neg-add K s s)

  one_down : (s d : Car) → neg (change (neg 𝟙) s d) ≡ (s ⊕ s) ⊕ neg d
  one_down s d = ap neg (ap₂ ◌⊕◌ (neg-one-mul K _) (neg-one-mul K _ ∙ ap neg (neg-one-mul K d))) ∙ neg-add K _ _ ∙ ap₂ ◌⊕◌ (neg-neg K _) (neg-neg K _)

  pub against_nonzero : (s : Car) → against K s ≢ 𝟘
  against_nonzero s = at (tri s)
    where
      at : (t : (s ≡ 𝟘) ⊎ (Pos s ⊎ Pos (neg s))) → against_sign K s t ≢ 𝟘
      at (inl z) = one-zero
      at (inr (inl p)) = λ e. one-zero (sym (neg-neg K 𝟙) ∙ ap neg e ∙ neg-zero K)
      at (inr (inr p)) = one-zero

  -- a step against the sign of the row adds nothing, where the diagonal entry is not positive
  pub against_less : (a s d : Car) → ¬ Pos d → AtMost K (a ⊕ change (against K s) s d) a
  against_less a s d h =
      elim (at (tri s)) [
        | inl p ↦ inr (subst Pos (sym (sub_more K a _)) p)
        | inr e ↦ inl (ap (λ t. a ⊕ t) (sym (neg-neg K _) ∙ ap neg e ∙ neg-zero K) ∙ add-zero a)
      ]
    where
      up : Nonneg (neg s) → Nonneg (neg (change 𝟙 s d))
      up p = subst Nonneg (sym (one_up s d)) (nonneg_add _ _ (nonneg_add _ _ p p) (neg_of d h))

      at : (t : (s ≡ 𝟘) ⊎ (Pos s ⊎ Pos (neg s))) → Nonneg (neg (change (against_sign K s t) s d))
      at (inl z) = up (inr (ap neg z ∙ neg-zero K))
      at (inr (inl p)) = subst Nonneg (sym (one_down s d)) (nonneg_add _ _ (nonneg_add _ _ (inl p) (inl p)) (neg_of d h))
      at (inr (inr p)) = up (inl p)
