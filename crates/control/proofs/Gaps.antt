-- Gaps and variables determine one another, the last variable first. Assumes nothing.
use mathlib.Core.Path.{◌≡◌, refl, sym, ap, ap₂, ◌∙◌}
use Prim.Native.Nat.{ℕ, zero, suc, ◌+◌, ◌-◌, ◌<◌, ◌≤◌}
use native.Mathlib.Omega.{arith}
use native.Mathlib.Decide.{ℕ_discrete}
use Rattle.algebra.specs.Field.{OrderedField}
use Rattle.control.specs.Matrix.{put}
use Rattle.control.specs.Elimination.{factor_of, later_by, gap_by, fill_by, gap_of, fill}
use Rattle.control.proofs.Laws.{sub-add, add_cancel}
use Rattle.control.proofs.Sums.{sum_ext}
use Rattle.control.proofs.Lists.{put_same, put_other}

module _ (K : OrderedField) (w : ℕ) (r : ℕ → ℕ → K.Car) where
  infixl 60 ◌⊕◌
  infixl 70 ◌⊗◌
  open K use {Car, ◌⊕◌, ◌⊗◌, neg}

  later_ext : (i : ℕ) (y z : ℕ → Car) → ((k : ℕ) → i < k → y k ≡ z k) → later_by K w r i y ≡ later_by K w r i z
  later_ext i y z h = sum_ext K (w - suc i) _ _ (λ k l. ap (λ t. r i (suc i + k) ⊗ t) (h (suc i + k) (omega arith)))

  -- a gap reads no earlier variable
  gap_ext : (i : ℕ) (y z : ℕ → Car) → ((k : ℕ) → i ≤ k → y k ≡ z k) → gap_by K w r i y ≡ gap_by K w r i z
  gap_ext i y z h = ap₂ ◌⊕◌ (h i (omega arith)) (later_ext i y z (λ k l. h k (omega arith)))

  pub fill_keeps_by : (g : ℕ → Car) (j : ℕ) (z : ℕ → Car) (k : ℕ) → j ≤ k → fill_by K w r g j z k ≡ z k
  unfolding fill_by
  fill_keeps_by g zero z k l = refl
  fill_keeps_by g (suc j) z k l = fill_keeps_by g j _ k (omega arith) ∙ put_other j _ z k (omega arith)

  pub fill_gap_by : (g : ℕ → Car) (j : ℕ) (z : ℕ → Car) (i : ℕ) → i < j → gap_by K w r i (fill_by K w r g j z) ≡ g i
  unfolding fill_by
  fill_gap_by g zero z i l = absurd (omega arith)
  fill_gap_by g (suc j) z i l =
      let y = put j (g j ⊕ neg (later_by K w r j z)) z in
      elim (ℕ_discrete i j) [
        | yes e ↦ ap (λ t. gap_by K w r t (fill_by K w r g j y)) e
            ∙ gap_ext j (fill_by K w r g j y) y (λ k q. fill_keeps_by g j y k q)
            ∙ ap₂ ◌⊕◌ (put_same j _ z) (later_ext j y z (λ k q. put_other j _ z k (omega arith)))
            ∙ sub-add K (g j) (later_by K w r j z)
            ∙ ap g (sym e)
        | no p ↦ fill_gap_by g j y i (omega arith)
      ]

  -- equal gaps before j, and equal from j on: equal
  pub same_gaps_by : (j : ℕ) (y z : ℕ → Car) → ((i : ℕ) → i < j → gap_by K w r i y ≡ gap_by K w r i z) → ((k : ℕ) → j ≤ k → y k ≡ z k) → (k : ℕ) → y k ≡ z k
  same_gaps_by zero y z g h = λ k. h k (omega arith)
  same_gaps_by (suc j) y z g h =
      same_gaps_by j y z (λ i l. g i (omega arith)) (λ k l. elim (ℕ_discrete k j) [
        | yes e ↦ ap y e ∙ add_cancel K (y j) (z j) _ (g j (omega arith) ∙ ap (λ t. z j ⊕ t) (sym (later_ext j y z (λ k q. h k (omega arith))))) ∙ ap z (sym e)
        | no p ↦ h k (omega arith)
      ])

module _ (K : OrderedField) (w : ℕ) (A : ℕ → ℕ → K.Car) where
  open K use {Car}

  pub fill_is_by : (g : ℕ → Car) (j : ℕ) (z : ℕ → Car) → fill K w A g j z ≡ fill_by K w (factor_of K A) g j z
  unfolding fill fill_by
  fill_is_by g zero z = refl
  fill_is_by g (suc j) z = fill_is_by g j _

  pub fill_keeps : (g : ℕ → Car) (j : ℕ) (z : ℕ → Car) (k : ℕ) → j ≤ k → fill K w A g j z k ≡ z k
  fill_keeps g j z k l = ap (λ (y : ℕ → Car). y k) (fill_is_by g j z) ∙ fill_keeps_by K w (factor_of K A) g j z k l

  pub fill_gap : (g : ℕ → Car) (j : ℕ) (z : ℕ → Car) (i : ℕ) → i < j → gap_of K w A i (fill K w A g j z) ≡ g i
  fill_gap g j z i l = ap (gap_of K w A i) (fill_is_by g j z) ∙ fill_gap_by K w (factor_of K A) g j z i l

  pub same_gaps : (j : ℕ) (y z : ℕ → Car) → ((i : ℕ) → i < j → gap_of K w A i y ≡ gap_of K w A i z) → ((k : ℕ) → j ≤ k → y k ≡ z k) → (k : ℕ) → y k ≡ z k
  same_gaps = same_gaps_by K w (factor_of K A)
