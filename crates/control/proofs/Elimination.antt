-- What elimination does to a form, to its rows and to its upper half. Assumes nothing.
use mathlib.Core.Path.{◌≡◌, refl, sym, ap, ap₂, ◌∙◌}
use mathlib.Core.Logic.{◌≢◌}
use Prim.Native.Nat.{ℕ, zero, suc, ◌-◌, ◌<◌, ◌≤◌}
use native.Mathlib.Omega.{arith}
use native.Mathlib.Decide.{ℕ_discrete}
use Rattle.algebra.specs.Field.{OrderedField}
use Rattle.control.specs.Matrix.{sum, apply, form, Symmetric, SameUpper}
use Rattle.control.specs.Elimination.{scaled, eliminate, reduced, pivot_of, factor_of, gap_of}
use Rattle.control.proofs.Laws.{zero-add, mul_left_comm, mul-zero, zero-mul, one-mul, add-mul, sub-add, neg-zero, zero_factor}
use Rattle.control.proofs.Sums.{below_suc, sum_ext, sum-add, sum-mul, sum_none, sum_split}
use Rattle.control.proofs.Forms.{form_apply}

module _ (K : OrderedField) where
  infixl 60 ◌⊕◌
  infixl 70 ◌⊗◌
  open K use {Car, 𝟘, 𝟙, ◌⊕◌, ◌⊗◌, neg, inv, add_assoc, add_comm, add-zero, add-neg, mul_assoc, mul_comm, mul-one, mul-add, mul-inv}

  -- row i over its diagonal entry, times all of z
  abbrev pub row_sum : ℕ → (ℕ → ℕ → Car) → ℕ → (ℕ → Car) → Car
  row_sum w A i z = sum K w (λ c. scaled K A i c ⊗ z c)

  row_scaled : (A : ℕ → ℕ → Car) (i c : ℕ) → A i i ≢ 𝟘 → A i i ⊗ scaled K A i c ≡ A i c
  unfolding scaled
  row_scaled A i c d = mul_left_comm K _ _ _ ∙ ap (λ t. A i c ⊗ t) (mul-inv _ d) ∙ mul-one _

  row_apply : (w : ℕ) (A : ℕ → ℕ → Car) (i : ℕ) (z : ℕ → Car) → A i i ≢ 𝟘 → apply K w A z i ≡ A i i ⊗ row_sum w A i z
  row_apply w A i z d = sum_ext K w _ _ (λ c l. ap (λ t. t ⊗ z c) (sym (row_scaled A i c d)) ∙ mul_assoc _ _ _) ∙ sum-mul K w (A i i) _

  eliminate_apply : (w : ℕ) (A : ℕ → ℕ → Car) (i : ℕ) (z : ℕ → Car) (a : ℕ) → apply K w A z a ≡ apply K w (eliminate K A i) z a ⊕ A i a ⊗ row_sum w A i z
  unfolding eliminate
  eliminate_apply w A i z a =
      sum_ext K w _ _ (λ c l. ap (λ t. t ⊗ z c) (sym (sub-add K (A a c) (A i a ⊗ scaled K A i c))) ∙ add-mul K _ _ _ ∙ ap (λ t. eliminate K A i a c ⊗ z c ⊕ t) (mul_assoc _ _ _))
      ∙ sum-add K w _ _
      ∙ ap (λ t. apply K w (eliminate K A i) z a ⊕ t) (sum-mul K w (A i a) _)

  -- completing the square
  eliminate_form : (w : ℕ) (A : ℕ → ℕ → Car) (i : ℕ) (z : ℕ → Car) → A i i ≢ 𝟘 → form K w A z ≡ form K w (eliminate K A i) z ⊕ A i i ⊗ (row_sum w A i z ⊗ row_sum w A i z)
  eliminate_form w A i z d =
      let g = row_sum w A i z in
      form_apply K w A z
      ∙ sum_ext K w _ (λ a. z a ⊗ apply K w (eliminate K A i) z a ⊕ g ⊗ (A i a ⊗ z a)) (λ a l. ap (λ t. z a ⊗ t) (eliminate_apply w A i z a) ∙ simp (mul-add, mul_assoc, mul_comm))
      ∙ sum-add K w _ _
      ∙ ap₂ ◌⊕◌ (sym (form_apply K w (eliminate K A i) z)) (sum-mul K w g _ ∙ ap (λ t. g ⊗ t) (row_apply w A i z d) ∙ mul_left_comm K _ _ _)

  pub reduced_form : (w : ℕ) (A : ℕ → ℕ → Car) (z : ℕ → Car) (j : ℕ) → ((i : ℕ) → i < j → pivot_of K A i ≢ 𝟘)
      → form K w A z ≡ form K w (reduced K A j) z ⊕ sum K j (λ i. pivot_of K A i ⊗ (row_sum w (reduced K A i) i z ⊗ row_sum w (reduced K A i) i z))
  unfolding reduced
  reduced_form w A z zero d = sym (add-zero _)
  reduced_form w A z (suc j) d =
      reduced_form w A z j (λ i l. d i (omega arith)) ∙ ap₂ ◌⊕◌ (eliminate_form w (reduced K A j) j z (d j (omega arith))) refl ∙ simp (add_assoc, add_comm)

  -- rows without a gap stay as they are
  pub reduced_apply : (w : ℕ) (A : ℕ → ℕ → Car) (z : ℕ → Car) (j : ℕ) → ((i : ℕ) → i < j → row_sum w (reduced K A i) i z ≡ 𝟘) → (a : ℕ) → apply K w A z a ≡ apply K w (reduced K A j) z a
  unfolding reduced
  reduced_apply w A z zero h a = refl
  reduced_apply w A z (suc j) h a =
      reduced_apply w A z j (λ i l. h i (omega arith)) a
      ∙ eliminate_apply w (reduced K A j) j z a
      ∙ ap (λ t. apply K w (eliminate K (reduced K A j) j) z a ⊕ reduced K A j j a ⊗ t) (h j (omega arith))
      ∙ ap (λ t. apply K w (eliminate K (reduced K A j) j) z a ⊕ t) (mul-zero K _)
      ∙ add-zero _

  -- rows that vanish have no gap
  pub vanishing : (w : ℕ) (A : ℕ → ℕ → Car) (z : ℕ → Car) (j : ℕ) → ((i : ℕ) → i < j → pivot_of K A i ≢ 𝟘) → ((a : ℕ) → a < j → apply K w A z a ≡ 𝟘) → (i : ℕ) → i < j → row_sum w (reduced K A i) i z ≡ 𝟘
  vanishing w A z zero d h = λ i l. absurd (omega arith)
  vanishing w A z (suc j) d h =
      let below = vanishing w A z j (λ i q. d i (omega arith)) (λ a q. h a (omega arith)) in
      below_suc j (λ i. row_sum w (reduced K A i) i z ≡ 𝟘) below
      (zero_factor K _ _ (d j (omega arith)) (sym (row_apply w (reduced K A j) j z (d j (omega arith))) ∙ sym (reduced_apply w A z j below j) ∙ h j (omega arith)))

  eliminate_symmetric : (w : ℕ) (A : ℕ → ℕ → Car) (i : ℕ) → Symmetric K w A → Symmetric K w (eliminate K A i)
  unfolding eliminate scaled
  eliminate_symmetric w A i s a c l q = ap₂ (λ t r. t ⊕ neg r) (s a c l q) (mul_left_comm K _ _ _)

  pub reduced_symmetric : (w : ℕ) (A : ℕ → ℕ → Car) → Symmetric K w A → (j : ℕ) → Symmetric K w (reduced K A j)
  unfolding reduced
  reduced_symmetric w A s zero = s
  reduced_symmetric w A s (suc j) = eliminate_symmetric w (reduced K A j) j (reduced_symmetric w A s j)

  module _ (w : ℕ) (A : ℕ → ℕ → Car) (s : Symmetric K w A) where
    -- the rows that are eliminated are zero
    pub reduced_zero : (j : ℕ) → j ≤ w → ((i : ℕ) → i < j → pivot_of K A i ≢ 𝟘) → (a c : ℕ) → a < j → c < w → reduced K A j a c ≡ 𝟘
    unfolding reduced eliminate
    reduced_zero zero b d a c l q = absurd (omega arith)
    reduced_zero (suc j) b d a c l q =
        let R = reduced K A j in
        let below : (e : ℕ) → e < w → a < j → R a e ≡ 𝟘 = λ e p r. reduced_zero j (omega arith) (λ i v. d i (omega arith)) a e r p in
        elim (ℕ_discrete a j) [
          | yes e ↦ ap (λ t. R t c ⊕ neg (R j t ⊗ scaled K R j c)) e ∙ ap (λ t. R j c ⊕ neg t) (row_scaled R j c (d j (omega arith))) ∙ add-neg _
          | no f ↦
              ap₂ (λ x y. x ⊕ neg (y ⊗ scaled K R j c)) (below c q (omega arith)) (reduced_symmetric w A s j j a (omega arith) (omega arith) ∙ below j (omega arith) (omega arith))
              ∙ ap (λ t. 𝟘 ⊕ neg t) (zero-mul K _) ∙ zero-add K _ ∙ neg-zero K
        ]

    factor_one : (i : ℕ) → pivot_of K A i ≢ 𝟘 → factor_of K A i i ≡ 𝟙
    unfolding scaled
    factor_one i d = mul-inv _ d

    factor_zero : (i c : ℕ) → i < w → ((k : ℕ) → k < i → pivot_of K A k ≢ 𝟘) → c < i → factor_of K A i c ≡ 𝟘
    unfolding scaled
    factor_zero i c l d q = ap (λ t. t ⊗ inv (pivot_of K A i)) (reduced_symmetric w A s i i c l (omega arith) ∙ reduced_zero i (omega arith) d c i q l) ∙ zero-mul K _

    -- the whole row over its pivot is the gap
    pub row_gap : (i : ℕ) (z : ℕ → Car) → i < w → ((k : ℕ) → k ≤ i → pivot_of K A k ≢ 𝟘) → row_sum w (reduced K A i) i z ≡ gap_of K w A i z
    row_gap i z l d =
        ap (λ k. sum K k (λ c. factor_of K A i c ⊗ z c)) (omega arith)
        ∙ sum_split K (suc i) (w - suc i) (λ c. factor_of K A i c ⊗ z c)
        ∙ ap₂ ◌⊕◌
        (ap₂ ◌⊕◌
        (sum_none K i _ (λ k q. ap (λ t. t ⊗ z k) (factor_zero i k l (λ j p. d j (omega arith)) q) ∙ zero-mul K _))
        (ap (λ t. t ⊗ z i) (factor_one i (d i (omega arith))) ∙ one-mul K _)
        ∙ zero-add K _)
        refl

  -- elimination reads and makes only entries on and above the diagonal
  module _ (w i : ℕ) (A B : ℕ → ℕ → Car) (same : SameUpper K w i A B) where
    pub upper_scaled : (c : ℕ) → i ≤ c → c < w → scaled K A i c ≡ scaled K B i c
    unfolding scaled
    upper_scaled c l q = ap₂ (λ x y. x ⊗ inv y) (same i c (omega arith) l q) (same i i (omega arith) (omega arith) (omega arith))

    pub upper_eliminate : SameUpper K w (suc i) (eliminate K A i) (eliminate K B i)
    unfolding eliminate
    upper_eliminate a c l q v =
        ap₂ (λ x y. x ⊕ neg y) (same a c (omega arith) q v) (ap₂ ◌⊗◌ (same i a (omega arith) (omega arith) (omega arith)) (upper_scaled c (omega arith) v))

  pub upper_reduced : (w : ℕ) (A B : ℕ → ℕ → Car) → SameUpper K w 0 A B → (j : ℕ) → SameUpper K w j (reduced K A j) (reduced K B j)
  unfolding reduced
  upper_reduced w A B same zero = same
  upper_reduced w A B same (suc j) = upper_eliminate w j (reduced K A j) (reduced K B j) (upper_reduced w A B same j)
