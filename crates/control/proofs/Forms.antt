-- Quadratic forms: under a linear map, as a block, and with one variable moved. Assumes nothing.
use mathlib.Core.Path.{◌≡◌, refl, sym, ap, ap₂, ◌∙◌}
use Prim.Native.Nat.{ℕ, ◌+◌, ◌<◌, ◌≤◌}
use native.Mathlib.Omega.{arith}
use native.Mathlib.Decide.{ℕ_discrete, dec_lt}
use Rattle.algebra.specs.Field.{OrderedField}
use Rattle.control.specs.Matrix.{sum, apply, form, product, put, Symmetric}
use Rattle.control.proofs.Laws.{zero-add, mul_left_comm, mul-zero, zero-mul, add-mul}
use Rattle.control.proofs.Sums.{sum_ext, sum-add, sum-mul, sum_none, sum_swap, sum_split, sum_one}
use Rattle.control.proofs.Lists.{put_same, put_other}
use Rattle.control.proofs.Order.{change}

module _ (K : OrderedField) where
  infixl 60 ◌⊕◌
  infixl 70 ◌⊗◌
  open K use {Car, 𝟘, ◌⊕◌, ◌⊗◌, add_assoc, add-zero, mul_assoc, mul_comm, mul-add}

  -- a form is z times (A z)
  pub form_apply : (w : ℕ) (A : ℕ → ℕ → Car) (z : ℕ → Car) → form K w A z ≡ sum K w (λ a. z a ⊗ apply K w A z a)
  form_apply w A z =
      sum_ext K w _ _ (λ a l. sum_ext K w _ (λ c. z a ⊗ (A a c ⊗ z c)) (λ c q. simp (mul_assoc, mul_comm)) ∙ sum-mul K w (z a) (λ c. A a c ⊗ z c))

  pub form_ext : (w : ℕ) (A B : ℕ → ℕ → Car) (y z : ℕ → Car) → ((a c : ℕ) → a < w → c < w → A a c ≡ B a c) → ((a : ℕ) → a < w → y a ≡ z a) → form K w A y ≡ form K w B z
  form_ext w A B y z h e = sum_ext K w _ _ (λ a l. sum_ext K w _ _ (λ c q. ap₂ ◌⊗◌ (ap₂ ◌⊗◌ (h a c l q) (e a l)) (e c q)))

  pub form_add : (w : ℕ) (A B : ℕ → ℕ → Car) (z : ℕ → Car) → form K w (λ a c. A a c ⊕ B a c) z ≡ form K w A z ⊕ form K w B z
  form_add w A B z =
      sum_ext K w _ _ (λ a l. sum_ext K w _ (λ c. A a c ⊗ z a ⊗ z c ⊕ B a c ⊗ z a ⊗ z c) (λ c q. simp (add-mul K)) ∙ sum-add K w _ _) ∙ sum-add K w _ _

  pub apply_product : (w m : ℕ) (A B : ℕ → ℕ → Car) (z : ℕ → Car) (a : ℕ) → apply K w (product K m A B) z a ≡ apply K m A (apply K w B z) a
  apply_product w m A B z a =
      sum_ext K w _ (λ c. sum K m (λ k. A a k ⊗ (B k c ⊗ z c))) (λ c l. mul_comm _ _ ∙ sym (sum-mul K m (z c) _) ∙ sum_ext K m _ _ (λ k q. simp (mul_comm, mul_left_comm K)))
      ∙ sum_swap K w m _
      ∙ sum_ext K m _ _ (λ k l. sum-mul K w (A a k) _)

  -- the transpose moves to the other side
  adjoint : (w m : ℕ) (F : ℕ → ℕ → Car) (z v : ℕ → Car) → sum K w (λ a. z a ⊗ sum K m (λ k. F k a ⊗ v k)) ≡ sum K m (λ k. apply K w F z k ⊗ v k)
  adjoint w m F z v =
      sum_ext K w _ (λ a. sum K m (λ k. v k ⊗ (F k a ⊗ z a))) (λ a l. sym (sum-mul K m (z a) _) ∙ sum_ext K m _ _ (λ k q. simp (mul_comm, mul_left_comm K)))
      ∙ sum_swap K w m _
      ∙ sum_ext K m _ _ (λ k l. sum-mul K w (v k) _ ∙ mul_comm _ _)

  -- the form of Fᵀ (P F) at z is that of P at F z
  pub congruence : (w m : ℕ) (P F : ℕ → ℕ → Car) (z : ℕ → Car) → form K w (product K m (λ a k. F k a) (product K m P F)) z ≡ form K m P (apply K w F z)
  congruence w m P F z =
      form_apply w _ z
      ∙ sum_ext K w _ (λ a. z a ⊗ sum K m (λ k. F k a ⊗ apply K m P (apply K w F z) k))
      (λ a l. ap (λ t. z a ⊗ t) (apply_product w m (λ a k. F k a) (product K m P F) z a ∙ sum_ext K m _ _ (λ k q. ap (λ t. F k a ⊗ t) (apply_product w m P F z k))))
      ∙ adjoint w m F z (apply K m P (apply K w F z))
      ∙ sym (form_apply m P (apply K w F z))

  pub congruence_symmetric : (w m : ℕ) (P F : ℕ → ℕ → Car) → Symmetric K m P → Symmetric K w (product K m (λ a k. F k a) (product K m P F))
  congruence_symmetric w m P F s a c l q =
      sum_ext K m _ (λ k. sum K m (λ j. F j c ⊗ (P j k ⊗ F k a)))
      (λ k v. sym (sum-mul K m (F k a) _) ∙ sum_ext K m _ _ (λ j x. ap (λ t. F k a ⊗ (t ⊗ F j c)) (s k j v x) ∙ simp (mul_comm, mul_left_comm K)))
      ∙ sum_swap K m m _
      ∙ sum_ext K m _ _ (λ j v. sum-mul K m (F j c) _)

  module _ (w i : ℕ) (A : ℕ → ℕ → Car) (s : Symmetric K w A) (zeros : (a c : ℕ) → a < i → c < w → A a c ≡ 𝟘) where
    -- the columns before i are zero with the rows
    zero_column : (a c : ℕ) → a < w → c < i → c < w → A a c ≡ 𝟘
    zero_column a c l q v = s a c l v ∙ zeros c a q l

    -- the form reads nothing before i
    pub form_from : (y z : ℕ → Car) → ((k : ℕ) → i ≤ k → y k ≡ z k) → form K w A y ≡ form K w A z
    form_from y z h = sum_ext K w _ _ (λ a l. sum_ext K w _ _ (λ c q. term a c l q))
      where
        gone : (a c : ℕ) → A a c ≡ 𝟘 → A a c ⊗ y a ⊗ y c ≡ A a c ⊗ z a ⊗ z c
        gone a c e = ap (λ t. t ⊗ y a ⊗ y c) e ∙ simp (zero-mul K) (sym (ap (λ t. t ⊗ z a ⊗ z c) e ∙ simp (zero-mul K)))

        term : (a c : ℕ) → a < w → c < w → A a c ⊗ y a ⊗ y c ≡ A a c ⊗ z a ⊗ z c
        term a c l q =
            elim (dec_lt a i) [
              | yes p ↦ gone a c (zeros a c p q)
              | no p ↦ elim (dec_lt c i) [
                | yes o ↦ gone a c (zero_column a c l o q)
                | no o ↦ ap₂ ◌⊗◌ (ap₂ ◌⊗◌ refl (h a (omega arith))) (h c (omega arith))
              ]
            ]

  module _ (p q : ℕ) (A : ℕ → ℕ → Car) (s : Symmetric K (p + q) A) (zeros : (a c : ℕ) → a < p → c < p + q → A a c ≡ 𝟘) where
    -- a matrix whose first p rows are zero is its last block
    pub block_apply : (z : ℕ → Car) (a : ℕ) → a < q → apply K (p + q) A z (p + a) ≡ apply K q (λ a c. A (p + a) (p + c)) (λ k. z (p + k)) a
    block_apply z a l =
        sum_split K p q _
        ∙ ap₂ ◌⊕◌ (sum_none K p _ (λ c v. ap (λ t. t ⊗ z c) (zero_column (p + q) p A s zeros (p + a) c (omega arith) v (omega arith)) ∙ zero-mul K _)) refl
        ∙ zero-add K _

    pub block_form : (z : ℕ → Car) → form K (p + q) A z ≡ form K q (λ a c. A (p + a) (p + c)) (λ k. z (p + k))
    block_form z =
        form_apply (p + q) A z
        ∙ sum_split K p q _
        ∙ ap₂ ◌⊕◌
        (sum_none K p _ (λ a l. ap (λ t. z a ⊗ t) (sum_none K (p + q) _ (λ c v. ap (λ t. t ⊗ z c) (zeros a c l v) ∙ zero-mul K _)) ∙ mul-zero K _))
        (sum_ext K q _ _ (λ a l. ap (λ t. z (p + a) ⊗ t) (block_apply z a l)))
        ∙ zero-add K _
        ∙ sym (form_apply q _ _)

  -- one variable moved by t
  pub form_move : (w : ℕ) (A : ℕ → ℕ → Car) (z : ℕ → Car) (i : ℕ) (t : Car) → Symmetric K w A → i < w
      → form K w A (put i (z i ⊕ t) z) ≡ form K w A z ⊕ change K t (apply K w A z i) (A i i)
  form_move w A z i t s h =
      form_ext w A A (put i (z i ⊕ t) z) (λ k. z k ⊕ e k) (λ a c l q. refl) (λ k l. moved k)
      ∙ form_apply w A (λ k. z k ⊕ e k)
      ∙ sum_ext K w _ (λ a. (z a ⊗ r a ⊕ t ⊗ (A i a ⊗ z a)) ⊕ e a ⊗ (r a ⊕ A a i ⊗ t))
      (λ a l. ap (λ v. (z a ⊕ e a) ⊗ v) (row a) ∙ add-mul K _ _ _
      ∙ ap₂ ◌⊕◌ (mul-add _ _ _ ∙ ap (λ v. z a ⊗ r a ⊕ v) (ap (λ v. z a ⊗ (v ⊗ t)) (s a i l h) ∙ simp (mul_comm, mul_left_comm K))) refl)
      ∙ sum-add K w _ _
      ∙ ap₂ ◌⊕◌ (sum-add K w _ _ ∙ ap₂ ◌⊕◌ (sym (form_apply w A z)) (sum-mul K w t _)) tip
      ∙ regroup (form K w A z) (r i) (A i i)
    where
      -- t at place i, and 0 elsewhere
      e : ℕ → Car
      e = put i t (λ _. 𝟘)

      r : ℕ → Car
      r = apply K w A z

      moved : (k : ℕ) → put i (z i ⊕ t) z k ≡ z k ⊕ e k
      moved k = elim (ℕ_discrete k i) [
        | yes p ↦ ap (put i (z i ⊕ t) z) p ∙ put_same i _ z ∙ sym (ap (λ j. z j ⊕ e j) p ∙ ap (λ v. z i ⊕ v) (put_same i t _))
        | no p ↦ put_other i _ z k p ∙ sym (ap (λ v. z k ⊕ v) (put_other i t _ k p) ∙ add-zero _)
      ]

      row : (a : ℕ) → apply K w A (λ k. z k ⊕ e k) a ≡ r a ⊕ A a i ⊗ t
      row a =
          sum_ext K w _ _ (λ c l. mul-add _ _ _) ∙ sum-add K w _ _
          ∙ ap (λ v. r a ⊕ v) (sum_one K w i (λ c. A a c ⊗ e c) h (λ c l p. ap (λ v. A a c ⊗ v) (put_other i t _ c p) ∙ mul-zero K _) ∙ ap (λ v. A a i ⊗ v) (put_same i t _))

      tip : sum K w (λ a. e a ⊗ (r a ⊕ A a i ⊗ t)) ≡ t ⊗ (r i ⊕ A i i ⊗ t)
      tip = sum_one K w i _ h (λ a l p. ap (λ v. v ⊗ (r a ⊕ A a i ⊗ t)) (put_other i t _ a p) ∙ zero-mul K _) ∙ ap (λ v. v ⊗ (r i ⊕ A i i ⊗ t)) (put_same i t _)

      regroup : (f a q : Car) → f ⊕ t ⊗ a ⊕ t ⊗ (a ⊕ q ⊗ t) ≡ f ⊕ (t ⊗ (a ⊕ a) ⊕ t ⊗ (t ⊗ q))
      regroup f a q = simp (mul-add, add_assoc, mul_comm)
