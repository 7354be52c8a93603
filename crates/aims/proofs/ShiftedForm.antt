-- A quadratic form whose last variable is 1, taken at a shifted list: the shift goes into the last row and column. Assumes nothing.
use Rattle.std.proofs.Common.{◌≡◌, ℕ, suc, ◌<◌, sym, refl, ap, ◌∙◌, ap₂, arith}
use Rattle.algebra.specs.Field.{OrderedField}
use Rattle.algebra.proofs.ExactField.{ring_of}
use Rattle.algebra.proofs.RingSolver.{◌:+◌, ◌:*◌, :neg, ◌≋◌, solve₂, solve₃, solve₄, solve₆}
use Rattle.control.specs.Matrix.{sum, apply, form}
use Rattle.control.proofs.Forms.{form_apply}
use Rattle.control.proofs.Sums.{sum_ext, sum-add, sum-mul, sum_swap}

module _ (K : OrderedField) where
  infixl 60 ◌⊕◌
  infixl 70 ◌⊗◌
  open K use {Car, 𝟘, 𝟙, ◌⊕◌, ◌⊗◌, neg, add_assoc, add_comm, add-zero, mul_assoc, mul_comm, mul-one, mul-add}

  sum-neg : (n : ℕ) (f : ℕ → Car) → sum K n (λ k. neg (f k)) ≡ neg (sum K n f)
  sum-neg n f =
      sum_ext K n _ (λ k. neg 𝟙 ⊗ f k) (λ k l. minus (f k)) ∙ sum-mul K n (neg 𝟙) f ∙ sym (minus (sum K n f))
    where
      minus : (a : Car) → neg a ≡ neg 𝟙 ⊗ a
      minus a = ap neg (sym (mul-one a)) ∙ solve₂ (ring_of K) (λ a b. :neg (a :* b) ≋ :neg b :* a) tt a 𝟙

  pub sum-sub : (n : ℕ) (f g : ℕ → Car) → sum K n (λ k. f k ⊕ neg (g k)) ≡ sum K n f ⊕ neg (sum K n g)
  sum-sub n f g = sum-add K n f (λ k. neg (g k)) ∙ ap (λ t. sum K n f ⊕ t) (sum-neg n g)

  -- the last row and column apart
  pub border : (w : ℕ) (A : ℕ → ℕ → Car) (z : ℕ → Car) → z w ≡ 𝟙 → ((a : ℕ) → a < w → A w a ≡ A a w)
      → form K (suc w) A z ≡ form K w A z ⊕ (sum K w (λ a. A a w ⊗ z a) ⊕ sum K w (λ a. A a w ⊗ z a)) ⊕ A w w
  border w A z one same =
      ap₂ ◌⊕◌
      (sum-add K w (λ a. sum K w (λ c. A a c ⊗ z a ⊗ z c)) (λ a. A a w ⊗ z a ⊗ z w)
      ∙ ap (λ t. form K w A z ⊕ t) (sum_ext K w _ _ (λ a l. ap (λ t. A a w ⊗ z a ⊗ t) one ∙ mul-one _)))
      (ap₂ ◌⊕◌ (sum_ext K w _ _ (λ a l. ap (λ t. A w a ⊗ t ⊗ z a) one ∙ ap (λ t. t ⊗ z a) (mul-one _ ∙ same a l)))
      (ap (λ t. A w w ⊗ t ⊗ t) one ∙ mul-one _ ∙ mul-one _))
      ∙ solve₃ (ring_of K) (λ f l c. (f :+ l) :+ (l :+ c) ≋ f :+ (l :+ l) :+ c) tt (form K w A z) (sum K w (λ a. A a w ⊗ z a)) (A w w)

  module _ (w : ℕ) (A : ℕ → ℕ → Car) (symmetric : (a c : ℕ) → a < w → c < w → A a c ≡ A c a) (z s : ℕ → Car) where
    -- what the shift makes of row a
    abbrev q : ℕ → Car
    q a = apply K w A s a

    abbrev y : ℕ → Car
    y a = z a ⊕ neg (s a)

    apply_shift : (a : ℕ) → apply K w A y a ≡ apply K w A z a ⊕ neg (q a)
    apply_shift a =
        sum_ext K w _ (λ c. A a c ⊗ z c ⊕ neg (A a c ⊗ s c)) (λ c l. solve₃ (ring_of K) (λ a z s. a :* (z :+ :neg s) ≋ a :* z :+ :neg (a :* s)) tt (A a c) (z c) (s c))
        ∙ sum-sub w _ _

    crossed : sum K w (λ a. s a ⊗ apply K w A z a) ≡ sum K w (λ a. z a ⊗ q a)
    crossed =
        sum_ext K w _ (λ a. sum K w (λ c. s a ⊗ (A a c ⊗ z c))) (λ a l. sym (sum-mul K w (s a) _))
        ∙ sum_swap K w w _
        ∙ sum_ext K w _ _ (λ c l. sum_ext K w _ (λ a. z c ⊗ (A c a ⊗ s a)) (λ a h. ap (λ t. s a ⊗ (t ⊗ z c)) (symmetric a c h l) ∙ solve₃ (ring_of K) (λ s a z. s :* (a :* z) ≋ z :* (a :* s)) tt (s a) (A c a) (z c)) ∙ sum-mul K w (z c) _)

    pub form_shift : form K w A y ≡ form K w A z ⊕ neg (sum K w (λ a. z a ⊗ q a) ⊕ sum K w (λ a. z a ⊗ q a)) ⊕ sum K w (λ a. s a ⊗ q a)
    form_shift =
        form_apply K w A y
        ∙ sum_ext K w _ (λ a. (z a ⊗ apply K w A z a ⊕ neg (z a ⊗ q a)) ⊕ neg (s a ⊗ apply K w A z a ⊕ neg (s a ⊗ q a)))
        (λ a l. ap (λ t. y a ⊗ t) (apply_shift a) ∙ solve₄ (ring_of K) (λ z s p q. (z :+ :neg s) :* (p :+ :neg q) ≋ (z :* p :+ :neg (z :* q)) :+ :neg (s :* p :+ :neg (s :* q))) tt (z a) (s a) (apply K w A z a) (q a))
        ∙ sum-sub w _ _
        ∙ ap₂ (λ (p r : Car). p ⊕ neg r) (sum-sub w (λ a. z a ⊗ apply K w A z a) _) (sum-sub w (λ a. s a ⊗ apply K w A z a) _)
        ∙ ap₂ (λ (p r : Car). (p ⊕ neg (sum K w (λ a. z a ⊗ q a))) ⊕ neg (r ⊕ neg (sum K w (λ a. s a ⊗ q a)))) (sym (form_apply K w A z)) crossed
        ∙ solve₃ (ring_of K) (λ f t s. (f :+ :neg t) :+ :neg (t :+ :neg s) ≋ f :+ :neg (t :+ t) :+ s) tt (form K w A z) (sum K w (λ a. z a ⊗ q a)) (sum K w (λ a. s a ⊗ q a))

  -- the form of A at the shifted list is that of B at the list
  pub shifted_form : (w : ℕ) (A B : ℕ → ℕ → Car) (z s y : ℕ → Car)
      → ((a c : ℕ) → a < suc w → c < suc w → A a c ≡ A c a) → ((a c : ℕ) → a < suc w → c < suc w → B a c ≡ B c a)
      → z w ≡ 𝟙 → y w ≡ 𝟙 → ((a : ℕ) → a < w → y a ≡ z a ⊕ neg (s a))
      → ((a c : ℕ) → a < w → c < w → B a c ≡ A a c)
      → ((a : ℕ) → a < w → B a w ≡ A a w ⊕ neg (apply K w A s a))
      → B w w ≡ A w w ⊕ neg (sum K w (λ k. (B k w ⊕ A k w) ⊗ s k))
      → form K (suc w) B z ≡ form K (suc w) A y
  shifted_form w A B z s y sa sb zw yw shift inner column corner =
      let Q = λ (a : ℕ). apply K w A s a in
      let LZ = sum K w (λ a. A a w ⊗ z a) in
      let LS = sum K w (λ a. A a w ⊗ s a) in
      let QZ = sum K w (λ a. z a ⊗ Q a) in
      let QS = sum K w (λ a. s a ⊗ Q a) in
      let FZ = form K w A z in
      let low : (a c : ℕ) → a < w → c < w → A a c ≡ A c a = λ a c h l. sa a c (omega arith) (omega arith) in
      let at_z : form K (suc w) B z ≡ FZ ⊕ ((LZ ⊕ neg QZ) ⊕ (LZ ⊕ neg QZ)) ⊕ (A w w ⊕ neg ((LS ⊕ neg QS) ⊕ LS)) =
      border w B z zw (λ a l. sb w a (omega arith) (omega arith))
      ∙ ap₂ ◌⊕◌ (ap₂ ◌⊕◌ (sum_ext K w _ _ (λ a h. sum_ext K w _ _ (λ c l. ap (λ t. t ⊗ z a ⊗ z c) (inner a c h l)))) (ap (λ t. t ⊕ t) (linear w A B z Q column)))
      (corner ∙ ap (λ t. A w w ⊕ neg t) (pairs w A B s Q column)) in
      let at_y : form K (suc w) A y ≡ (FZ ⊕ neg (QZ ⊕ QZ) ⊕ QS) ⊕ ((LZ ⊕ neg LS) ⊕ (LZ ⊕ neg LS)) ⊕ A w w =
      border w A y yw (λ a l. sa w a (omega arith) (omega arith))
      ∙ ap₂ ◌⊕◌ (ap₂ ◌⊕◌ (same_form w A y z s shift ∙ form_shift w A low z s) (ap (λ t. t ⊕ t) (moved w A y z s shift))) refl in
      at_z ∙ solve₆ (ring_of K) (λ f lz ls qz qs c. f :+ ((lz :+ :neg qz) :+ (lz :+ :neg qz)) :+ (c :+ :neg ((ls :+ :neg qs) :+ ls)) ≋ (f :+ :neg (qz :+ qz) :+ qs) :+ ((lz :+ :neg ls) :+ (lz :+ :neg ls)) :+ c) tt FZ LZ LS QZ QS (A w w)
      ∙ sym at_y
    where
      linear : (w : ℕ) (A B : ℕ → ℕ → Car) (z Q : ℕ → Car) → ((a : ℕ) → a < w → B a w ≡ A a w ⊕ neg (Q a)) → sum K w (λ a. B a w ⊗ z a) ≡ sum K w (λ a. A a w ⊗ z a) ⊕ neg (sum K w (λ a. z a ⊗ Q a))
      linear w A B z Q column =
          sum_ext K w _ (λ a. A a w ⊗ z a ⊕ neg (z a ⊗ Q a)) (λ a l. ap (λ t. t ⊗ z a) (column a l) ∙ solve₃ (ring_of K) (λ a q z. (a :+ :neg q) :* z ≋ a :* z :+ :neg (z :* q)) tt (A a w) (Q a) (z a))
          ∙ sum-sub w _ _

      pairs : (w : ℕ) (A B : ℕ → ℕ → Car) (s Q : ℕ → Car) → ((a : ℕ) → a < w → B a w ≡ A a w ⊕ neg (Q a))
          → sum K w (λ k. (B k w ⊕ A k w) ⊗ s k) ≡ (sum K w (λ a. A a w ⊗ s a) ⊕ neg (sum K w (λ a. s a ⊗ Q a))) ⊕ sum K w (λ a. A a w ⊗ s a)
      pairs w A B s Q column =
          sum_ext K w _ (λ a. (A a w ⊗ s a ⊕ neg (s a ⊗ Q a)) ⊕ A a w ⊗ s a)
          (λ a l. ap (λ t. (t ⊕ A a w) ⊗ s a) (column a l) ∙ solve₃ (ring_of K) (λ a q s. ((a :+ :neg q) :+ a) :* s ≋ (a :* s :+ :neg (s :* q)) :+ a :* s) tt (A a w) (Q a) (s a))
          ∙ sum-add K w _ _ ∙ ap (λ t. t ⊕ sum K w (λ a. A a w ⊗ s a)) (sum-sub w _ _)

      moved : (w : ℕ) (A : ℕ → ℕ → Car) (y z s : ℕ → Car) → ((a : ℕ) → a < w → y a ≡ z a ⊕ neg (s a)) → sum K w (λ a. A a w ⊗ y a) ≡ sum K w (λ a. A a w ⊗ z a) ⊕ neg (sum K w (λ a. A a w ⊗ s a))
      moved w A y z s shift =
          sum_ext K w _ (λ a. A a w ⊗ z a ⊕ neg (A a w ⊗ s a)) (λ a l. ap (λ t. A a w ⊗ t) (shift a l) ∙ solve₃ (ring_of K) (λ a z s. a :* (z :+ :neg s) ≋ a :* z :+ :neg (a :* s)) tt (A a w) (z a) (s a))
          ∙ sum-sub w _ _

      same_form : (w : ℕ) (A : ℕ → ℕ → Car) (y z s : ℕ → Car) → ((a : ℕ) → a < w → y a ≡ z a ⊕ neg (s a)) → form K w A y ≡ form K w A (λ a. z a ⊕ neg (s a))
      same_form w A y z s shift = sum_ext K w _ _ (λ a h. sum_ext K w _ _ (λ c l. ap₂ ◌⊗◌ (ap₂ ◌⊗◌ refl (shift a h)) (shift c l)))
