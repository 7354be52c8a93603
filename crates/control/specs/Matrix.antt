-- Lists and matrices as functions of indices, with sums below a bound. Assumes nothing.
--
--   sum K n f             f 0 + .. + f (n − 1)
--   apply K w A z a       row a of A times z: the sum over c < w of A a c · z c
--   form K w A z          the quadratic form: the sum over a, c < w of A a c · z a · z c
--   product K m A B       the matrix product: entry a, c is the sum over k < m of A a k · B k c
--   join m f g            the list f 0, .., f (m − 1), g 0, g 1, ..
--   put i v z             the list z with v in place i
--   Symmetric K w A       A a c = A c a for all a, c < w
--   SameUpper K w i A B   A and B have the same entries on and above the diagonal, from row i on: where i ≤ a ≤ c < w
use Rattle.std.specs.Prelude.{◌≡◌, ℕ, zero, suc, ◌<◌, ◌≤◌}
use Rattle.algebra.specs.Field.{OrderedField}

abbrev pub join : {A : Type 0} → ℕ → (ℕ → A) → (ℕ → A) → ℕ → A
join zero f g k = g k
join (suc m) f g zero = f zero
join (suc m) f g (suc k) = join m (λ j. f (suc j)) g k

abbrev pub put : {A : Type 0} → ℕ → A → (ℕ → A) → ℕ → A
put zero v z zero = v
put zero v z (suc k) = z (suc k)
put (suc i) v z zero = z zero
put (suc i) v z (suc k) = put i v (λ j. z (suc j)) k

module _ (K : OrderedField) where
  infixl 60 ◌⊕◌
  infixl 70 ◌⊗◌
  open K use {Car, 𝟘, ◌⊕◌, ◌⊗◌}

  abbrev pub sum : ℕ → (ℕ → Car) → Car
  sum zero f = 𝟘
  sum (suc n) f = sum n f ⊕ f n

  abbrev pub apply : ℕ → (ℕ → ℕ → Car) → (ℕ → Car) → ℕ → Car
  apply w A z a = sum w (λ c. A a c ⊗ z c)

  abbrev pub form : ℕ → (ℕ → ℕ → Car) → (ℕ → Car) → Car
  form w A z = sum w (λ a. sum w (λ c. A a c ⊗ z a ⊗ z c))

  abbrev pub product : ℕ → (ℕ → ℕ → Car) → (ℕ → ℕ → Car) → ℕ → ℕ → Car
  product m A B a c = sum m (λ k. A a k ⊗ B k c)

  abbrev pub Symmetric : ℕ → (ℕ → ℕ → Car) → Type 0
  Symmetric w A = (a c : ℕ) → a < w → c < w → A a c ≡ A c a

  abbrev pub SameUpper : ℕ → ℕ → (ℕ → ℕ → Car) → (ℕ → ℕ → Car) → Type 0
  SameUpper w i A B = (a c : ℕ) → i ≤ a → a ≤ c → c < w → A a c ≡ B a c
