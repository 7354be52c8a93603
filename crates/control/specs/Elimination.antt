-- Elimination of the variables of a quadratic form, first to last. Assumes nothing.
--
--   scaled K A i c              row i over its diagonal entry: A i c / A i i
--   eliminate K A i             A with variable i eliminated: entry a, c loses A i a · A i c / A i i
--   reduced K A i               A with the variables 0 .. i − 1 eliminated, one after the other
--   pivot_of K A i              the diagonal entry i of A, when the variables before i are eliminated
--   factor_of K A i c           row i over that pivot, at column c
--   later_of K w A i z          the sum over i < c < w of factor_of K A i c · z c: what the later variables make of row i over its pivot
--   gap_of K w A i z            z i plus that sum: how far z i lies from where row i vanishes
--   fill K w A g j z            z with the variables j − 1, .., 0 set, the last one first, such that their gaps are g (j − 1), .., g 0
--   later_by, gap_by, fill_by   the same for any rows r of factors in place of those of A
use Rattle.std.specs.Prelude.{ℕ, zero, suc, ◌+◌, ◌-◌}
use Rattle.algebra.specs.Field.{OrderedField}
use Rattle.control.specs.Matrix.{sum, put}

module _ (K : OrderedField) where
  infixl 60 ◌⊕◌
  infixl 70 ◌⊗◌
  open K use {Car, ◌⊕◌, ◌⊗◌, neg, inv}

  unfoldable pub scaled : (ℕ → ℕ → Car) → ℕ → ℕ → Car
  scaled A i c = A i c ⊗ inv (A i i)

  unfoldable pub eliminate : (ℕ → ℕ → Car) → ℕ → ℕ → ℕ → Car
  eliminate A i a c = A a c ⊕ neg (A i a ⊗ scaled A i c)

  unfoldable pub reduced : (ℕ → ℕ → Car) → ℕ → ℕ → ℕ → Car
  reduced A zero = A
  reduced A (suc i) = eliminate (reduced A i) i

  abbrev pub pivot_of : (ℕ → ℕ → Car) → ℕ → Car
  pivot_of A i = reduced A i i i

  abbrev pub factor_of : (ℕ → ℕ → Car) → ℕ → ℕ → Car
  factor_of A i c = scaled (reduced A i) i c

  abbrev pub later_by : ℕ → (ℕ → ℕ → Car) → ℕ → (ℕ → Car) → Car
  later_by w r i z = sum K (w - suc i) (λ k. r i (suc i + k) ⊗ z (suc i + k))

  abbrev pub gap_by : ℕ → (ℕ → ℕ → Car) → ℕ → (ℕ → Car) → Car
  gap_by w r i z = z i ⊕ later_by w r i z

  unfoldable pub fill_by : ℕ → (ℕ → ℕ → Car) → (ℕ → Car) → ℕ → (ℕ → Car) → ℕ → Car
  fill_by w r g zero z = z
  fill_by w r g (suc j) z = fill_by w r g j (put j (g j ⊕ neg (later_by w r j z)) z)

  abbrev pub later_of : ℕ → (ℕ → ℕ → Car) → ℕ → (ℕ → Car) → Car
  later_of w A i z = sum K (w - suc i) (λ k. factor_of A i (suc i + k) ⊗ z (suc i + k))

  abbrev pub gap_of : ℕ → (ℕ → ℕ → Car) → ℕ → (ℕ → Car) → Car
  gap_of w A i z = z i ⊕ later_of w A i z

  unfoldable pub fill : ℕ → (ℕ → ℕ → Car) → (ℕ → Car) → ℕ → (ℕ → Car) → ℕ → Car
  fill w A g zero z = z
  fill w A g (suc j) z = fill w A g j (put j (g j ⊕ neg (later_of w A j z)) z)
