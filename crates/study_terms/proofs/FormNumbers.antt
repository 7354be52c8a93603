-- The exact numbers of formulas: sums, quadratic forms, the next lateness, and the costs that paid and rest answer. N is a kind of number with
-- the values A. Assumes nothing.
use Rattle.std.proofs.Common.{◌≡◌, ℕ, zero, suc, List, sym, refl, ap, ◌∙◌, subst}
use Rattle.control.specs.Line.{next, stage_cost}
use Rattle.control.specs.Matrix.{sum, form}
use Rattle.control.proofs.Laws.{zero-add}
use Rattle.control.proofs.Sums.{sum_ext}
use Rattle.lines.specs.Meaning.{Meaning}
use Rattle.numbers.specs.declared.Number.{Ghosts}
use Rattle.numbers.specs.declared.Parts.{Parts}
use Rattle.study_terms.specs.Calls.{rows_formula, form_formula, next_formula, stage_formula, paid_formula, paid_at, rest_formula, rest_at}
use Rattle.study_terms.specs.Formulas.{field, Formula, known, sums, exact}
use Rattle.study_terms.specs.Shapes.{Shape, shape_of}
use Rattle.study_terms.specs.Sheets.{exact_line, x_at, u_at}

module _ {A : Type 0} (N : Ghosts A) where
  infixl 60 ◌⊕◌
  infixl 70 ◌⊗◌
  open field N use {Car, 𝟘, ◌⊕◌, ◌⊗◌, add_assoc, add-zero}

  pub sums_exact : (s : Formula A Car) (n : ℕ) (f : ℕ → Formula A Car) → exact N (sums s n f) ≡ exact N s ⊕ sum (field N) n (λ k. exact N (f k))
  sums_exact s zero f = sym (add-zero (exact N s))
  sums_exact s (suc n) f = ap (λ t. t ⊕ exact N (f n)) (sums_exact s n f) ∙ add_assoc _ _ _

  -- a sum from 0
  pub sums_from_zero : (n : ℕ) (f : ℕ → Formula A Car) → exact N (sums (known 𝟘) n f) ≡ sum (field N) n (λ k. exact N (f k))
  sums_from_zero n f = sums_exact (known 𝟘) n f ∙ zero-add (field N) _

  rows_exact : (w a : ℕ) (M : ℕ → ℕ → Formula A Car) (z : ℕ → Car)
      → exact N (rows_formula N w a M z) ≡ sum (field N) a (λ a. sum (field N) w (λ c. exact N (M a c) ⊗ z a ⊗ z c))
  rows_exact w zero M z = refl
  rows_exact w (suc a) M z = sums_exact (rows_formula N w a M z) w _ ∙ ap (λ t. t ⊕ sum (field N) w (λ c. exact N (M a c) ⊗ z a ⊗ z c)) (rows_exact w a M z)

  pub form_exact : (w : ℕ) (M : ℕ → ℕ → Formula A Car) (z : ℕ → Car) → exact N (form_formula N w M z) ≡ form (field N) w (λ a c. exact N (M a c)) z
  form_exact w M z = rows_exact w w M z

  pub rest_number : (s : Shape) (gains trail : List Parts) (k : ℕ) → exact N (rest_formula N s gains trail k) ≡ rest_at N s gains trail k
  rest_number s gains trail k = form_exact (suc s.nx) _ _

  module _ (m : Meaning A) where
    next_of_line : (n j : ℕ) (u x : ℕ → Car) → exact N (next_formula N (shape_of m) m n j u x) ≡ next (exact_line N m) n u x j
    unfolding next
    next_of_line n j u x = sums_from_zero _ _

    -- where the line has the shape of the study
    pub next_exact : (s : Shape) → shape_of m ≡ s → (n j : ℕ) (u x : ℕ → Car) → exact N (next_formula N s m n j u x) ≡ next (exact_line N m) n u x j
    next_exact s e n j u x = subst (λ s. exact N (next_formula N s m n j u x) ≡ next (exact_line N m) n u x j) e (next_of_line n j u x)

    stage_of_line : (trail : List Parts) (n : ℕ)
        → exact N (stage_formula N (shape_of m) m trail n) ≡ stage_cost (exact_line N m) n (u_at N (shape_of m) trail n) (x_at N (shape_of m) trail n)
    unfolding stage_cost
    stage_of_line trail n = form_exact _ _ _

    pub paid_number : (s : Shape) → shape_of m ≡ s → (trail : List Parts) (k : ℕ) → exact N (paid_formula N s m trail k) ≡ paid_at N s m trail k
    paid_number s e trail k =
        subst (λ s. exact N (paid_formula N s m trail k) ≡ paid_at N s m trail k) e
        (sums_from_zero k _ ∙ sum_ext (field N) k _ _ (λ n _. stage_of_line trail n))
