-- The exact numbers of the formulas over gaps, in the words of the theory of plans. Assumes nothing.
--
--   later_number, gap_number   the sum of the later ones, and the gap
--   planned_stacked            the plan at a stop stands in front of (x, 1) already
--   planned_gap                the plan has no gap
--   plan_number                0 minus the sum that the plan itself makes is the plan
--   excess_number              the excess as it is worked is the sum of pivot × gap²
use Rattle.std.proofs.Common.{◌≡◌, ℕ, zero, suc, ◌+◌, ◌-◌, ◌<◌, List, sym, refl, ap, ◌∙◌, ap₂, arith}
use Rattle.control.specs.Elimination.{later_by, gap_by}
use Rattle.control.specs.Matrix.{sum}
use Rattle.control.proofs.Gaps.{fill_keeps_by, fill_gap_by}
use Rattle.control.proofs.Laws.{sub-add, add_cancel}
use Rattle.control.proofs.Lists.{join_left, join_right, join_self}
use Rattle.control.proofs.Sums.{sum_ext, sum_split}
use Rattle.numbers.specs.declared.Number.{Ghosts}
use Rattle.numbers.specs.declared.Parts.{Parts}
use Rattle.study_terms.specs.Calls.{later_formula, plan_formula, gap_formula, planned, gap_at, square_formula, excess_formula, excess_at}
use Rattle.study_terms.specs.Formulas.{field, known, exact}
use Rattle.study_terms.specs.Shapes.{Shape, width}
use Rattle.study_terms.proofs.FormNumbers.{sums_exact}
use Rattle.study_terms.specs.Sheets.{gains_at, x_at, u_at, state_list, stacked_list}

module _ {A : Type 0} (N : Ghosts A) where
  infixl 60 ◌⊕◌
  infixl 70 ◌⊗◌
  open field N use {Car, 𝟘, 𝟙, ◌⊕◌, ◌⊗◌, neg, add_assoc, add_comm, add-zero, mul-one, mul_assoc}

  module _ (s : Shape) where
    open s use {nx, nu}

    stacked_state : (u x : ℕ → Car) (j : ℕ) → j < nx → stacked_list N s u x (nu + j) ≡ x j
    stacked_state u x j l = join_right nu u (state_list N s x) j ∙ join_left nx x (λ _. 𝟙) j l

    stacked_one : (u x : ℕ → Car) → stacked_list N s u x (nu + nx) ≡ 𝟙
    stacked_one u x = let e : nx ≡ nx + 0 = omega arith in join_right nu u (state_list N s x) nx ∙ ap (state_list N s x) e ∙ join_right nx x (λ _. 𝟙) 0

    pub later_number : (r : ℕ → ℕ → Car) (i : ℕ) (u x : ℕ → Car) → i < nu → exact N (later_formula N s r i u x) ≡ later_by (field N) (width s) r i (stacked_list N s u x)
    later_number r i u x l =
        let K = field N in
        let p = nu - suc i in
        let f : ℕ → Car = λ k. r i (suc i + k) ⊗ stacked_list N s u x (suc i + k) in
        let inputs : Car = sum K p f in
        let states : Car = sum K nx (λ j. r i (nu + j) ⊗ x j) in
        let constant = r i (nu + nx) in
        let e : nu + suc nx - suc i ≡ p + suc nx = omega arith in
        let shift : (k : ℕ) → suc i + (p + k) ≡ nu + k = λ k. omega arith in
        let past : (k : ℕ) → f (p + k) ≡ r i (nu + k) ⊗ stacked_list N s u x (nu + k) = λ k. ap (λ c. r i c ⊗ stacked_list N s u x c) (shift k) in
        let worked : exact N (later_formula N s r i u x) ≡ (constant ⊕ inputs) ⊕ states =
        sums_exact N _ nx _
        ∙ ap (λ t. t ⊕ states) (sums_exact N (known constant) p _
        ∙ ap (λ t. constant ⊕ t) (sum_ext K p _ f (λ k h. ap (λ t. r i (suc i + k) ⊗ t) (sym (join_left nu u (state_list N s x) (suc i + k) (omega arith)))))) in
        let meant : later_by K (width s) r i (stacked_list N s u x) ≡ inputs ⊕ (states ⊕ constant) =
        ap (λ n. sum K n f) e
        ∙ sum_split K p (suc nx) f
        ∙ ap (λ t. inputs ⊕ t) (ap₂ ◌⊕◌
        (sum_ext K nx _ _ (λ k h. past k ∙ ap (λ t. r i (nu + k) ⊗ t) (stacked_state u x k h)))
        (past nx ∙ ap (λ t. constant ⊗ t) (stacked_one u x) ∙ mul-one constant)) in
        worked ∙ add_assoc _ _ _ ∙ add_comm _ _ ∙ add_assoc _ _ _ ∙ sym meant

    pub gap_number : (r : ℕ → ℕ → Car) (i : ℕ) (u x : ℕ → Car) → i < nu → exact N (gap_formula N s r i u x) ≡ gap_by (field N) (width s) r i (stacked_list N s u x)
    gap_number r i u x l = ap₂ ◌⊕◌ (sym (join_left nu u (state_list N s x) i l)) (later_number r i u x l)

    module _ (r : ℕ → ℕ → Car) (x : ℕ → Car) where
      pub planned_stacked : stacked_list N s (planned N s r x) x ≡ planned N s r x
      planned_stacked =
          join_self nu _ (state_list N s x)
          (λ k. fill_keeps_by (field N) (width s) r (λ _. 𝟘) nu (stacked_list N s (λ _. 𝟘) x) (nu + k) (omega arith) ∙ join_right nu (λ _. 𝟘) (state_list N s x) k)

      pub planned_gap : (i : ℕ) → i < nu → gap_by (field N) (width s) r i (planned N s r x) ≡ 𝟘
      planned_gap i l = fill_gap_by (field N) (width s) r (λ _. 𝟘) nu (stacked_list N s (λ _. 𝟘) x) i l

      pub plan_number : (i : ℕ) → i < nu → exact N (plan_formula N s r i (planned N s r x) x) ≡ planned N s r x i
      plan_number i l =
          let K = field N in
          let later = later_by K (width s) r i (planned N s r x) in
          ap (λ t. 𝟘 ⊕ neg t) (later_number r i (planned N s r x) x l ∙ ap (later_by K (width s) r i) planned_stacked)
          ∙ add_cancel K (𝟘 ⊕ neg later) (planned N s r x i) later (sub-add K 𝟘 later ∙ sym (planned_gap i l))

    module _ (gains trail : List Parts) where
      pub square_number : (n i : ℕ) → i < nu
          → exact N (square_formula N s gains trail n i) ≡ gains_at N s gains n i i ⊗ (gap_at N s gains trail n i ⊗ gap_at N s gains trail n i)
      square_number n i l =
          let e = gap_number (gains_at N s gains n) i (u_at N s trail n) (x_at N s trail n) l in
          ap₂ (λ a b. gains_at N s gains n i i ⊗ a ⊗ b) e e ∙ mul_assoc _ _ _

      pub excess_number : (k : ℕ) → exact N (excess_formula N s gains trail k) ≡ excess_at N s gains trail k
      excess_number zero = refl
      excess_number (suc n) =
          sums_exact N (excess_formula N s gains trail n) nu _ ∙ ap₂ ◌⊕◌ (excess_number n) (sum_ext (field N) nu _ _ (λ i l. square_number n i l))
