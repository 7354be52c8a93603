-- Weigh: the backward recursion of a line, worked into the gains sheet. The checks name the exact numbers of the recursion (P, T, the reduced M,
-- pivots and factors), so they depend on the line alone. N is a kind of number with the values A, m the line. Assumes nothing.
--
--   T_formula, M_formula, factor_formula, loss_formula   how a number of steps 1 and 2, a factor, and what an entry of M becomes are worked
--   last_stop m                                          step 0: P at the last stop is G, asked by its upper half
--   product_step m n                                     step 1 at stop n: T = P F, row by row
--   sum_step m n                                         step 2: M = G + Fᵀ T, its upper half row by row
--   input_step m n i                                     step 3 for input i: its pivot, its factors, and what the rows below it lose
--   stop_steps m n                                       steps 1 to 3 at stop n
--   weigh_steps m                                        step 0, and then the stops from the last but one down
--   weigh_tests m g h                                    11: the sizes are beyond the limits; 12: the gains sheet, of g rows, is short; 13: so is the scratch sheet, of h rows
--   weigh_checks m g h                                   the tests and then the steps
--   WeighGranted ..                                      the line is weighed: the gains sheet has its numbers, the scratch sheet is zero, and no surplus is written
--   WeighRefused ..                                      a test refuses and nothing is written, or a step refuses and what both sheets need is zero
use Rattle.std.specs.Prelude.{◌≡◌, ℕ, suc, ◌-◌, List, length, nat_le}
use Rattle.control.specs.Recursion.{P, T, reduced_M, pivot, factor}
use Rattle.numbers.specs.declared.Number.{Ghosts}
use Rattle.numbers.specs.declared.Parts.{Parts}
use Rattle.lines.specs.Meaning.{Meaning}
use Rattle.study_terms.specs.Checks.{Checks, none, test, number, each, ◌then◌, Passes, RefusedWith}
use Rattle.study_terms.specs.Checks as checks
use Rattle.study_terms.specs.Formulas.{field, Formula, known, asked, minus, times, over, sums}
use Rattle.study_terms.specs.Refusals.{Refusal, bare, large_refusal}
use Rattle.study_terms.specs.Shapes.{shape_of, in_limits, width, gains_need, scratch_need}
use Rattle.study_terms.specs.Sheets.{exact_line, Cleared, Surplus, Gains}

module _ {A : Type 0} (N : Ghosts A) (m : Meaning A) where
  open field N use {Car, 𝟘}
  open m use {end, nx, nu, F, G}

  abbrev pub T_formula : ℕ → ℕ → ℕ → Formula A Car
  T_formula n a c = sums (known 𝟘) (suc nx) (λ k. times (known (P (exact_line N m) (suc n) a k)) (asked (F n k c)))

  abbrev pub M_formula : ℕ → ℕ → ℕ → Formula A Car
  M_formula n a c = sums (asked (G n a c)) (suc nx) (λ k. times (asked (F n k a)) (known (T (exact_line N m) n k c)))

  abbrev pub factor_formula : ℕ → ℕ → ℕ → Formula A Car
  factor_formula n i c = over (known (reduced_M (exact_line N m) n i i c)) (known (pivot (exact_line N m) n i))

  abbrev pub loss_formula : ℕ → ℕ → ℕ → ℕ → Formula A Car
  loss_formula n i a c =
      minus (known (reduced_M (exact_line N m) n i a c)) (times (known (reduced_M (exact_line N m) n i i a)) (known (factor (exact_line N m) n i c)))

  abbrev pub last_stop : Checks A Car
  last_stop = each 0 (suc nx) (λ a. each a (suc nx) (λ c. number (large_refusal end 0 a c) (asked (G end a c))))

  abbrev pub product_step : ℕ → Checks A Car
  product_step n = each 0 (suc nx) (λ a. each 0 (width (shape_of m)) (λ c. number (large_refusal n 1 a c) (T_formula n a c)))

  abbrev pub sum_step : ℕ → Checks A Car
  sum_step n = each 0 (width (shape_of m)) (λ a. each a (width (shape_of m)) (λ c. number (large_refusal n 2 a c) (M_formula n a c)))

  -- the pivot of input i, and its factors
  abbrev pub factor_step : ℕ → ℕ → Checks A Car
  factor_step n i = checks.pivot n i (pivot (exact_line N m) n i) then each (suc i) (width (shape_of m)) (λ c. number (large_refusal n 3 i c) (factor_formula n i c))

  -- what the rows below input i lose
  abbrev pub loss_step : ℕ → ℕ → Checks A Car
  loss_step n i = each (suc i) (width (shape_of m)) (λ a. each a (width (shape_of m)) (λ c. number (large_refusal n 3 a c) (loss_formula n i a c)))

  abbrev pub input_step : ℕ → ℕ → Checks A Car
  input_step n i = factor_step n i then loss_step n i

  abbrev pub stop_steps : ℕ → Checks A Car
  stop_steps n = product_step n then sum_step n then each 0 nu (input_step n)

  -- the stops, from the last but one down
  abbrev pub all_stops : Checks A Car
  all_stops = each 0 end (λ j. stop_steps (end - suc j))

  abbrev pub weigh_steps : Checks A Car
  weigh_steps = last_stop then all_stops

  abbrev pub weigh_tests : ℕ → ℕ → Checks A Car
  weigh_tests g h =
      test (in_limits (shape_of m)) (bare 11)
      then test (nat_le (gains_need (shape_of m)) g) (bare 12)
      then test (nat_le (scratch_need (shape_of m)) h) (bare 13)

  abbrev pub weigh_checks : ℕ → ℕ → Checks A Car
  weigh_checks g h = weigh_tests g h then weigh_steps

  pub record WeighGranted (gains gains' scratch scratch' : List Parts) : Type 0 where
    pub passes : Passes N (weigh_checks (length gains) (length scratch))
    pub sheet : Gains N m gains'
    pub surplus : Surplus (gains_need (shape_of m)) gains gains'
    pub cleared : Cleared (scratch_need (shape_of m)) scratch scratch'

  pub data WeighRefused (r : Refusal) (gains gains' scratch scratch' : List Parts) : Type 0 where
    by_a_test : RefusedWith N (weigh_tests (length gains) (length scratch)) r → gains' ≡ gains → scratch' ≡ scratch → WeighRefused r gains gains' scratch scratch'
    by_a_step : Passes N (weigh_tests (length gains) (length scratch)) → RefusedWith N weigh_steps r
        → Cleared (gains_need (shape_of m)) gains gains' → Cleared (scratch_need (shape_of m)) scratch scratch' → WeighRefused r gains gains' scratch scratch'
