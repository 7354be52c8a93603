-- What the steps of the two calls answer. N is a kind of number with the values A, `here` a stop before the last. Assumes nothing.
--
--   factors_here N here gains, lateness_here N here trail   the factors and the lateness of the stop
--   later_here N here gains trail u i, plan_here ..         the sum of input i at the adjustments u, and 0 minus it
--   gap_here N here gains trail i                           the gap of input i, of the adjustments in the trail
--   planned_here N here gains trail                         the plan
--   plan_checks N here gains trail                          what propose checks last: the numbers of the plan, from the last input to the first
--   Planned N here gains trail rows                         these pass, and the rows are those of the plan
--   PlanAnswered N here gains trail r                       r is these rows, or the first of the checks that fails
use Rattle.std.specs.Prelude.{ℕ, suc, ◌-◌, ◌<◌, List, Ok, Err, Result, slice_index_or}
use Rattle.numbers.specs.declared.Number.{Ghosts}
use Rattle.numbers.specs.declared.Parts.{Parts}
use Rattle.study_terms.specs.declared.faults.kinds.StudyFault.{StudyFault}
use Rattle.study_terms.specs.declared.stops.Departing.{Departing}
use Rattle.study_terms.specs.Calls.{later_formula, plan_formula, gap_formula, planned}
use Rattle.study_terms.specs.Checks.{Checks, number, each, Passes, RefusedWith}
use Rattle.study_terms.specs.Formulas.{field, Formula}
use Rattle.study_terms.specs.Refusals.{bare, refusal}
use Rattle.study_terms.specs.Sheets.{blank, Written, gains_at, x_at, u_at}
use Rattle.study_terms.specs.Sized.{shape}

module _ {A : Type 0} (N : Ghosts A) where
  open field N use {Car}

  module _ (here : Departing) where
    abbrev pub factors_here : List Parts → ℕ → ℕ → Car
    factors_here gains = gains_at N (shape here.sizes) gains here.stop

    abbrev pub lateness_here : List Parts → ℕ → Car
    lateness_here trail = x_at N (shape here.sizes) trail here.stop

    module _ (gains trail : List Parts) where
      abbrev pub later_here : (ℕ → Car) → ℕ → Formula A Car
      later_here u i = later_formula N (shape here.sizes) (factors_here gains) i u (lateness_here trail)

      abbrev pub plan_here : (ℕ → Car) → ℕ → Formula A Car
      plan_here u i = plan_formula N (shape here.sizes) (factors_here gains) i u (lateness_here trail)

      abbrev pub gap_here : ℕ → Formula A Car
      gap_here i = gap_formula N (shape here.sizes) (factors_here gains) i (u_at N (shape here.sizes) trail here.stop) (lateness_here trail)

      abbrev pub planned_here : ℕ → Car
      planned_here = planned N (shape here.sizes) (factors_here gains) (lateness_here trail)

      abbrev pub plan_checks : Checks A Car
      plan_checks = each 0 here.sizes.inputs (λ j. number (λ _. bare 32) (plan_here planned_here (here.sizes.inputs - suc j)))

      pub record Planned (rows : List Parts) : Type 0 where
        pub passes : Passes N plan_checks
        pub plan : (i : ℕ) → i < here.sizes.inputs → Written N (planned_here i) (slice_index_or rows i blank)

      abbrev pub PlanAnswered : Result (List Parts) StudyFault → Type 0
      PlanAnswered (Ok rows) = Planned rows
      PlanAnswered (Err e) = RefusedWith N plan_checks (refusal e)
