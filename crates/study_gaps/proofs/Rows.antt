-- What the row of an input holds, and the sum that is made there of what comes after the input. N is a kind of number with the values A, `here`
-- a stop before the last. Assumes nothing.
--
--   inputs_read next r u     the constant's factor, and the inputs from `next` on, at the factors r and the adjustments u
--   states_read next r u x   that, and the lateness x
use Rattle.std.proofs.Common.{◌≡◌, ℕ, suc, ◌+◌, ◌-◌, List, drop, Result, ap, ◌∙◌, subst, arith}
use mathlib.Core.Path.{fun_ext}
use Rattle.numbers.specs.declared.Number.{Ghosts}
use Rattle.numbers.specs.declared.Parts.{Parts}
use Rattle.study_terms.specs.declared.faults.kinds.Below.{Below}
use Rattle.study_terms.specs.declared.stops.Departing.{Departing}
use Rattle.study_terms.specs.Formulas.{NumberOf, Formula, known, times, sums, Outcome}
use Rattle.study_terms.specs.Sheets.{at, gains_place, x_place}
use Rattle.study_terms.specs.Sized.{shape}
use Rattle.study_terms.proofs.TrailParts.{at_drop, lateness_read}
use Rattle.study_gaps.specs.Steps.{factors_here, later_here}

module _ {A : Type 0} (N : Ghosts A) (here : Departing) where
  abbrev pub inputs_read : (next : ℕ) (r u : ℕ → NumberOf N) → Formula A (NumberOf N)
  inputs_read next r u =
      sums (known (r (here.sizes.inputs + here.sizes.states))) (here.sizes.inputs - next) (λ j. times (known (r (next + j))) (known (u (next + j))))

  abbrev pub states_read : (next : ℕ) (r u x : ℕ → NumberOf N) → Formula A (NumberOf N)
  states_read next r u x = sums (inputs_read next r u) here.sizes.states (λ j. times (known (r (here.sizes.inputs + j))) (known (x j)))

  module _ (gains : List Parts) (i : ℕ) (row : List Parts) (p : row ≡ drop (gains_place (shape here.sizes) here.stop i 0) gains) where
    pub row_read : at N row ≡ factors_here N here gains i
    row_read =
        fun_ext (λ c.
        let s = shape here.sizes in
        let e : gains_place s here.stop i 0 + c ≡ gains_place s here.stop i c = omega arith in
        ap (λ t. at N t c) p ∙ at_drop N gains (gains_place s here.stop i 0) c ∙ ap (at N gains) e)

    pub later_read : (trail late : List Parts) → late ≡ drop (x_place (shape here.sizes) here.stop 0) trail → (next : ℕ) → next ≡ suc i
        → (u : ℕ → NumberOf N) (o : Result A Below) → Outcome N (states_read next (at N row) u (at N late)) o → Outcome N (later_here N here gains trail u i) o
    later_read trail late q next e u o h =
        subst (λ x. Outcome N (states_read (suc i) (factors_here N here gains i) u x) o) (lateness_read N (shape here.sizes) trail here.stop late q)
        (subst (λ r. Outcome N (states_read (suc i) r u (at N late)) o) row_read
        (subst (λ n. Outcome N (states_read n (at N row) u (at N late)) o) e h))
