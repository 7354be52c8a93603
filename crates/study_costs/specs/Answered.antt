-- What the calls answer. N is a kind of number with the values A, m the line given to the call; a sheet with a prime is the sheet after the call.
-- Assumes nothing.
--
--   BeginAnswer, ConfirmAnswer   the stop reached and what the trail holds, or the refusal of the first check that fails and the trail as it was
--   NextAnswer                   the rows of the next lateness, or the refusal of the first of its numbers that is not held
use Rattle.std.specs.Prelude.{◌≡◌, ℕ, suc, List, length, Ok, Err, Result}
use Rattle.numbers.specs.declared.Number.{Ghosts}
use Rattle.numbers.specs.declared.Parts.{Parts}
use Rattle.lines.specs.Meaning.{Meaning}
use Rattle.study_terms.specs.declared.faults.kinds.StudyFault.{StudyFault}
use Rattle.study_terms.specs.declared.sizes.Sizes.{Sizes}
use Rattle.study_terms.specs.declared.stops.Standing.{Standing}
use Rattle.study_terms.specs.declared.stops.Departing.{Departing}
use Rattle.study_terms.specs.Calls.{begin_checks, BeginGranted, next_formula, confirm_checks, ConfirmGranted}
use Rattle.study_terms.specs.Checks.{Checks, number, each, RefusedWith}
use Rattle.study_terms.specs.Formulas.{NumberOf, Formula}
use Rattle.study_terms.specs.Refusals.{bare, refusal}
use Rattle.study_terms.specs.Sheets.{at, x_at}
use Rattle.study_terms.specs.Sized.{shape}
use Rattle.study_costs.specs.Rows.{WorkedRows}

module _ {A : Type 0} (N : Ghosts A) where
  abbrev pub BeginAnswer : Sizes → (start trail trail' : List Parts) → Result Standing StudyFault → Type 0
  BeginAnswer s start trail trail' (Ok a) = (a.sizes ≡ s) × (a.stop ≡ 0) × BeginGranted N (shape s) start trail trail'
  BeginAnswer s start trail trail' (Err e) = RefusedWith N (begin_checks N (shape s) (length start) (length trail)) (refusal e) × (trail' ≡ trail)

  module _ (m : Meaning A) where
    abbrev pub ConfirmAnswer : Departing → (made trail trail' : List Parts) → Result Standing StudyFault → Type 0
    ConfirmAnswer d made trail trail' (Ok a) =
        (a.sizes ≡ d.sizes) × (a.stop ≡ suc d.stop) × ConfirmGranted N (shape d.sizes) m d.stop made trail trail'
    ConfirmAnswer d made trail trail' (Err e) = RefusedWith N (confirm_checks N (shape d.sizes) m d.stop made trail) (refusal e) × (trail' ≡ trail)

    abbrev pub next_at : Departing → (made trail : List Parts) → ℕ → Formula A (NumberOf N)
    next_at d made trail j = next_formula N (shape d.sizes) m d.stop j (at N made) (x_at N (shape d.sizes) trail d.stop)

    abbrev pub next_checks : Departing → (made trail : List Parts) → Checks A (NumberOf N)
    next_checks d made trail = each 0 d.sizes.states (λ j. number (λ _. bare 42) (next_at d made trail j))

    abbrev pub NextAnswer : Departing → (made trail : List Parts) → Result (List Parts) StudyFault → Type 0
    NextAnswer d made trail (Ok rows) = WorkedRows N (next_at d made trail) d.sizes.states rows
    NextAnswer d made trail (Err e) = RefusedWith N (next_checks d made trail) (refusal e)
