-- What proposing a stop's plan answers. N is a kind of number with the values A. Assumes nothing.
--
--   Proposed N at gains trail slip slip' r   r is the answer of propose at the stop `at`: the stop, where the plan is left in the slip, or the first
--                                            check that fails, where the slip is as it was
use Rattle.std.specs.Prelude.{◌≡◌, List, length, Ok, Err, Result}
use Rattle.numbers.specs.declared.Number.{Ghosts}
use Rattle.numbers.specs.declared.Parts.{Parts}
use Rattle.study_terms.specs.declared.faults.kinds.StudyFault.{StudyFault}
use Rattle.study_terms.specs.declared.stops.Departing.{Departing}
use Rattle.study_terms.specs.declared.stops.Standing.{Standing}
use Rattle.study_terms.specs.Calls.{propose_checks, ProposeGranted}
use Rattle.study_terms.specs.Checks.{RefusedWith}
use Rattle.study_terms.specs.Refusals.{refusal}
use Rattle.study_terms.specs.Sized.{shape}

abbrev pub Proposed : {A : Type 0} → Ghosts A → Standing → List Parts → List Parts → List Parts → List Parts → Result Departing StudyFault → Type 0
Proposed N at gains trail slip slip' (Ok d) = (d.sizes ≡ at.sizes) × (d.stop ≡ at.stop) × ProposeGranted N (shape at.sizes) at.stop gains trail slip slip'
Proposed N at gains trail slip slip' (Err e) = RefusedWith N (propose_checks N (shape at.sizes) at.stop gains trail (length slip)) (refusal e) × (slip' ≡ slip)
