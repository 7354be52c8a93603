-- What the calls that move a study promise, for every input: what each leaves when it is granted, and that a refusal is the first of its checks that
-- fails, hands the study back and leaves the sheets. N is a kind of number with the values A. Assumes nothing.
--
--   WeighPromise, BeginPromise, ProposePromise, ConfirmPromise   of the study, the sheets before and after, and the answer
--   ClosePromise u r                                             a close at the last stop gives the study back weighed
use Rattle.std.specs.Prelude.{◌≡◌, suc, List, length, Result, MatchResult}
use Rattle.numbers.specs.declared.Number.{Ghosts}
use Rattle.numbers.specs.declared.Parts.{Parts}
use Rattle.lines.specs.Meaning.{Meaning}
use Rattle.study_terms.specs.declared.faults.kinds.StudyFault.{StudyFault}
use Rattle.study_terms.specs.Shapes.{shape_of}
use Rattle.study_terms.specs.Sized.{shape}
use Rattle.study_terms.specs.Refusals.{refusal}
use Rattle.study_terms.specs.Checks.{Passes, RefusedWith}
use Rattle.study_terms.specs.Weighing.{WeighGranted, WeighRefused}
use Rattle.study_terms.specs.Calls.{begin_checks, propose_checks, confirm_checks, close_checks, BeginGranted, ProposeGranted, ConfirmGranted}
use Rattle.study_theory.specs.Runs.{weighed, underway, ordered}
use Rattle.study.specs.declared.states.New.{New}
use Rattle.study.specs.declared.states.Weighed.{Weighed}
use Rattle.study.specs.declared.states.Underway.{Underway}
use Rattle.study.specs.declared.states.Ordered.{Ordered}
use Rattle.study.specs.Stages.{weighed_stage, underway_stage, ordered_stage}

module _ {A : Type 0} (N : Ghosts A) where
  abbrev pub WeighPromise : New A → Meaning A → List Parts → List Parts → List Parts → List Parts → Result (Weighed A) (New A × StudyFault) → Type 0
  WeighPromise n m gains gains' scratch scratch' r = MatchResult r
      (λ w. (weighed_stage w ≡ weighed (shape_of m)) × WeighGranted N m gains gains' scratch scratch')
      (λ e. (e.0 ≡ n) × WeighRefused N m (refusal e.1) gains gains' scratch scratch')

  abbrev pub BeginPromise : Weighed A → List Parts → List Parts → List Parts → Result (Underway A) (Weighed A × StudyFault) → Type 0
  BeginPromise w start trail trail' r = MatchResult r
      (λ u. (underway_stage u ≡ underway (shape w.sizes) 0) × BeginGranted N (shape w.sizes) start trail trail')
      (λ e. (e.0 ≡ w) × RefusedWith N (begin_checks N (shape w.sizes) (length start) (length trail)) (refusal e.1) × (trail' ≡ trail))

  abbrev pub ProposePromise : Underway A → List Parts → List Parts → List Parts → List Parts → Result (Ordered A) (Underway A × StudyFault) → Type 0
  ProposePromise u gains trail slip slip' r = MatchResult r
      (λ o. (ordered_stage o ≡ ordered (shape u.at.sizes) u.at.stop) × ProposeGranted N (shape u.at.sizes) u.at.stop gains trail slip slip')
      (λ e. (e.0 ≡ u) × RefusedWith N (propose_checks N (shape u.at.sizes) u.at.stop gains trail (length slip)) (refusal e.1) × (slip' ≡ slip))

  abbrev pub ConfirmPromise : Ordered A → Meaning A → List Parts → List Parts → List Parts → Result (Underway A) (Ordered A × StudyFault) → Type 0
  ConfirmPromise o m made trail trail' r = MatchResult r
      (λ u. (underway_stage u ≡ underway (shape o.at.sizes) (suc o.at.stop)) × ConfirmGranted N (shape o.at.sizes) m o.at.stop made trail trail')
      (λ e. (e.0 ≡ o) × RefusedWith N (confirm_checks N (shape o.at.sizes) m o.at.stop made trail) (refusal e.1) × (trail' ≡ trail))

  abbrev pub ClosePromise : Underway A → Result (Weighed A) (Underway A × StudyFault) → Type 0
  ClosePromise u r = MatchResult r
      (λ w. (weighed_stage w ≡ weighed (shape u.at.sizes)) × Passes N (close_checks N (shape u.at.sizes) u.at.stop))
      (λ e. (e.0 ≡ u) × RefusedWith N (close_checks N (shape u.at.sizes) u.at.stop) (refusal e.1))
