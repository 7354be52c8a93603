-- The stage that each state of a study is. Assumes nothing.
--
--   weighed_stage w, underway_stage u, ordered_stage o   the stage of a weighed study, of one underway, of one ordered
use Rattle.study_terms.specs.Sized.{shape}
use Rattle.study_theory.specs.Runs.{Stage, weighed, underway, ordered}
use Rattle.study.specs.declared.states.Weighed.{Weighed}
use Rattle.study.specs.declared.states.Underway.{Underway}
use Rattle.study.specs.declared.states.Ordered.{Ordered}

abbrev pub weighed_stage : {N : Type 0} → Weighed N → Stage
weighed_stage w = weighed (shape w.sizes)

abbrev pub underway_stage : {N : Type 0} → Underway N → Stage
underway_stage u = underway (shape u.at.sizes) u.at.stop

abbrev pub ordered_stage : {N : Type 0} → Ordered N → Stage
ordered_stage o = ordered (shape o.at.sizes) o.at.stop
