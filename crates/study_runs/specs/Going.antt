-- How one command leads from a study and its sheets to the next, whatever the run before. N is a kind of number with the values A, m the line.
-- Assumes nothing.
--
--   stage_of study                                               the stage that a study in any of its states is
--   Stood u trail study a                                        the study is u, underway, and the answer a tells its stop and the lateness there
--   world stage gains trail ledger                               the world of a run
--   Leads N m command a stage stage' gains gains' trail trail'   with every ledger the command, answered by a, makes one step from the world of
--                                                                the one stage and sheets to that of the other
--   Stays ..                                                     the stage does not allow the command: it makes no call and changes nothing
--   Goes ..                                                      one or the other
use Rattle.std.specs.Prelude.{◌≡◌, ◌⊎◌, List}
use Rattle.numbers.specs.declared.Number.{Ghosts}
use Rattle.numbers.specs.declared.Parts.{Parts}
use Rattle.lines.specs.Meaning.{Meaning}
use Rattle.study_terms.specs.Formulas.{NumberOf}
use Rattle.study_terms.specs.Sized.{shape}
use Rattle.study.specs.declared.states.Underway.{Underway}
use Rattle.study.specs.Stages.{weighed_stage, underway_stage, ordered_stage}
use Rattle.study_theory.specs.Runs.{Stage, new, Ledger, World}
use Rattle.study_runs.specs.declared.commands.Command.{Command}
use Rattle.study_runs.specs.declared.answers.Answer.{Answer}
use Rattle.study_runs.specs.declared.answers.Answer.TheVariants.{Stands}
use Rattle.study_runs.specs.declared.answers.Few.{Few}
use Rattle.study_runs.specs.declared.performing.Study.{Study}
use Rattle.study_runs.specs.declared.performing.Study.TheVariants as study
use Rattle.study_runs.specs.Performing.{Steps, Skips}
use Rattle.study_runs.specs.Telling.{LatenessRows}

abbrev pub stage_of : {A : Type 0} → Study A → Stage
stage_of (study.New s) = new
stage_of (study.Weighed s) = weighed_stage s
stage_of (study.Underway s) = underway_stage s
stage_of (study.Ordered s) = ordered_stage s

abbrev pub Stood : {A : Type 0} → Underway A → List Parts → Study A → Answer A → Type 0
Stood u trail s a = (s ≡ study.Underway u) × ((few : Few) × (a ≡ Stands u.at.stop few) × LatenessRows (shape u.at.sizes) u.at.stop trail few)

module _ {A : Type 0} (N : Ghosts A) where
  abbrev pub world : Stage → List Parts → List Parts → Ledger (NumberOf N) → World N
  world stage gains trail ledger = record { stage = stage; gains = gains; trail = trail; ledger = ledger }

  module _ (m : Meaning A) (command : Command) (a : Answer A) (stage stage' : Stage) (gains gains' trail trail' : List Parts) where
    abbrev pub Leads : Type 0
    Leads = (ledger : Ledger (NumberOf N)) → (ledger' : Ledger (NumberOf N)) × Steps N m command a (world stage gains trail ledger) (world stage' gains' trail' ledger')

    abbrev pub Stays : Type 0
    Stays = (stage' ≡ stage) × (gains' ≡ gains) × (trail' ≡ trail) × ((ledger : Ledger (NumberOf N)) → Skips N m command a (world stage gains trail ledger))

    abbrev pub Goes : Type 0
    Goes = Leads ⊎ Stays
