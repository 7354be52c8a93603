-- The call that a command makes, and what an answer tells of its reply. N is a kind of number with the values A. Assumes nothing.
--
--   Makes command c              c is the call that the command makes, with its own arguments; the sheets of scratch and slip are the performer's
--   SameRows few t               the few rows are those of the sheet t
--   LatenessRows s k trail few   the few rows are the lateness of stop k in the trail
--   name_of stage                the stage by name
--   Tells w a r                  the answer a tells the reply r of a call that led to the world w
use Rattle.std.specs.Prelude.{◌≡◌, ℕ, ◌<◌, List, length, vec_items, slice_index_or}
use Rattle.numbers.specs.declared.Parts.{Parts}
use Rattle.study_terms.specs.Shapes.{Shape}
use Rattle.study_terms.specs.Sheets.{blank, x_place}
use Rattle.study_theory.specs.Runs.{Stage, Call, Reply, WorldOf}
use Rattle.study_theory.specs.Runs as runs
use Rattle.study_runs.specs.declared.commands.Command.{Command}
use Rattle.study_runs.specs.declared.commands.Command.TheVariants.{Weigh, Begin, Propose, Confirm, Withdraw, Paid, Rest, Excess, Abandon, Close}
use Rattle.study_runs.specs.declared.answers.Few.{Few}
use Rattle.study_runs.specs.declared.answers.StageName.{StageName}
use Rattle.study_runs.specs.declared.answers.StageName.TheVariants as name
use Rattle.study_runs.specs.declared.answers.Answer.{Answer}
use Rattle.study_runs.specs.declared.answers.Answer.TheVariants.{Accepted, Stands, Planned, Told, Ended, Refused, NotNow}

abbrev pub Makes : Command → Call → Type 0
Makes Weigh c = (scratch : List Parts) × (c ≡ runs.weigh scratch)
Makes (Begin start) c = c ≡ runs.begin (vec_items start)
Makes Propose c = (slip : List Parts) × (c ≡ runs.propose slip)
Makes (Confirm made) c = c ≡ runs.confirm (vec_items made)
Makes Withdraw c = c ≡ runs.withdraw
Makes Paid c = c ≡ runs.paid
Makes Rest c = c ≡ runs.rest
Makes Excess c = c ≡ runs.excess
Makes Abandon c = c ≡ runs.abandon
Makes Close c = c ≡ runs.close

pub record SameRows (few : Few) (t : List Parts) : Type 0 where
  pub count : few.count ≡ length t
  pub rows : (j : ℕ) → j < length t → slice_index_or few.rows j blank ≡ slice_index_or t j blank

pub record LatenessRows (s : Shape) (k : ℕ) (trail : List Parts) (few : Few) : Type 0 where
  pub count : few.count ≡ s.nx
  pub rows : (j : ℕ) → j < s.nx → slice_index_or few.rows j blank ≡ slice_index_or trail (x_place s k j) blank

abbrev pub name_of : Stage → StageName
name_of runs.new = name.New
name_of (runs.weighed s) = name.Weighed
name_of (runs.underway s k) = name.Underway
name_of (runs.ordered s k) = name.Ordered

abbrev pub Tells : {A C : Type 0} → WorldOf C → Answer A → Reply A → Type 0
Tells w Accepted r = r ≡ runs.done
Tells w (Stands k few) r = (r ≡ runs.done) × ((s : Shape) × (w.stage ≡ runs.underway s k) × LatenessRows s k w.trail few)
Tells w (Planned few) r = (slip : List Parts) × (r ≡ runs.wrote slip) × SameRows few slip
Tells w (Told x) r = r ≡ runs.told x
Tells w Ended r = r ≡ runs.done
Tells w (Refused e) r = r ≡ runs.refused e
Tells w (NotNow n) r = ⊥
