-- All theorems of a lawful line. Assumes nothing.
use Rattle.algebra.specs.Field.{OrderedField}
use Rattle.control.specs.Line.{Line, Lawful}
use Rattle.control.specs.Theorems.{Theory}
use Rattle.control.proofs.Stops.{one_stop_lem}
use Rattle.control.proofs.Accounts.{account, along_a_list_lem}
use Rattle.control.proofs.Plans.{best_plan_lem, least_account}
use Rattle.control.proofs.Decisions.{failing_pivot_lem}
use Rattle.control.proofs.Residuals.{zero_residuals_lem}
use Rattle.control.proofs.UpperHalf.{upper_half_lem}

pub theory : (K : OrderedField) (L : Line K) → Lawful L → Theory L
theory K L lawful = record {
  one_stop = one_stop_lem L lawful;
  along_a_list = along_a_list_lem L lawful;
  account = account L lawful;
  best_plan = best_plan_lem L lawful;
  least_account = least_account L lawful;
  failing_pivot = failing_pivot_lem L lawful;
  zero_residuals = zero_residuals_lem L lawful;
  upper_half = upper_half_lem L lawful;
}
