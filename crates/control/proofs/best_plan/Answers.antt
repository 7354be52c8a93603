use Rattle.control.proofs.Plans.{best_plan_lem}
use Rattle.control.proofs.best_plan.Goals as goal

pub returns : goal.returns
returns g c = λ L lawful. best_plan_lem L lawful
