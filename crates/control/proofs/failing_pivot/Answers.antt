use Rattle.control.proofs.Decisions.{failing_pivot_lem}
use Rattle.control.proofs.failing_pivot.Goals as goal

pub returns : goal.returns
returns g c = λ L lawful. failing_pivot_lem L lawful
