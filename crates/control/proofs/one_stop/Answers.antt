use Rattle.control.proofs.Stops.{one_stop_lem}
use Rattle.control.proofs.one_stop.Goals as goal

pub returns : goal.returns
returns g c = λ L lawful. one_stop_lem L lawful
