use Rattle.control.proofs.UpperHalf.{upper_half_lem}
use Rattle.control.proofs.upper_half.Goals as goal

pub returns : goal.returns
returns g c = λ L lawful. upper_half_lem L lawful
