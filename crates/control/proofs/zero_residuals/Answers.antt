use Rattle.control.proofs.Residuals.{zero_residuals_lem}
use Rattle.control.proofs.zero_residuals.Goals as goal

pub returns : goal.returns
returns g c = λ L lawful. zero_residuals_lem L lawful
