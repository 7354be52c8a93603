use Rattle.control.proofs.Accounts.{along_a_list_lem}
use Rattle.control.proofs.along_a_list.Goals as goal

pub returns : goal.returns
returns g c = λ L lawful. along_a_list_lem L lawful
