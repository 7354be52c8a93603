use Rattle.control.proofs.Accounts.{account}
use Rattle.control.proofs.Plans.{least_account}
use Rattle.control.proofs.account.Goals as goal

pub returns : goal.returns
returns g c = record { values = λ L lawful. account L lawful; least = λ L lawful. least_account L lawful }
