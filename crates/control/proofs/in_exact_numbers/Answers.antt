use Rattle.algebra.proofs.ExactField.{exact_field}
use Rattle.control.proofs.Proved.{theory}
use Rattle.control.proofs.in_exact_numbers.Goals as goal

pub returns : goal.returns
returns c = λ D good L lawful. theory (exact_field D good) L lawful
