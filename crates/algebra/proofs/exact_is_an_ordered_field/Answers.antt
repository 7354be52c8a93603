use Rattle.algebra.proofs.ExactField.{exact_laws}
use Rattle.algebra.proofs.exact_is_an_ordered_field.Goals as goal

pub returns : goal.returns
returns c = exact_laws
