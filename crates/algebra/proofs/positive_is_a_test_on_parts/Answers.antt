use Rattle.algebra.proofs.Positive.{positive_of_parts}
use Rattle.algebra.proofs.positive_is_a_test_on_parts.Goals as goal

pub returns : goal.returns
returns c = positive_of_parts
