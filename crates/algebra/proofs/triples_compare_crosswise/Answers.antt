use Rattle.algebra.proofs.Triples.{same_number}
use Rattle.algebra.proofs.triples_compare_crosswise.Goals as goal

pub returns : goal.returns
returns c = same_number
