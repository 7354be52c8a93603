use Rattle.algebra.proofs.Lowest.{lowest_parts_exist, lowest_parts_unique}
use Rattle.algebra.proofs.lowest_parts_are_unique.Goals as goal

pub returns : goal.returns
returns c = (lowest_parts_exist, lowest_parts_unique)
