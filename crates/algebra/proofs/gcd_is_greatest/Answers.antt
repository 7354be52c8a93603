use Rattle.algebra.proofs.Gcd.{gcds_are_greatest}
use Rattle.algebra.proofs.gcd_is_greatest.Goals as goal

pub returns : goal.returns
returns c = gcds_are_greatest
