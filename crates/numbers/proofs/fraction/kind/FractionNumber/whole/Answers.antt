use Rattle.std.proofs.Common.{ℤ, pos, ap, subst}
use Rattle.algebra.specs.Exact.{whole_e, exact}
use Rattle.numbers.specs.Answers.{Answers}
use Rattle.numbers.specs.Fractions.{fraction_value}
use Rattle.numbers.specs.Machine.{word}
use Rattle.numbers.proofs.fraction.kind.FractionNumber.whole.Goals as goal

pub returns : goal.returns
unfolding whole_e
returns c = subst (λ x. Answers fraction_value x c.fitted.result) (ap (λ (z : ℤ). exact 0 z (pos 0) 1) (word c.args.w c.ranges.w)) c.fitted.ensures
