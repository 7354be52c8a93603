use Rattle.std.proofs.Common.{ℤ, pos, ap, subst}
use Rattle.algebra.specs.Exact.{whole_e, exact}
use Rattle.numbers.specs.Answers.{Answers}
use Rattle.numbers.specs.RootValues.{root_value}
use Rattle.numbers.specs.Machine.{word}
use Rattle.numbers.proofs.root.kind.RootNumber.whole.Goals as goal

pub returns : goal.returns
unfolding whole_e
returns g c =
    let D = g.R.Radicand.radicand in
    subst (λ x. Answers (root_value D) x c.fitted.result) (ap (λ (z : ℤ). exact D z (pos 0) 1) (word c.args.w c.ranges.w)) c.fitted.ensures
