use Rattle.std.proofs.Common.{ℤ, pos, sym, subst, w64, SFits, rules}
use lib.Signed.{lt_z}
use Rattle.algebra.specs.Exact.{PosE}
use Rattle.numbers.specs.Answers.{Decides}
use Rattle.numbers.specs.Fractions.{fraction_size, fraction_row, fraction_value}
use Rattle.numbers.specs.Lowering.{form_above}
use Rattle.numbers.specs.Machine.{word}
use Rattle.numbers.specs.FractionSteps.{positive_row}
use Rattle.numbers.proofs.fraction.kind.FractionNumber.is_positive.Goals as goal

pub returns : goal.returns
returns c =
    let k = c.args.self in
    let f : SFits w64 k.p = search rules in
    subst (λ (z : ℤ). Decides (lt_z (pos 0) z) (PosE (fraction_value k))) (sym (word k.p f)) (positive_row k.p k.m (form_above fraction_size (fraction_row k) k.form))
