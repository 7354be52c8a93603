use Rattle.std.proofs.Common.{None, Some, inl, inr, arith}
use Rattle.std.proofs.lemmas.Str.Pattern.{strip_prefix_char}
use Rattle.number_text.proofs.Numerals.{carry, step_positive, step_minus}
use Rattle.number_text.proofs.digits.step.Goals as goal

pub returns-in-Some : goal.returns-in-Some
returns-in-Some c =
    let bs = c.args.text.now in
    let e = strip_prefix_char 43 bs (Some c.in-Some.digits) c.in-Some.ensures.cases (omega arith) in
    carry c.positive.result (λ z h. inl (c.in-Some.digits.now, e, h)) (λ z. step_positive bs z c.in-Some.digits.now e) c.positive.ensures

pub returns-in-None : goal.returns-in-None
returns-in-None c =
    let bs = c.args.text.now in
    carry c.minus.result (λ z h. inr h) (λ z. step_minus bs z (strip_prefix_char 43 bs None c.in-None.ensures.cases (omega arith))) c.minus.ensures
