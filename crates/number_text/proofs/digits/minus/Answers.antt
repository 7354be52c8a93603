use Rattle.std.proofs.Common.{None, Some, ℤ, sym, subst, arith, MatchOption}
use Rattle.std.proofs.lemmas.Str.Pattern.{strip_prefix_char}
use Rattle.number_text.specs.Spelling.{Minus}
use Rattle.number_text.proofs.Numerals.{minus_digits}
use Rattle.number_text.proofs.digits.minus.Goals as goal

pub returns-in_err-digits : goal.returns-in_err-digits
returns-in_err-digits c =
    let bs = c.args.text.now in
    subst (λ o. MatchOption o ((z : ℤ) → ¬ Minus bs z) (Minus bs)) (sym c.from_residual.ensures)
    (λ z h. strip_prefix_char 45 bs None c.in_err-digits.ensures.cases (omega arith) h.0 h.1)

pub returns-in_err-positive : goal.returns-in_err-positive
returns-in_err-positive c =
    let bs = c.args.text.now in
    let e = strip_prefix_char 45 bs (Some c.in_ok-digits.digits) c.in_ok-digits.ensures.cases (omega arith) in
    subst (λ o. MatchOption o ((z : ℤ) → ¬ Minus bs z) (Minus bs)) (sym c.from_residual-in_err-positive.ensures)
    (λ z h. let k = minus_digits bs c.in_ok-digits.digits.now z e h in c.in_err-positive.ensures k.0 k.1)
