use Rattle.std.proofs.Common.{◌≡◌, get_or, ◌∙◌, arith, rules}
use Rattle.std.proofs.lemmas.List.{take_rest}
use Rattle.feed_theory.proofs.Decimals.{minus_none}
use Rattle.feed_lines.proofs.values.integer.Goals as goal

pub returns-in_err-unsigned-in-45 : goal.returns-in_err-unsigned-in-45
returns-in_err-unsigned-in-45 c =
    let minus : get_or c.args.text.now 0 0 ≡ 45 = search rules in
    rw c.from_residual.ensures
    (λ (z, h, e). minus_none c.args.text.now c.args.most (omega arith) minus (λ n p q d. c.in_err-unsigned-in-45.ensures (n, p, q, take_rest c.args.text.now 1 ∙ d)) z h e)
