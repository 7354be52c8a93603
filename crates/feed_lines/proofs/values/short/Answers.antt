use Rattle.std.proofs.Common.{arith}
use Rattle.feed_lines.proofs.Numbers.{two_digits, one_written}
use Rattle.feed_lines.proofs.values.short.Goals as goal

pub returns-in-len1 : goal.returns-in-len1
returns-in-len1 c = one_written c.args.text.now c.digit.result c.in-len1.len_at_least c.in-len1.len_below c.digit.ensures

pub returns-in_ok-digit-in-len2-2 : goal.returns-in_ok-digit-in-len2-2
returns-in_ok-digit-in-len2-2 c =
    let tens = c.in_ok-digit-in-len2.ensures in
    let ones = c.in_ok-digit-in-len2-2.ensures in
    (omega (arith, tens.0, ones.0), two_digits c.args.text.now _ _ c.in-len2.len_at_least c.in-len2.len_below tens.0 ones.0 c.if-tens-ne48.true tens.1 ones.1)
