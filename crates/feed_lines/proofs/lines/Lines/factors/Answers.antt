use Rattle.std.proofs.Common.{◌≡◌, length, replicate, pos, sym, ◌∙◌, arith}
use Rattle.std.proofs.lemmas.List.{length-take-le, length-replicate}
use Rattle.feed_theory.proofs.Words.{padded}
use Rattle.feed_lines.proofs.lines.Lines.factors.Goals as goal

pub returns : goal.returns
returns g c =
    let read = rw c.in_ok-ok_or.ensures.ok_part at c.factors.ensures in
    let long : length c.factors.new.out ≡ c.args.count = c.factors.auto.out ∙ length-take-le c.from.result (replicate g.row.N (pos 0)) (omega (arith, c.from.ensures, c.requires.1, length-replicate g.row.N (pos 0))) ∙ c.from.ensures in
    let whole = padded c.args.count g.row.N c.factors.new.out long c.requires.1 read.0 in
    rw (c.from.ensures, whole.1, sym read.1) (whole.0, c.in_ok-value.ensures)
