use Rattle.std.proofs.Common.{◌∙◌}
use Rattle.lines.specs.WholeLines.{whole_zero}
use Rattle.study_terms.proofs.reading.zero.Goals as goal

pub returns : goal.returns
returns g c = (rw c.unwrap.ensures at c.whole.ensures) ∙ whole_zero g.N.Number.radicand
