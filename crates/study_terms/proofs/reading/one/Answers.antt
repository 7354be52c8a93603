use Rattle.std.proofs.Common.{◌∙◌}
use Rattle.lines.specs.WholeLines.{whole_one}
use Rattle.study_terms.proofs.reading.one.Goals as goal

pub returns : goal.returns
returns g c = (rw c.unwrap.ensures at c.whole.ensures) ∙ whole_one g.N.Number.radicand
