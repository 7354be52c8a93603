use Rattle.std.proofs.Common.{pos, ◌∙◌}
use Rattle.numbers.specs.RootSteps.{zero_row}
use Rattle.numbers.proofs.rows.read.Goals as goal

pub returns-else-row-eq0-clause-other : goal.returns-else-row-eq0-clause-other
returns-else-row-eq0-clause-other g c h = c.made-else-row-eq0.ensures ∙ zero_row g.K.InRows.radicand (pos 1) (record { lt = tt })
