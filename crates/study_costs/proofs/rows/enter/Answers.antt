use Rattle.std.proofs.Common.{arith}
use Rattle.study_terms.specs.Sheets.{at, Written}
use Rattle.study_costs.proofs.SheetRows.{row_more}
use Rattle.study_costs.proofs.rows.enter.Goals as goal

pub loop-j-preserved : goal.loop-j-preserved
loop-j-preserved g c =
    let N = g.N.Number in
    row_more (λ k r. Written N (at N c.args.numbers.now k) r) c.loop-j.j c.loop-j.rows c.row.result (omega arith)
    c.loop-j.invariant (c.number_at.result, c.number_at.ensures, c.row.ensures)
