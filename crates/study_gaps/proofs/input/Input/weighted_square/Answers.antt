use Rattle.std.proofs.Common.{ℕ, ap, ◌∙◌}
use Rattle.study_terms.specs.Formulas.{NumberOf, known, times, exact}
use Rattle.study_gaps.specs.Steps.{factors_here, gap_here}
use Rattle.study_gaps.proofs.Rows.{row_read}
use Rattle.study_gaps.proofs.input.Input.weighted_square.Goals as goal

pub returns : goal.returns
returns g c =
    let N = g.N.Number in
    let i = c.args.self.now in
    let p = factors_here N i.here i.gains.now i.index i.index in
    let f = gap_here N i.here i.gains.now i.trail.now i.index in
    let gap = c.in_ok-gap.ensures in
    let e = c.number_at-pivot.ensures ∙ ap (λ (r : ℕ → NumberOf N). r i.index) (row_read N i.here i.gains.now i.index c.row.result.now c.row.ensures) in
    c.times-2.ensures (times (known p) f) (known (exact N f)) (c.times.ensures (known p) f (tt, e) gap) (tt, gap.1)
