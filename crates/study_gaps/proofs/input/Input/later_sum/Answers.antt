use Rattle.std.proofs.Common.{◌≡◌, ℕ, ◌+◌, Err, drop, arith, rules}
use Rattle.study_terms.specs.Formulas.{NumberOf, known, times}
use Rattle.study_terms.specs.Sheets.{at, x_place}
use Rattle.study_terms.specs.Sized.{shape}
use Rattle.study_terms.proofs.Working.{exits, sums_fault}
use Rattle.study_gaps.specs.Steps.{later_here}
use Rattle.study_gaps.proofs.Rows.{inputs_read, later_read}
use Rattle.study_gaps.proofs.input.Input.later_sum.Goals as goal

pub returns : goal.returns
returns g c =
    let N = g.N.Number in
    let i = c.args.self.now in
    let next = i.index + 1 in
    let r : ℕ → NumberOf N = at N c.row-row.result.now in
    let u : ℕ → NumberOf N = at N c.args.made.now in
    let x : ℕ → NumberOf N = at N c.lateness-lateness.result.now in
    let late : c.lateness-lateness.result.now ≡ drop (x_place (shape i.here.sizes) i.here.stop 0) i.trail.now = search rules in
    let inputs =
    c.in_ok-inputs.ensures (known (r (i.here.sizes.inputs + i.here.sizes.states))) (λ k. times (known (r (next + k))) (known (u (next + k))))
    (tt, c.number_at-constant.ensures) (λ k y l p. search rules) in
    later_read N i.here i.gains.now i.index c.row-row.result.now c.row-row.ensures i.trail.now c.lateness-lateness.result.now late
    next (omega arith) u c.add_terms-2.result
    (c.add_terms-2.ensures (inputs_read N i.here next r u) (λ j. times (known (r (i.here.sizes.inputs + j))) (known (x j))) inputs (λ k y l p. search rules))

pub returns-in_err-inputs : goal.returns-in_err-inputs
returns-in_err-inputs g c =
    let N = g.N.Number in
    let i = c.args.self.now in
    let next = i.index + 1 in
    let r : ℕ → NumberOf N = at N c.row-row.result.now in
    let u : ℕ → NumberOf N = at N c.args.made.now in
    let x : ℕ → NumberOf N = at N c.lateness-lateness.result.now in
    let b = c.in_err-inputs.field-0.0 in
    let late : c.lateness-lateness.result.now ≡ drop (x_place (shape i.here.sizes) i.here.stop 0) i.trail.now = search rules in
    let fault =
    c.in_err-inputs.ensures (known (r (i.here.sizes.inputs + i.here.sizes.states))) (λ k. times (known (r (next + k))) (known (u (next + k))))
    (tt, c.number_at-constant.ensures) (λ k y l p. search rules) in
    exits N (later_here N i.here i.gains.now i.trail.now u i.index) c.from_residual.result b c.from_residual.ensures.1
    (later_read N i.here i.gains.now i.index c.row-row.result.now c.row-row.ensures i.trail.now c.lateness-lateness.result.now late
    next (omega arith) u (Err b)
    (sums_fault N (inputs_read N i.here next r u) (λ j. times (known (r (i.here.sizes.inputs + j))) (known (x j))) b i.here.sizes.states 0 (omega arith) fault))
