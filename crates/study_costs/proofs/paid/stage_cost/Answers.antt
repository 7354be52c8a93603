use Rattle.std.proofs.Common.{ℕ, subst, rules}
use Rattle.study_terms.specs.Calls.{form_formula}
use Rattle.study_terms.specs.Formulas.{NumberOf, asked, Outcome}
use Rattle.study_terms.specs.Shapes.{width}
use Rattle.study_terms.specs.Sheets.{at, x_at, stacked_list}
use Rattle.study_terms.specs.Sized.{shape}
use Rattle.study_terms.proofs.TrailParts.{lateness_read, adjustments_read}
use Rattle.study_costs.proofs.paid.stage_cost.Goals as goal

pub returns : goal.returns
returns g c =
    let N = g.L.Number.Number in
    let s = shape c.args.at.sizes in
    let n = c.args.at.stop in
    let m = g.L.Line.meaning c.args.line.now in
    let u : ℕ → NumberOf N = at N c.adjustments-adjustments.result.now in
    let x : ℕ → NumberOf N = at N c.lateness-lateness.result.now in
    let worked : ℕ → (u x : ℕ → NumberOf N) → Type 0 = λ w u x. Outcome N (form_formula N w (λ i j. asked (m.G n i j)) (stacked_list N s u x)) c.form.result in
    let h = c.form.ensures (λ i j. asked (m.G n i j)) (stacked_list N s u x) (λ i j y p q h. search rules) (λ k y l h. search rules) in
    subst (λ u. worked (width s) u (x_at N s c.args.trail.now n)) (adjustments_read N s c.args.trail.now n c.adjustments-adjustments.result.now c.adjustments-adjustments.ensures)
    (subst (worked (width s) u) (lateness_read N s c.args.trail.now n c.lateness-lateness.result.now c.lateness-lateness.ensures)
    (subst (λ w. worked w u x) c.wide.ensures h))
