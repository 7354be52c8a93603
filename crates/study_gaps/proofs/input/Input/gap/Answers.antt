use Rattle.std.proofs.Common.{◌≡◌, ℕ, Ok, drop, ap, ◌∙◌, subst, rules}
use Rattle.study_terms.specs.declared.faults.kinds.Below.TheVariants.{TooLarge}
use Rattle.study_terms.specs.Formulas.{NumberOf, Formula, known, Outcome}
use Rattle.study_terms.specs.Sheets.{u_place, u_at}
use Rattle.study_terms.specs.Sized.{shape}
use Rattle.study_terms.proofs.TrailParts.{adjustments_read}
use Rattle.study_terms.proofs.Working.{plus_ok, plus_err, not_held, exits}
use Rattle.study_gaps.specs.Steps.{later_here, gap_here}
use Rattle.study_gaps.proofs.input.Input.gap.Goals as goal

pub returns : goal.returns
returns g c =
    let N = g.N.Number in
    let i = c.args.self.now in
    let u = u_at N (shape i.here.sizes) i.trail.now i.here.stop in
    let later : (ℕ → NumberOf N) → Formula _ (NumberOf N) = λ u. later_here N i.here i.gains.now i.trail.now u i.index in
    let made : c.adjustments-made.result.now ≡ drop (u_place (shape i.here.sizes) i.here.stop 0) i.trail.now = search rules in
    let e = adjustments_read N (shape i.here.sizes) i.trail.now i.here.stop c.adjustments-made.result.now made in
    plus_ok N (known (u i.index)) (later u) c.number_at.result c.in_ok-sum.sum
    (tt, c.number_at.ensures ∙ ap (λ (u : ℕ → NumberOf N). u i.index) e) (subst (λ u. Outcome N (later u) (Ok c.in_ok-sum.sum)) e c.in_ok-sum.ensures)
    c.in_ok-plus.field-0 c.in_ok-plus.ensures

pub returns-in_err-plus : goal.returns-in_err-plus
returns-in_err-plus g c =
    let N = g.N.Number in
    let i = c.args.self.now in
    let u = u_at N (shape i.here.sizes) i.trail.now i.here.stop in
    let later : (ℕ → NumberOf N) → Formula _ (NumberOf N) = λ u. later_here N i.here i.gains.now i.trail.now u i.index in
    let made : c.adjustments-made.result.now ≡ drop (u_place (shape i.here.sizes) i.here.stop 0) i.trail.now = search rules in
    let e = adjustments_read N (shape i.here.sizes) i.trail.now i.here.stop c.adjustments-made.result.now made in
    exits N (gap_here N i.here i.gains.now i.trail.now i.index) c.from_residual-in_err-plus.result TooLarge c.from_residual-in_err-plus.ensures.1
    (plus_err N (known (u i.index)) (later u) c.number_at.result c.in_ok-sum.sum
    (tt, c.number_at.ensures ∙ ap (λ (u : ℕ → NumberOf N). u i.index) e) (subst (λ u. Outcome N (later u) (Ok c.in_ok-sum.sum)) e c.in_ok-sum.ensures)
    (not_held N _ _ c.in_err-plus.ensures))
