use Rattle.std.proofs.Common.{inr, rules}
use Rattle.study_terms.specs.declared.faults.kinds.StudyFault.TheVariants.{AnswerTooLarge}
use Rattle.study_terms.specs.Calls.{stage_formula, paid_formula, paid_checks, paid_at}
use Rattle.study_terms.specs.Formulas.{field, known}
use Rattle.study_terms.specs.Shapes.{shape_of}
use Rattle.study_terms.specs.Sized.{shape}
use Rattle.study_terms.proofs.FormNumbers.{paid_number}
use Rattle.study_terms.proofs.SameShapes.{same_shapes}
use Rattle.study_terms.proofs.Working.{named, answered}
use Rattle.study_costs.proofs.Tested.{long_enough, told_true}
use Rattle.study_costs.proofs.paid.paid_at.Goals as goal

pub returns : goal.returns
returns g c =
    let N = g.L.Number.Number in
    let m = g.L.Line.meaning c.args.line.now in
    let s = shape c.args.at.sizes in
    let n = c.args.at.stop in
    let trail = c.args.trail.now in
    let same = told_true _ _ c.are_of.ensures c.if-not-are_of.false in
    let long = long_enough _ _ _ c.trail_length.ensures c.if-trail-trail_length.false in
    let f = paid_formula N s m trail n in
    answered N (paid_checks N s m n trail) f (paid_at N s m trail n) (paid_number N m s (same_shapes (shape_of m) s same) trail n)
    (λ h. (same, (long, h))) (λ h. inr (same, inr (long, h))) c.map_err.result
    (named N f AnswerTooLarge c.add_terms-total.result c.map_err.result _ c.map_err.ensures.cases (λ b y p. search rules)
    (c.add_terms-total.ensures (known (field N).𝟘) (stage_formula N s m trail) (tt, c.zero.ensures) (λ k y l p. search rules)))
