use Rattle.std.proofs.Common.{inr, rules}
use Rattle.study_terms.specs.declared.faults.kinds.StudyFault.TheVariants.{AnswerTooLarge}
use Rattle.study_terms.specs.Calls.{rest_formula, rest_at, rest_checks}
use Rattle.study_terms.specs.Sized.{shape}
use Rattle.study_terms.proofs.FormNumbers.{rest_number}
use Rattle.study_terms.proofs.Working.{named, answered}
use Rattle.study_costs.proofs.rest.rest_at.Goals as goal

pub returns : goal.returns
returns g c =
    let N = g.N.Number in
    let s = shape c.args.at.sizes in
    let gains = c.args.gains.now in
    let trail = c.args.trail.now in
    let n = c.args.at.stop in
    let long = c.in_ok-check_sheets.ensures in
    let f = rest_formula N s gains trail n in
    answered N (rest_checks N s n gains trail) f (rest_at N s gains trail n) (rest_number N s gains trail n) (λ h. (long, h)) (λ h. inr (long, h)) c.map_err.result
    (named N f AnswerTooLarge c.value_form.result c.map_err.result _ c.map_err.ensures.cases (λ b y p. search rules) c.value_form.ensures)
