use Rattle.std.proofs.Common.{◌≡◌, suc, ◌-◌, set, sym, subst, arith, rules}
use Rattle.std.proofs.lemmas.Result.{err_from_is_err_and}
use Rattle.study_terms.specs.declared.faults.kinds.StudyFault.TheVariants.{PlanTooLarge}
use Rattle.study_terms.proofs.KindRows.{Laws}
use Rattle.study_terms.proofs.Working.{named}
use Rattle.study_gaps.proofs.Planning.{WorkedFrom, number_of, worked_more, worked_all, worked_refused, next_number_lem}
use Rattle.study_gaps.proofs.plan.plan_rows.Given as given
use Rattle.study_gaps.proofs.plan.plan_rows.Goals as goal

laws : (g : given.Over) → Laws g.N.Number
laws g = record { same = g.met.N.Number.same; form = g.met.N.Number.form; back = g.met.N.Number.back; wholes = g.met.N.Number.wholes }

pub loop-index-preserved : goal.loop-index-preserved
loop-index-preserved g c =
    let N = g.N.Number in
    let a = c.args in
    let i = c.loop-index.index - 1 in
    let x = c.in_ok-adjustment.adjustment in
    let e : c.loop-index.index ≡ suc i = omega arith in
    let so_far = subst (λ n. WorkedFrom N a.here a.gains.now a.trail.now n c.loop-index.plan) e c.loop-index.invariant in
    let worked = next_number_lem N a.here a.gains.now a.trail.now (laws g) i c.loop-index.plan c.without_gap.result so_far c.without_gap.ensures in
    subst (λ row. WorkedFrom N a.here a.gains.now a.trail.now i (set c.loop-index.plan i row)) (sym c.row.ensures)
    (worked_more N a.here a.gains.now a.trail.now i c.loop-index.plan x (omega arith) so_far
    (rw c.in_ok-adjustment.was at
    (named N (number_of N a.here a.gains.now a.trail.now i) PlanTooLarge c.without_gap.result c.map_err.result _ c.map_err.ensures.cases (λ b y p. search rules) worked)))

pub returns : goal.returns
returns g c =
    let N = g.N.Number in
    let a = c.args in
    let e : c.loop-index.index ≡ 0 = omega arith in
    worked_all N a.here a.gains.now a.trail.now c.loop-index.plan
    (subst (λ n. WorkedFrom N a.here a.gains.now a.trail.now n c.loop-index.plan) e c.loop-index.invariant)

pub returns-in_err-adjustment : goal.returns-in_err-adjustment
returns-in_err-adjustment g c =
    let N = g.N.Number in
    let a = c.args in
    let i = c.loop-index.index - 1 in
    let e : c.loop-index.index ≡ suc i = omega arith in
    let so_far = subst (λ n. WorkedFrom N a.here a.gains.now a.trail.now n c.loop-index.plan) e c.loop-index.invariant in
    let worked = next_number_lem N a.here a.gains.now a.trail.now (laws g) i c.loop-index.plan c.without_gap.result so_far c.without_gap.ensures in
    let h =
    rw c.in_err-adjustment.was at
    (named N (number_of N a.here a.gains.now a.trail.now i) PlanTooLarge c.without_gap.result c.map_err.result _ c.map_err.ensures.cases (λ b y p. search rules) worked) in
    let p = err_from_is_err_and c.from_residual.result c.from_residual.ensures.1 in
    rw (p.1, p.2, h.0) (worked_refused N a.here a.gains.now a.trail.now i c.loop-index.plan h.1.0 (omega arith) so_far h.1.1)
