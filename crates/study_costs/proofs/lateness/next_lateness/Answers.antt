use Rattle.std.proofs.Common.{◌≡◌, ◌<◌, [], ◌∷◌, length, take, ap, subst, arith, rules}
use Rattle.std.proofs.lemmas.List.{length-take-le}
use Rattle.std.proofs.lemmas.Result.{err_from_is_err_and}
use Rattle.study_terms.specs.declared.faults.kinds.StudyFault.TheVariants.{NextTooLarge}
use Rattle.study_terms.specs.declared.stops.Departing.{Departing}
use Rattle.study_terms.specs.Sheets.{zero_row}
use Rattle.study_terms.specs.Refusals.{refusal}
use Rattle.study_terms.proofs.Working.{named}
use Rattle.study_costs.specs.Answered.{next_at}
use Rattle.study_costs.specs.Rows.{WorkedRows}
use Rattle.study_costs.proofs.SheetRows.{worked_more, worked_front}
use Rattle.study_costs.proofs.lateness.next_lateness.Goals as goal

-- the rows of the states, of the four that there are
front : (at : Departing) → length (take at.sizes.states (zero_row ∷ zero_row ∷ zero_row ∷ zero_row ∷ [])) ≡ at.sizes.states
front at = length-take-le at.sizes.states (zero_row ∷ zero_row ∷ zero_row ∷ zero_row ∷ []) at.sizes.few_states

pub loop-j-preserved : goal.loop-j-preserved
loop-j-preserved g c =
    let N = g.L.Number.Number in
    let f = next_at N (g.L.Line.meaning c.args.line.now) c.args.at c.args.made.now c.args.trail.now in
    let held = rw c.in_ok-number.was at
    (named N (f c.loop-j.j) NextTooLarge c.next_number.result c.map_err.result _ c.map_err.ensures.cases (λ b y p. search rules) c.next_number.ensures) in
    worked_more N f c.loop-j.j c.loop-j.row-items c.in_ok-number.number c.row.result (omega arith) c.loop-j.invariant held c.row.ensures

pub returns-in_err-number : goal.returns-in_err-number
returns-in_err-number g c =
    let N = g.L.Number.Number in
    let f = next_at N (g.L.Line.meaning c.args.line.now) c.args.at c.args.made.now c.args.trail.now in
    let h = rw c.in_err-number.was at
    (named N (f c.loop-j.j) NextTooLarge c.next_number.result c.map_err.result _ c.map_err.ensures.cases (λ b y p. search rules) c.next_number.ensures) in
    let p = err_from_is_err_and c.from_residual.result c.from_residual.ensures.1 in
    rw (p.1, p.2) (c.loop-j.j, omega arith, subst (λ n. c.loop-j.j < n) (front c.args.at) c.loop-j-test.true, (λ i _ l. (c.loop-j.invariant i l).0), (h.1.0, ap refusal h.0, h.1.1))

pub returns : goal.returns
returns g c =
    let N = g.L.Number.Number in
    let f = next_at N (g.L.Line.meaning c.args.line.now) c.args.at c.args.made.now c.args.trail.now in
    let e = front c.args.at in
    let n : c.loop-j.j ≡ c.args.at.sizes.states = omega arith in
    worked_front N f c.args.at.sizes.states c.loop-j.row-items _ (omega arith) (subst (λ n. WorkedRows N f n c.loop-j.row-items) n c.loop-j.invariant)
