use Rattle.std.proofs.Common.{◌≡◌, ℕ, ◌<◌, not, T, eqb, length, get_or, sym, refl, ap, ◌∙◌, subst, inr, get_or-take, rules}
use Rattle.std.proofs.lemmas.Result.{err_from_is_err_and}
use Rattle.study_terms.specs.declared.sizes.Sizes.{Sizes}
use Rattle.study_terms.specs.declared.stops.Departing.{Departing}
use Rattle.study_terms.specs.declared.stops.Standing.{Standing}
use Rattle.study_terms.specs.Calls.{sheet_checks, propose_checks, ProposeGranted}
use Rattle.study_terms.specs.Checks.{Passes, RefusedWith}
use Rattle.study_terms.specs.Refusals.{refusal}
use Rattle.study_terms.specs.Shapes.{Shape}
use Rattle.study_terms.specs.Sheets.{blank}
use Rattle.study_terms.specs.Sized.{shape}
use Rattle.study_gaps.proofs.propose.propose_at.Goals as goal

-- what holds at the stop as one that is left holds of it as it stood
stands : (at : Standing) (here : Departing) → here.sizes ≡ at.sizes → here.stop ≡ at.stop → (P : Shape → ℕ → Type 0)
    → P (shape here.sizes) here.stop → P (shape at.sizes) at.stop
stands at here p q P h = subst (λ (s : Sizes). P (shape s) at.stop) p (subst (P (shape here.sizes)) q h)

pub returns-in_err-plan : goal.returns-in_err-plan
returns-in_err-plan g c =
    let N = g.N.Number in
    let a = c.args in
    let here = c.in_ok-here.here in
    let p = err_from_is_err_and c.from_residual-in_err-plan.result c.from_residual-in_err-plan.ensures.1 in
    let e = rw c.in_ok-here.ensures.ok_part at c.departing.ensures in
    let before : T (not (eqb here.stop here.sizes.stops)) = search rules in
    let long = subst (λ (s : Sizes). Passes N (sheet_checks N (shape s) a.gains.now a.trail.now)) (sym e.0) c.in_ok-check_sheets.ensures in
    let slip : T (eqb (length a.slip.now) a.at.sizes.inputs) = search rules in
    let slip_here = subst (λ (s : Sizes). T (eqb (length a.slip.now) s.inputs)) (sym e.0) slip in
    let P : Shape → ℕ → Type 0 = λ s k. RefusedWith N (propose_checks N s k a.gains.now a.trail.now (length a.slip.now)) (refusal c.in_err-plan.field-0.0) in
    rw (p.1, p.2) (stands a.at here e.0 e.1 P (inr (before, inr (long, inr (slip_here, c.in_err-plan.ensures)))), refl)

pub returns : goal.returns
returns g c =
    let N = g.N.Number in
    let a = c.args in
    let here = c.in_ok-here.here in
    let e = rw c.in_ok-here.ensures.ok_part at c.departing.ensures in
    let before : T (not (eqb here.stop here.sizes.stops)) = search rules in
    let long = subst (λ (s : Sizes). Passes N (sheet_checks N (shape s) a.gains.now a.trail.now)) (sym e.0) c.in_ok-check_sheets.ensures in
    let slip : T (eqb (length a.slip.now) a.at.sizes.inputs) = search rules in
    let slip_here = subst (λ (s : Sizes). T (eqb (length a.slip.now) s.inputs)) (sym e.0) slip in
    let inputs : here.sizes.inputs ≡ a.at.sizes.inputs = ap (λ (s : Sizes). s.inputs) e.0 in
    let P : Shape → ℕ → Type 0 = λ s k. ProposeGranted N s k a.gains.now a.trail.now a.slip.now c.copy_from_slice.new.self in
    let planned = c.in_ok-plan.ensures in (
      e.0,
      e.1,
      stands a.at here e.0 e.1 P (record {
        passes = (before, (long, (slip_here, planned.passes)));
        plan = λ i l.
            let row = ap (λ t. get_or t i blank) c.copy_from_slice.ensures.after ∙ get_or-take a.at.sizes.inputs c.in_ok-plan.plan i blank (subst (λ n. i < n) inputs l) in
            let written = planned.plan i l in
            (written.0, written.1, row ∙ written.2);
        long = c.copy_from_slice.ensures.len ∙ c.if-slip-at.false ∙ sym inputs;
      }),
    )
