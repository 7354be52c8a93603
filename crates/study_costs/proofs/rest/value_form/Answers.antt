use Rattle.std.proofs.Common.{◌≡◌, ℕ, suc, ◌+◌, subst, arith, rules}
use Rattle.study_terms.specs.Calls.{form_formula}
use Rattle.study_terms.specs.Formulas.{NumberOf, known, Outcome}
use Rattle.study_terms.specs.Sheets.{at, value_at, state_list}
use Rattle.study_terms.specs.Sized.{shape}
use Rattle.study_terms.proofs.TrailParts.{lateness_read}
use Rattle.study_costs.proofs.rest.value_form.Goals as goal

pub returns : goal.returns
returns g c =
    let N = g.N.Number in
    let s = shape c.args.at.sizes in
    let n = c.args.at.stop in
    let x : ℕ → NumberOf N = at N c.lateness-lateness.result.now in
    let worked : ℕ → (ℕ → NumberOf N) → Type 0 = λ w x. Outcome N (form_formula N w (λ i j. known (value_at N s c.args.gains.now n i j)) (state_list N s x)) c.form.result in
    let w : c.args.at.sizes.states + 1 ≡ suc c.args.at.sizes.states = omega arith in
    let h = c.form.ensures (λ i j. known (value_at N s c.args.gains.now n i j)) (state_list N s x) (λ i j y p q h. search rules) (λ k y l h. search rules) in
    subst (worked (suc c.args.at.sizes.states)) (lateness_read N s c.args.trail.now n c.lateness-lateness.result.now c.lateness-lateness.ensures)
    (subst (λ w. worked w x) w h)
