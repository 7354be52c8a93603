use Rattle.std.proofs.Common.{◌≡◌, ℕ, drop, subst, rules}
use Rattle.study_terms.specs.Formulas.{field, NumberOf, known, asked, times, sums, Outcome}
use Rattle.study_terms.specs.Shapes.{width}
use Rattle.study_terms.specs.Sheets.{at, x_place, stacked_list}
use Rattle.study_terms.specs.Sized.{shape}
use Rattle.study_terms.proofs.TrailParts.{lateness_read}
use Rattle.study_costs.proofs.lateness.next_number.Goals as goal

pub returns : goal.returns
returns g c =
    let N = g.L.Number.Number in
    let d = c.args.at in
    let s = shape d.sizes in
    let m = g.L.Line.meaning c.args.line.now in
    let u : ℕ → NumberOf N = at N c.args.made.now in
    let x : ℕ → NumberOf N = at N c.lateness-lateness.result.now in
    let late : c.lateness-lateness.result.now ≡ drop (x_place s d.stop 0) c.args.trail.now = search rules in
    let h =
    c.add_terms.ensures (known (field N).𝟘) (λ j. times (asked (m.F d.stop c.args.row j)) (known (stacked_list N s u x j))) (tt, c.zero.ensures)
    (λ k y l p. search rules) in
    let worked : ℕ → (ℕ → NumberOf N) → Type 0 = λ n x. Outcome N (sums (known (field N).𝟘) n (λ j. times (asked (m.F d.stop c.args.row j)) (known (stacked_list N s u x j)))) c.add_terms.result in
    subst (worked (width s)) (lateness_read N s c.args.trail.now d.stop c.lateness-lateness.result.now late) (subst (λ n. worked n x) c.wide.ensures h)
