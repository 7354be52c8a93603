use Rattle.std.proofs.Common.{refl}
use Rattle.study_terms.specs.Formulas.{known, times}
use Rattle.study_costs.proofs.forms.fn.form.add_terms.Goals as goal

pub returns : goal.returns
returns g c m y h q =
    let x = known (g.N.Number.value c.captures.left) in
    c.times-2.ensures (times m x) (known y) (c.times.ensures m x (h c.entry.result c.entry.ensures) (tt, refl)) (tt, q c.list.result c.list.ensures)
