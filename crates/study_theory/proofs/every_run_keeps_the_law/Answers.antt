use Rattle.lines.proofs.Theory.{exact_lawful}
use Rattle.study_theory.proofs.Laws.{study_law}
use Rattle.study_theory.proofs.every_run_keeps_the_law.Goals as goal

pub returns : goal.returns
returns g c l =
    let N = g.L.Number.Number in
    let m = g.L.Line.meaning l in
    let laws = g.met.L.Number.Number in
    study_law N (record { same = laws.same; form = laws.form; back = laws.back; wholes = laws.wholes }) m
    (exact_lawful N.good N.value m (g.met.L.Line.lawful l)) g.L.Number.Kind.find g.met.L.Number.Kind.finds
