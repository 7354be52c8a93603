use Rattle.lines.proofs.Theory.{exact_lawful}
use Rattle.study_theory.specs.Law.{StudyLaw}
use Rattle.study_theory.proofs.Laws.{study_law}
use Rattle.study_runs.proofs.running.perform.Given as given
use Rattle.study_runs.proofs.running.perform.Goals as goal

-- the law holds, whether or not there is memory
law : (g : given.Over) (line : g.row.L.Denot) → StudyLaw g.L.Number.Number (g.L.Line.meaning line) g.L.Number.Kind.find
law g line =
    let N = g.L.Number.Number in
    let laws = g.met.L.Number.Number in
    study_law N (record { same = laws.same; form = laws.form; back = laws.back; wholes = laws.wholes }) (g.L.Line.meaning line)
    (exact_lawful N.good N.value (g.L.Line.meaning line) (g.met.L.Line.lawful line)) g.L.Number.Kind.find g.met.L.Number.Kind.finds

pub returns-clause-law : goal.returns-clause-law
returns-clause-law g c = law g c.args.line.now

pub returns-in_err-answers-clause-law : goal.returns-in_err-answers-clause-law
returns-in_err-answers-clause-law g c = law g c.args.line.now

pub returns-in_err-sheets-clause-law : goal.returns-in_err-sheets-clause-law
returns-in_err-sheets-clause-law g c = law g c.args.line.now
