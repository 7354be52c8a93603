use Rattle.std.proofs.Common.{refl}
use Rattle.study_theory.specs.Runs.{weighs, refuses_weigh}
use Rattle.study_theory.specs.Runs as runs
use Rattle.study_terms.specs.Shapes.{shape_of}
use Rattle.study_runs.specs.declared.commands.Command.TheVariants.{Weigh}
use Rattle.study_runs.specs.declared.answers.Answer.TheVariants.{Accepted, Refused}
use Rattle.study_runs.proofs.Leading.{goes_on, goes_not}
use Rattle.study_runs.proofs.Verbs.{none_new}
use Rattle.study_runs.proofs.performing.from_new.Goals as goal

pub returns-in-Ok : goal.returns-in-Ok
returns-in-Ok g c trail =
    let m = g.L.Line.meaning c.args.line.now in
    let h = c.in-Ok.ensures in
    goes_on g.L.Number.Number m c.args.command.now Weigh Accepted runs.new _ (runs.weighed (shape_of m)) c.args.gains.now c.weigh.new.gains trail trail
    (runs.weigh c.args.scratch.now) runs.done c.in-Weigh.is h.0 (c.args.scratch.now, refl) (λ l. (l, weighs refl h.1, refl))

pub returns-in-Err : goal.returns-in-Err
returns-in-Err g c trail =
    let m = g.L.Line.meaning c.args.line.now in
    let h = c.in-Err.ensures in
    let e = c.in-Err.fault in
    goes_on g.L.Number.Number m c.args.command.now Weigh (Refused e) runs.new runs.new runs.new c.args.gains.now c.weigh.new.gains trail trail
    (runs.weigh c.args.scratch.now) (runs.refused e) c.in-Weigh.is refl (c.args.scratch.now, refl) (λ l. (l, refuses_weigh m refl h.1, refl))

pub returns-in_default : goal.returns-in_default
returns-in_default g c trail = goes_not g.L.Number.Number (g.L.Line.meaning c.args.line.now) c.args.command.now runs.new c.args.gains.now trail (none_new c.args.command.now c.in_default.not-Weigh)
