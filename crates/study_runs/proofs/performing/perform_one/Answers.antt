use Rattle.std.proofs.Common.{refl, sym, ap, ◌∙◌, length}
use Rattle.study.specs.Stages.{weighed_stage, underway_stage, ordered_stage}
use Rattle.study_theory.specs.Runs as runs
use Rattle.study_runs.specs.Going.{stage_of}
use Rattle.study_runs.proofs.Leading.{goes_in, written_back}
use Rattle.study_runs.proofs.performing.perform_one.Goals as goal

pub returns-in-New : goal.returns-in-New
returns-in-New g c =
    let m = g.L.Line.meaning c.args.line.now in
    let r = c.from_new in
    let gains = c.args.sheets.now.gains in
    let trail = c.args.sheets.now.trail.items in
    goes_in g.L.Number.Number m c.args.command.now r.result.1 (stage_of c.args.study) runs.new (stage_of r.result.0)
    gains.items c.deref_mut.result.now _ r.new.gains trail trail trail trail
    (sym (ap stage_of c.in-New.is)) c.deref_mut.ensures.value
    (written_back gains.len gains.items r.new.gains gains.ok.0 (r.auto.gains ∙ ap length c.deref_mut.ensures.value)) refl refl (r.ensures trail)

pub returns-in-Weighed : goal.returns-in-Weighed
returns-in-Weighed g c =
    let m = g.L.Line.meaning c.args.line.now in
    let r = c.from_weighed in
    let gains = c.args.sheets.now.gains.items in
    let trail = c.args.sheets.now.trail in
    goes_in g.L.Number.Number m c.args.command.now r.result.1 (stage_of c.args.study) (weighed_stage c.in-Weighed.study) (stage_of r.result.0)
    gains gains gains gains trail.items c.deref_mut-in-Weighed.result.now _ r.new.trail
    (sym (ap stage_of c.in-Weighed.is)) refl refl c.deref_mut-in-Weighed.ensures.value
    (written_back trail.len trail.items r.new.trail trail.ok.0 (r.auto.trail ∙ ap length c.deref_mut-in-Weighed.ensures.value)) (r.ensures m gains)

pub returns-in-Underway : goal.returns-in-Underway
returns-in-Underway g c =
    let m = g.L.Line.meaning c.args.line.now in
    let r = c.from_underway in
    let gains = c.deref.ensures.value in
    let trail = c.deref-in-Underway.ensures.value in
    goes_in g.L.Number.Number m c.args.command.now r.result.1 (stage_of c.args.study) (underway_stage c.in-Underway.study) (stage_of r.result.0)
    c.args.sheets.now.gains.items c.deref.result.now c.args.sheets.now.gains.items c.deref.result.now
    c.args.sheets.now.trail.items c.deref-in-Underway.result.now c.args.sheets.now.trail.items c.deref-in-Underway.result.now
    (sym (ap stage_of c.in-Underway.is)) gains gains trail trail r.ensures

pub returns-in-Ordered : goal.returns-in-Ordered
returns-in-Ordered g c =
    let m = g.L.Line.meaning c.args.line.now in
    let r = c.from_ordered in
    let gains = c.args.sheets.now.gains.items in
    let trail = c.args.sheets.now.trail in
    goes_in g.L.Number.Number m c.args.command.now r.result.1 (stage_of c.args.study) (ordered_stage c.in-Ordered.study) (stage_of r.result.0)
    gains gains gains gains trail.items c.deref_mut-in-Ordered.result.now _ r.new.trail
    (sym (ap stage_of c.in-Ordered.is)) refl refl c.deref_mut-in-Ordered.ensures.value
    (written_back trail.len trail.items r.new.trail trail.ok.0 (r.auto.trail ∙ ap length c.deref_mut-in-Ordered.ensures.value)) (r.ensures gains)
