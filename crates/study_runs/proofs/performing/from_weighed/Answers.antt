use Rattle.std.proofs.Common.{length, vec_items, refl, ap, subst}
use Rattle.study_theory.specs.Runs.{begins, asks_begin}
use Rattle.study_theory.specs.Runs as runs
use Rattle.study_terms.specs.Sized.{shape}
use Rattle.study_terms.specs.Checks.{RefusedWith}
use Rattle.study_terms.specs.Refusals.{refusal}
use Rattle.study_terms.specs.Sheets.{at}
use Rattle.study_terms.specs.Calls.{begin_checks, BeginGranted}
use Rattle.study.specs.Stages.{weighed_stage}
use Rattle.study_runs.specs.declared.commands.Command.TheVariants.{Begin}
use Rattle.study_runs.proofs.Leading.{goes_stands, goes_refused, goes_not}
use Rattle.study_runs.proofs.Verbs.{none_weighed}
use Rattle.study_runs.proofs.performing.from_weighed.Goals as goal

pub returns-in-Ok : goal.returns-in-Ok
returns-in-Ok g c m gains =
    let N = g.N.Number in
    let h = c.in-Ok.ensures in
    let s = shape c.args.study.sizes in
    let start = vec_items c.in-Begin.start in
    goes_stands N m c.args.command.now (Begin c.in-Begin.start) (weighed_stage c.args.study) (runs.underway s 0) c.in-Ok.underway c.stands.result.0 c.stands.result.1
    gains c.args.trail.now c.begin.new.trail (runs.begin start) c.in-Begin.is h.0 refl c.stands.ensures
    (λ l. (
      runs.entered (runs.begun N (at N start)),
      begins refl (subst (λ t. BeginGranted N s t c.args.trail.now c.begin.new.trail) c.as_slice.ensures.value h.1),
    ))

pub returns-in-Err : goal.returns-in-Err
returns-in-Err g c m gains =
    let N = g.N.Number in
    let h = c.in-Err.ensures in
    let s = shape c.args.study.sizes in
    let start = vec_items c.in-Begin.start in
    goes_refused N m c.args.command.now (Begin c.in-Begin.start) (weighed_stage c.args.study) _ gains gains c.args.trail.now c.begin.new.trail
    (runs.begin start) c.in-Err.fault (begin_checks N s (length start) (length c.args.trail.now)) c.in-Begin.is (ap weighed_stage h.0) refl h.2 refl (asks_begin refl)
    (subst (λ t. RefusedWith N (begin_checks N s (length t) (length c.args.trail.now)) (refusal c.in-Err.fault)) c.as_slice.ensures.value h.1)

pub returns-in_default : goal.returns-in_default
returns-in_default g c m gains =
    goes_not g.N.Number m c.args.command.now (weighed_stage c.args.study) gains c.args.trail.now
    (none_weighed (shape c.args.study.sizes) c.args.command.now c.in_default.not-Begin)
