use Rattle.std.proofs.Common.{suc, vec_items, refl, ap, subst}
use Rattle.study_theory.specs.Runs.{confirms, withdraws, asks_confirm}
use Rattle.study_theory.specs.Runs as runs
use Rattle.study_terms.specs.Sized.{shape}
use Rattle.study_terms.specs.Checks.{RefusedWith}
use Rattle.study_terms.specs.Refusals.{refusal}
use Rattle.study_terms.specs.Sheets.{at}
use Rattle.study_terms.specs.Calls.{confirm_checks, ConfirmGranted}
use Rattle.study.specs.Stages.{ordered_stage}
use Rattle.study_runs.specs.declared.commands.Command.TheVariants.{Confirm, Withdraw}
use Rattle.study_runs.proofs.Leading.{goes_stands, goes_refused, goes_not}
use Rattle.study_runs.proofs.Verbs.{none_ordered}
use Rattle.study_runs.proofs.performing.from_ordered.Goals as goal

pub returns-in-Ok : goal.returns-in-Ok
returns-in-Ok g c gains =
    let N = g.L.Number.Number in
    let m = g.L.Line.meaning c.args.line.now in
    let h = c.in-Ok.ensures in
    let s = shape c.args.study.at.sizes in
    let k = c.args.study.at.stop in
    let made = vec_items c.in-Confirm.made in
    goes_stands N m c.args.command.now (Confirm c.in-Confirm.made) (ordered_stage c.args.study) (runs.underway s (suc k)) c.in-Ok.underway c.stands.result.0 c.stands.result.1
    gains c.args.trail.now c.confirm.new.trail (runs.confirm made) c.in-Confirm.is h.0 refl c.stands.ensures
    (λ l. (
      runs.extended l (at N made),
      confirms refl (subst (λ t. ConfirmGranted N s m k t c.args.trail.now c.confirm.new.trail) c.as_slice.ensures.value h.1),
    ))

pub returns-in-Err : goal.returns-in-Err
returns-in-Err g c gains =
    let N = g.L.Number.Number in
    let m = g.L.Line.meaning c.args.line.now in
    let h = c.in-Err.ensures in
    let s = shape c.args.study.at.sizes in
    let k = c.args.study.at.stop in
    let made = vec_items c.in-Confirm.made in
    goes_refused N m c.args.command.now (Confirm c.in-Confirm.made) (ordered_stage c.args.study) _ gains gains c.args.trail.now c.confirm.new.trail
    (runs.confirm made) c.in-Err.fault (confirm_checks N s m k made c.args.trail.now) c.in-Confirm.is (ap ordered_stage h.0) refl h.2 refl (asks_confirm refl)
    (subst (λ t. RefusedWith N (confirm_checks N s m k t c.args.trail.now) (refusal c.in-Err.fault)) c.as_slice.ensures.value h.1)

pub returns-in-Withdraw : goal.returns-in-Withdraw
returns-in-Withdraw g c gains =
    let N = g.L.Number.Number in
    let m = g.L.Line.meaning c.args.line.now in
    let s = shape c.args.study.at.sizes in
    let k = c.args.study.at.stop in
    goes_stands N m c.args.command.now Withdraw (ordered_stage c.args.study) (runs.underway s k) c.withdraw.result c.stands-in-Withdraw.result.0 c.stands-in-Withdraw.result.1
    gains c.args.trail.now c.args.trail.now runs.withdraw c.in-Withdraw.is c.withdraw.ensures refl c.stands-in-Withdraw.ensures (λ l. (l, withdraws refl))

pub returns-in_default : goal.returns-in_default
returns-in_default g c gains =
    goes_not g.L.Number.Number (g.L.Line.meaning c.args.line.now) c.args.command.now (ordered_stage c.args.study) gains c.args.trail.now
    (none_ordered (shape c.args.study.at.sizes) c.args.study.at.stop c.args.command.now c.in_default.not-Confirm c.in_default.not-Withdraw)
