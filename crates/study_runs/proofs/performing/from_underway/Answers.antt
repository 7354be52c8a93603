use Rattle.std.proofs.Common.{length, refl, ap}
use Rattle.study_theory.specs.Runs.{proposes, tells_paid, tells_rest, tells_excess, abandons, closes, asks_propose, asks_paid, asks_rest, asks_excess, asks_close}
use Rattle.study_theory.specs.Runs as runs
use Rattle.study_terms.specs.Sized.{shape}
use Rattle.study_terms.specs.Calls.{propose_checks, paid_checks, rest_checks, excess_checks, close_checks, paid_at, rest_at, excess_at}
use Rattle.study.specs.Stages.{underway_stage}
use Rattle.study_runs.specs.declared.commands.Command.TheVariants.{Propose, Paid, Rest, Excess, Abandon, Close}
use Rattle.study_runs.specs.declared.answers.Answer.TheVariants.{Planned, Ended}
use Rattle.study_runs.proofs.Leading.{goes_on, goes_refused, goes_asked, goes_not}
use Rattle.study_runs.proofs.Verbs.{none_underway}
use Rattle.study_runs.proofs.performing.from_underway.Goals as goal

pub returns-in-Ok : goal.returns-in-Ok
returns-in-Ok g c =
    let N = g.L.Number.Number in
    let m = g.L.Line.meaning c.args.line.now in
    let h = c.in-Ok.ensures in
    let s = shape c.args.study.at.sizes in
    let k = c.args.study.at.stop in
    let slip = c.propose.new.slip in
    let f = c.few.ensures in
    goes_on N m c.args.command.now Propose (Planned c.few.result) (underway_stage c.args.study) _ (runs.ordered s k)
    c.args.gains.now c.args.gains.now c.args.trail.now c.args.trail.now (runs.propose c.args.slip.now) (runs.wrote slip) c.in-Propose.is h.0 (c.args.slip.now, refl)
    (λ l. (
      l,
      proposes refl h.1,
      (slip, refl, record { count = f.count; rows = f.rows }),
    ))

pub returns-in-Err : goal.returns-in-Err
returns-in-Err g c =
    let N = g.L.Number.Number in
    let m = g.L.Line.meaning c.args.line.now in
    let h = c.in-Err.ensures in
    let s = shape c.args.study.at.sizes in
    let k = c.args.study.at.stop in
    goes_refused N m c.args.command.now Propose (underway_stage c.args.study) _ c.args.gains.now c.args.gains.now c.args.trail.now c.args.trail.now
    (runs.propose c.args.slip.now) c.in-Err.fault (propose_checks N s k c.args.gains.now c.args.trail.now (length c.args.slip.now))
    c.in-Propose.is (ap underway_stage h.0) refl refl (c.args.slip.now, refl) (asks_propose refl) h.1

pub returns-in-Paid : goal.returns-in-Paid
returns-in-Paid g c =
    let N = g.L.Number.Number in
    let m = g.L.Line.meaning c.args.line.now in
    let s = shape c.args.study.at.sizes in
    let k = c.args.study.at.stop in
    goes_asked N m c.args.command.now Paid (underway_stage c.args.study) c.args.gains.now c.args.trail.now runs.paid (paid_checks N s m k c.args.trail.now) (paid_at N s m c.args.trail.now k)
    c.paid.result c.told-answer.result c.in-Paid.is refl (asks_paid refl) (λ x h l. tells_paid refl h) c.paid.ensures c.told-answer.ensures

pub returns-in-Rest : goal.returns-in-Rest
returns-in-Rest g c =
    let N = g.L.Number.Number in
    let m = g.L.Line.meaning c.args.line.now in
    let s = shape c.args.study.at.sizes in
    let k = c.args.study.at.stop in
    goes_asked N m c.args.command.now Rest (underway_stage c.args.study) c.args.gains.now c.args.trail.now runs.rest (rest_checks N s k c.args.gains.now c.args.trail.now) (rest_at N s c.args.gains.now c.args.trail.now k)
    c.rest.result c.told-answer-in-Rest.result c.in-Rest.is refl (asks_rest refl) (λ x h l. tells_rest refl h) c.rest.ensures c.told-answer-in-Rest.ensures

pub returns-in-Excess : goal.returns-in-Excess
returns-in-Excess g c =
    let N = g.L.Number.Number in
    let m = g.L.Line.meaning c.args.line.now in
    let s = shape c.args.study.at.sizes in
    let k = c.args.study.at.stop in
    goes_asked N m c.args.command.now Excess (underway_stage c.args.study) c.args.gains.now c.args.trail.now runs.excess (excess_checks N s k c.args.gains.now c.args.trail.now) (excess_at N s c.args.gains.now c.args.trail.now k)
    c.excess.result c.told-answer-in-Excess.result c.in-Excess.is refl (asks_excess refl) (λ x h l. tells_excess refl h) c.excess.ensures c.told-answer-in-Excess.ensures

pub returns-in-Abandon : goal.returns-in-Abandon
returns-in-Abandon g c =
    let N = g.L.Number.Number in
    let m = g.L.Line.meaning c.args.line.now in
    let s = shape c.args.study.at.sizes in
    goes_on N m c.args.command.now Abandon Ended (underway_stage c.args.study) _ (runs.weighed s)
    c.args.gains.now c.args.gains.now c.args.trail.now c.args.trail.now runs.abandon runs.done c.in-Abandon.is c.abandon.ensures refl (λ l. (runs.empty, abandons refl, refl))

pub returns-in-Ok-close : goal.returns-in-Ok-close
returns-in-Ok-close g c =
    let N = g.L.Number.Number in
    let m = g.L.Line.meaning c.args.line.now in
    let h = c.in-Ok-close.ensures in
    let s = shape c.args.study.at.sizes in
    goes_on N m c.args.command.now Close Ended (underway_stage c.args.study) _ (runs.weighed s)
    c.args.gains.now c.args.gains.now c.args.trail.now c.args.trail.now runs.close runs.done c.in-Close.is h.0 refl (λ l. (runs.empty, closes refl h.1, refl))

pub returns-in-Err-close : goal.returns-in-Err-close
returns-in-Err-close g c =
    let N = g.L.Number.Number in
    let m = g.L.Line.meaning c.args.line.now in
    let h = c.in-Err-close.ensures in
    let s = shape c.args.study.at.sizes in
    let k = c.args.study.at.stop in
    goes_refused N m c.args.command.now Close (underway_stage c.args.study) _ c.args.gains.now c.args.gains.now c.args.trail.now c.args.trail.now
    runs.close c.in-Err-close.fault (close_checks N s k) c.in-Close.is (ap underway_stage h.0) refl refl refl (asks_close refl) h.1

pub returns-in_default : goal.returns-in_default
returns-in_default g c =
    let r = c.in_default in
    goes_not g.L.Number.Number (g.L.Line.meaning c.args.line.now) c.args.command.now (underway_stage c.args.study) c.args.gains.now c.args.trail.now
    (none_underway (shape c.args.study.at.sizes) c.args.study.at.stop c.args.command.now
    (record { propose = r.not-Propose; paid = r.not-Paid; rest = r.not-Rest; excess = r.not-Excess; abandon = r.not-Abandon; close = r.not-Close }))
