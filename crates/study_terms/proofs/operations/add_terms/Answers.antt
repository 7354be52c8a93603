use Rattle.std.proofs.Common.{◌≡◌, Ok, Err, subst, arith}
use Rattle.study_terms.specs.declared.faults.kinds.Below.TheVariants.{TooLarge}
use Rattle.study_terms.specs.Formulas.{sums, Outcome}
use Rattle.study_terms.proofs.Working.{not_held, sum_more, sum_term, sum_large, exits}
use Rattle.study_terms.proofs.operations.add_terms.Goals as goal

pub loop-k-preserved : goal.loop-k-preserved
loop-k-preserved g c s f u h =
    let x = c.in_ok-term.field-0 in
    sum_more g.N.Number s f c.loop-k.k c.loop-k.total x c.in_ok-total.total
    (c.loop-k.invariant s f u h) (h c.loop-k.k (Ok x) (omega arith) c.in_ok-term.ensures) c.in_ok-total.ensures

pub returns : goal.returns
returns g c s f u h =
    let z : c.loop-k.k ≡ c.args.count = omega arith in
    subst (λ n. Outcome g.N.Number (sums s n f) (Ok c.loop-k.total)) z (c.loop-k.invariant s f u h)

pub returns-in_err-term : goal.returns-in_err-term
returns-in_err-term g c s f u h =
    let b = c.in_err-term.field-0.0 in
    exits g.N.Number (sums s c.args.count f) c.from_residual.result b c.from_residual.ensures.1
    (sum_term g.N.Number s f c.loop-k.k c.args.count c.loop-k.total b (omega arith) (c.loop-k.invariant s f u h)
    (h c.loop-k.k (Err b) (omega arith) c.in_err-term.ensures))

pub returns-in_err-total : goal.returns-in_err-total
returns-in_err-total g c s f u h =
    let x = c.in_ok-term.field-0 in
    exits g.N.Number (sums s c.args.count f) c.from_residual-in_err-total.result TooLarge c.from_residual-in_err-total.ensures.1
    (sum_large g.N.Number s f c.loop-k.k c.args.count c.loop-k.total x (omega arith) (c.loop-k.invariant s f u h)
    (h c.loop-k.k (Ok x) (omega arith) c.in_ok-term.ensures) (not_held g.N.Number _ _ c.in_err-total.ensures))
