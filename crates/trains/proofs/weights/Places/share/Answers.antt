use Rattle.std.proofs.Common.{◌*◌, ◌≤◌, nat_abs, sym, subst, rules}
use Rattle.trains.proofs.Factors.{share_fits, share_is, share_bound}
use Rattle.trains.proofs.weights.Places.share.Goals as goal

pub overflow_mul-result-2 : goal.overflow_mul-result-2
overflow_mul-result-2 c = share_fits c.from.result c.factor.result c.factor-2.result (search rules) c.factor.ensures.bound c.factor-2.ensures.bound

pub returns : goal.returns
returns c =
    let w : nat_abs c.from.result ≤ 65535 = search rules in
    let is = share_is c.from.result c.factor.result c.factor-2.result w c.factor.ensures.bound c.factor-2.ensures.bound in
    record {
      value = cc is;
      bound = subst (λ z. nat_abs z ≤ 65535 * 32768 * 32768) (sym is) (share_bound c.from.result c.factor.result c.factor-2.result w c.factor.ensures.bound c.factor-2.ensures.bound);
    }
