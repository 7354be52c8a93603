use Rattle.std.proofs.Common.{◌≡◌, sym, ◌∙◌, ⊎_elim, arith}
use Rattle.std.proofs.lemmas.Fmt.{decimal_injective}
use Rattle.feed_lines.proofs.values.unsigned.Goals as goal

pub returns-else-least-n : goal.returns-else-least-n
returns-else-least-n c (m, l, h, e) =
    let told = c.in_ok-n.ensures in
    let is : c.in_ok-n.n ≡ m = decimal_injective c.in_ok-n.n m (omega (arith, told.0)) (omega arith) (sym told.1 ∙ e) in
    ⊎_elim (λ k. omega (arith, k.1, is)) (λ k. omega (arith, k, is)) c.else-least-n.either
