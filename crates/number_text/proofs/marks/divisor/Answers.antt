use Rattle.std.proofs.Common.{ℕ, ◌<◌, pos, nat_abs, ◌<ℤ◌, sym, refl, subst, MatchOption}
use Rattle.number_text.specs.Spelling.{Natural}
use Rattle.number_text.proofs.marks.divisor.Goals as goal

pub returns-in_err-m : goal.returns-in_err-m
returns-in_err-m c =
    let bs = c.args.text.now in
    subst (λ o. MatchOption o ((m : ℕ) → Natural bs m → ¬ (0 < m)) (λ z. (pos 0 <ℤ z) × Natural bs (nat_abs z))) (sym c.from_residual.ensures)
    (λ m h _. c.in_err-m.ensures (pos m) (m, h, refl))
