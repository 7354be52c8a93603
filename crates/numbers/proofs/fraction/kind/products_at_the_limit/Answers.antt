use Rattle.std.proofs.Common.{◌≡◌, pos, sym, refl, ◌∙◌, arith, lit≤}
use Rattle.algebra.specs.Rational.{over, addℚ, mulℚ, whole}
use Rattle.algebra.specs.Exact.{exact, whole_e, mul_e}
use Rattle.algebra.specs.Laws.{LowestParts}
use Rattle.numbers.specs.FractionKind.{holds_exactly}
use Rattle.numbers.proofs.fraction.kind.products_at_the_limit.Goals as goal

held_product : mul_e (whole_e 0 (pos 65535)) (whole_e 0 (pos 32768)) ≡ exact 0 (pos 2147450880) (pos 0) 1
unfolding whole_e exact mul_e over addℚ mulℚ whole
held_product = refl

next_product : mul_e (whole_e 0 (pos 65536)) (whole_e 0 (pos 32768)) ≡ exact 0 (pos 2147483648) (pos 0) 1
unfolding whole_e exact mul_e over addℚ mulℚ whole
next_product = refl

held_lowest : LowestParts 0 (pos 2147450880) (pos 0) 1
held_lowest = record { above = omega arith; plain = λ e. refl; coprime = refl }

next_lowest : LowestParts 0 (pos 2147483648) (pos 0) 1
next_lowest = record { above = omega arith; plain = λ e. refl; coprime = refl }

pub returns : goal.returns
returns c = (
  let h = (holds_exactly (pos 2147450880) (pos 0) 1 held_lowest).1 (lit≤ tt, lit≤ tt, lit≤ tt) in (h.0, h.1 ∙ sym held_product),
  λ h. let s = ((holds_exactly (pos 2147483648) (pos 0) 1 next_lowest).0 (h.0, h.1 ∙ next_product)).0 in omega arith,
)
