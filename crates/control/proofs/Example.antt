-- The worked example, by computation. Assumes nothing.
use mathlib.Core.Path.{◌≡◌, refl}
use Prim.Native.Nat.{ℕ, zero, suc, ◌<◌}
use native.Mathlib.Omega.{arith}
use Rattle.algebra.specs.Field.{OrderedField}
use Rattle.algebra.specs.Rational.{over, addℚ, mulℚ, negq, invℚ, whole}
use Rattle.algebra.specs.Exact.{exact, add_e, neg_e, mul_e, inv_e, norm_e, PosE, positive_e}
use Rattle.control.specs.Elimination.{scaled, eliminate, reduced, fill}
use Rattle.control.specs.Line.{next, stage_cost, final_cost}
use Rattle.control.specs.Recursion.{M_of, P_over, pivot, value, gap, stop_excess}
use Rattle.control.specs.Plan.{solve}
use Rattle.control.specs.Residual.{multiplier}
use Rattle.control.specs.Ones.{squares, rule, fractions, two_stops, OnesLine}

squares_symmetric : (K : OrderedField) (k a c : ℕ) → squares K k a c ≡ squares K k c a
squares_symmetric K zero a c = refl
squares_symmetric K (suc k) zero zero = refl
squares_symmetric K (suc k) zero (suc c) = refl
squares_symmetric K (suc k) (suc a) zero = refl
squares_symmetric K (suc k) (suc a) (suc c) = squares_symmetric K k a c

last_row : (K : OrderedField) (c : ℕ) → c < 2 → rule K 1 c ≡ K.𝟘
last_row K zero l = refl
last_row K (suc zero) l = refl
last_row K (suc (suc c)) l = absurd (omega arith)

-- everything that the example computes with
opened : ℕ
unfolding over addℚ mulℚ negq invℚ whole exact add_e neg_e mul_e inv_e norm_e PosE positive_e scaled eliminate reduced fill next stage_cost final_cost M_of P_over value gap stop_excess solve multiplier
opened = 0

positive : (s i : ℕ) → s < 2 → i < 1 → PosE (pivot two_stops s i)
unfolding opened
positive zero zero h l = tt
positive zero (suc i) h l = absurd (omega arith)
positive (suc zero) zero h l = tt
positive (suc zero) (suc i) h l = absurd (omega arith)
positive (suc (suc s)) i h l = absurd (omega arith)

pub ones_line_lem : OnesLine
unfolding opened
ones_line_lem = record {
  lawful = record {
    stage_symmetric = λ n h a c l q. squares_symmetric fractions _ a c;
    final_symmetric = λ a c l q. squares_symmetric fractions 1 a c;
    last_row = λ n c h l. last_row fractions c l;
    corner = λ n h. refl;
  };
  positive = λ s i l h q. positive s i h q;
  P_at_2 = refl;
  pivot_1 = refl;
  factor_1 = refl;
  P_at_1 = refl;
  pivot_0 = refl;
  factor_0 = refl;
  P_at_0 = refl;
  plan_0 = refl;
  lateness_1 = refl;
  plan_1 = refl;
  lateness_2 = refl;
  plan_cost = refl;
  multiplier_0 = refl;
  multiplier_1 = refl;
  confirmed = refl;
  rest = refl;
  over = refl;
}
