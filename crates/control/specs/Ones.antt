-- The worked example: one state, one input, the same rule and cost at each stop. Assumes nothing.
--
--   squares K k              the matrix of the sum of the first k squares: 1 in the first k places of the diagonal, else 0
--   rule K                   the rule u + x: row 0 is 1, 1, 0, and the last row 0, 0, 1
--   ones K e                 the line of last stop e with next lateness u + x, cost u² + x² at each stop and x² at the last
--   fractions                the exact numbers with D = 0, as an ordered field
--   fraction p m, number p   p/m and p, as such numbers
--   two_stops                the ones line over the fractions, with N = 2
--   ten, minus_five          the start, and what is confirmed at stop 0
--   OnesLine                 what the definitions give for two stops, from lateness 10: the plan, and what confirming −5 costs
use Rattle.std.specs.Prelude.{◌≡◌, refl, cond, ℕ, zero, suc, nat_lt, ℤ, pos, neg_ℤ}
use Rattle.std.proofs.Common.{inl}
use Rattle.algebra.specs.Field.{OrderedField}
use Rattle.algebra.specs.Exact.{Exact, exact}
use Rattle.algebra.proofs.ExactField.{exact_field}
use Rattle.control.specs.Line.{Line, Lawful, lateness, paid, cost}
use Rattle.control.specs.Recursion.{P, pivot, factor, value, excess, PositivePivots}
use Rattle.control.specs.Plan.{plan}
use Rattle.control.specs.Residual.{multiplier}

abbrev pub squares : (K : OrderedField) → ℕ → ℕ → ℕ → K.Car
squares K zero a c = K.𝟘
squares K (suc k) zero zero = K.𝟙
squares K (suc k) zero (suc c) = K.𝟘
squares K (suc k) (suc a) zero = K.𝟘
squares K (suc k) (suc a) (suc c) = squares K k a c

abbrev pub rule : (K : OrderedField) → ℕ → ℕ → K.Car
rule K zero zero = K.𝟙
rule K zero (suc zero) = K.𝟙
rule K zero (suc (suc c)) = K.𝟘
rule K (suc k) zero = K.𝟘
rule K (suc k) (suc zero) = K.𝟘
rule K (suc k) (suc (suc c)) = K.𝟙

abbrev pub ones : (K : OrderedField) → ℕ → Line K
ones K e = record { nu = 1; nx = 1; end = e; F = λ n. rule K; G = λ n. squares K (cond (nat_lt n e) 2 1) }

abbrev pub fractions : OrderedField
fractions = exact_field 0 (inl refl)

abbrev pub fraction : ℤ → ℕ → Exact 0
fraction p m = exact 0 p (pos 0) m

abbrev pub number : ℤ → Exact 0
number p = fraction p 1

abbrev pub two_stops : Line fractions
two_stops = ones fractions 2

-- the start, and what is confirmed at stop 0
abbrev pub ten : ℕ → Exact 0
ten j = number (pos 10)

abbrev pub minus_five : ℕ → ℕ → Exact 0
minus_five k i = number (neg_ℤ (pos 5))

pub record OnesLine : Type 0 where
  pub lawful : Lawful two_stops
  pub positive : PositivePivots two_stops 0
  pub P_at_2 : P two_stops 2 0 0 ≡ number (pos 1)
  pub pivot_1 : pivot two_stops 1 0 ≡ number (pos 2)
  pub factor_1 : factor two_stops 1 0 1 ≡ fraction (pos 1) 2
  pub P_at_1 : P two_stops 1 0 0 ≡ fraction (pos 3) 2
  pub pivot_0 : pivot two_stops 0 0 ≡ fraction (pos 5) 2
  pub factor_0 : factor two_stops 0 0 1 ≡ fraction (pos 3) 5
  pub P_at_0 : P two_stops 0 0 0 ≡ fraction (pos 8) 5
  pub plan_0 : plan two_stops 0 ten 0 0 ≡ number (neg_ℤ (pos 6))
  pub lateness_1 : lateness two_stops 0 (plan two_stops 0 ten) ten 1 0 ≡ number (pos 4)
  pub plan_1 : plan two_stops 0 ten 1 0 ≡ number (neg_ℤ (pos 2))
  pub lateness_2 : lateness two_stops 0 (plan two_stops 0 ten) ten 2 0 ≡ number (pos 2)
  pub plan_cost : cost two_stops 0 (plan two_stops 0 ten) ten ≡ number (pos 160)
  pub multiplier_0 : multiplier two_stops 0 ten 0 ≡ number (pos 16)
  pub multiplier_1 : multiplier two_stops 1 (lateness two_stops 0 (plan two_stops 0 ten) ten 1) 0 ≡ number (pos 6)
  pub confirmed : paid two_stops 1 0 minus_five ten ≡ number (pos 125)
  pub rest : value two_stops 1 (lateness two_stops 0 minus_five ten 1) ≡ fraction (pos 75) 2
  pub over : excess two_stops 1 0 minus_five ten ≡ fraction (pos 5) 2
