-- What is proved of every lawful line, from every stop, lateness and list. Assumes nothing.
--
--   OneStop L              cost at a stop + value of the next lateness = value of this lateness + sum of pivot × gap²
--   AlongAList L           cost of a list = value at its start + sum of pivot × gap² over its stops and inputs
--   Account L              cost of the confirmed stops + value where they lead = value at the start + excess
--   BestFrom L n x         from stop n and lateness x: the plan costs the value, every other list costs more, the least cost is the value
--   BestPlan L             that holds from every stop on from which all pivots are positive
--   LeastAccount L         cost of the confirmed stops + least cost where they lead = least cost at the start + excess
--   FailingFrom L b i n    from stop n: every list has another, its detour at stop b and input i, that costs no more; so none is cheapest
--   FailingPivot L         that holds before the first pivot that is not positive; such a pivot there is, or all are positive; and all are
--                          positive exactly when some start has one list cheaper than all others
--   StationaryFrom L n x   all residuals are zero for the plan with its multipliers, and for nothing else from that start
--   ZeroResiduals L        that holds from every stop on from which no pivot is zero
--   UpperHalf L            the recursion's matrices are symmetric, and their upper half is worked, entry by entry, from the upper half alone
--   Theory L               all of these
use Rattle.std.specs.Prelude.{◌≡◌, ◌⊎◌, ◌↔◌, ℕ, suc, ◌+◌, ◌<◌, ◌≤◌}
use Rattle.algebra.specs.Field.{OrderedField}
use Rattle.control.specs.Matrix.{sum, Symmetric, SameUpper}
use Rattle.control.specs.Elimination.{reduced}
use Rattle.control.specs.Line.{Line, width, next, stage_cost, horizon, lateness, paid, cost}
use Rattle.control.specs.Recursion.{P, T, M, reduced_M, pivot, factor, value, stop_excess, excess, NonzeroPivots, PositivePivots, Fails}
use Rattle.control.specs.Plan.{plan}
use Rattle.control.specs.Detour.{detour}
use Rattle.control.specs.Optimality.{Exceeds, AtMost, Same, Differ, Cheapest, LeastCost}
use Rattle.control.specs.Residual.{multiplier, Stationary, PlanAndMultipliers}

module _ {K : OrderedField} (L : Line K) where
  infixl 60 ◌⊕◌
  infixl 70 ◌⊗◌
  open K use {Car, ◌⊕◌, ◌⊗◌, neg, inv}
  open L use {nu, nx, end, F, G}

  abbrev pub OneStop : Type 0
  OneStop =
      (n : ℕ) (u x : ℕ → Car) → n < end → NonzeroPivots L n (suc n)
      → stage_cost L n u x ⊕ value L (suc n) (next L n u x) ≡ value L n x ⊕ stop_excess L n u x

  abbrev pub AlongAList : Type 0
  AlongAList =
      (n : ℕ) (us : ℕ → ℕ → Car) (x : ℕ → Car) → n ≤ end → NonzeroPivots L n end
      → cost L n us x ≡ value L n x ⊕ excess L (horizon L n) n us x

  abbrev pub Account : Type 0
  Account =
      (k n : ℕ) (us : ℕ → ℕ → Car) (x : ℕ → Car) → n + k ≤ end → NonzeroPivots L n (n + k)
      → paid L k n us x ⊕ value L (n + k) (lateness L n us x k) ≡ value L n x ⊕ excess L k n us x

  pub record BestFrom (n : ℕ) (x : ℕ → Car) : Type 0 where
    pub plan_cost : cost L n (plan L n x) x ≡ value L n x
    pub plan_cheapest : Cheapest L n x (plan L n x)
    pub only_plan : (us : ℕ → ℕ → Car) → Cheapest L n x us → Same L (horizon L n) us (plan L n x)
    pub each_list : (us : ℕ → ℕ → Car) → Same L (horizon L n) us (plan L n x) ⊎ Exceeds K (cost L n us x) (value L n x)
    pub least : (v : Car) → LeastCost L n x v ↔ (v ≡ value L n x)

  abbrev pub BestPlan : Type 0
  BestPlan = (n : ℕ) (x : ℕ → Car) → n ≤ end → PositivePivots L n → BestFrom n x

  abbrev pub LeastAccount : Type 0
  LeastAccount =
      (k n : ℕ) (us : ℕ → ℕ → Car) (x : ℕ → Car) → n + k ≤ end → PositivePivots L n
      → (here start : Car) → LeastCost L (n + k) (lateness L n us x k) here → LeastCost L n x start
      → paid L k n us x ⊕ here ≡ start ⊕ excess L k n us x

  pub record FailingFrom (b i n : ℕ) : Type 0 where
    pub detour_differs : (us : ℕ → ℕ → Car) (x : ℕ → Car) → Differ L (horizon L n) us (detour L b i n us x)
    pub detour_cost : (us : ℕ → ℕ → Car) (x : ℕ → Car) → AtMost K (cost L n (detour L b i n us x) x) (cost L n us x)
    pub none_cheapest : (x : ℕ → Car) → ¬ ((us : ℕ → ℕ → Car) × Cheapest L n x us)
    pub not_positive : ¬ PositivePivots L n

  pub record FailingPivot : Type 0 where
    pub no_cheapest : (b i n : ℕ) → Fails L b i → n ≤ b → FailingFrom b i n
    pub first_is_one : (b i c j : ℕ) → Fails L b i → Fails L c j → (b ≡ c) × (i ≡ j)
    pub decision : (n : ℕ) → n ≤ end → PositivePivots L n ⊎ ((b : ℕ) × (i : ℕ) × (n ≤ b) × Fails L b i)
    pub exactly : (n : ℕ) → n ≤ end → PositivePivots L n ↔ ((x : ℕ → Car) × (us : ℕ → ℕ → Car) × Cheapest L n x us)

  pub record StationaryFrom (n : ℕ) (x : ℕ → Car) : Type 0 where
    pub of_plan : Stationary L n (plan L n x) (lateness L n (plan L n x) x) (λ k. multiplier L (n + k) (lateness L n (plan L n x) x k))
    pub of_no_other : (us xs ps : ℕ → ℕ → Car) → Stationary L n us xs ps → ((j : ℕ) → j < nx → xs 0 j ≡ x j) → PlanAndMultipliers L n x us xs ps

  abbrev pub ZeroResiduals : Type 0
  ZeroResiduals = (n : ℕ) (x : ℕ → Car) → n ≤ end → NonzeroPivots L n end → StationaryFrom n x

  -- for a program that works the recursion in a table A, of which only the upper half is right
  pub record UpperHalf : Type 0 where
    pub P_symmetric : (n : ℕ) → n ≤ end → Symmetric K (suc nx) (P L n)
    pub M_symmetric : (n : ℕ) → n < end → Symmetric K (width L) (M L n)
    pub reduced_symmetric : (n i : ℕ) → n < end → Symmetric K (width L) (reduced_M L n i)
    pub last_stop : (a c : ℕ) → P L end a c ≡ G end a c
    pub each_entry : (n a c : ℕ) → M L n a c ≡ G n a c ⊕ sum K (suc nx) (λ k. F n k a ⊗ T L n k c)
    pub no_input : (n a c : ℕ) → reduced_M L n 0 a c ≡ M L n a c
    pub at_pivot : (n i : ℕ) (A : ℕ → ℕ → Car) → i < nu → SameUpper K (width L) i A (reduced_M L n i) → A i i ≡ pivot L n i
    pub at_factor : (n i c : ℕ) (A : ℕ → ℕ → Car) → i < c → c < width L → SameUpper K (width L) i A (reduced_M L n i) → A i c ⊗ inv (A i i) ≡ factor L n i c
    pub one_input : (n i a c : ℕ) (A : ℕ → ℕ → Car) → i < a → a ≤ c → c < width L → SameUpper K (width L) i A (reduced_M L n i)
        → A a c ⊕ neg (A i a ⊗ factor L n i c) ≡ reduced_M L n (suc i) a c
    pub all_inputs : (n i : ℕ) (A : ℕ → ℕ → Car) → SameUpper K (width L) 0 A (M L n) → SameUpper K (width L) i (reduced K A i) (reduced_M L n i)
    pub what_remains : (n a c : ℕ) (A : ℕ → ℕ → Car) → n < end → a ≤ c → c < suc nx → SameUpper K (width L) nu A (reduced_M L n nu)
        → (A (nu + a) (nu + c) ≡ P L n a c) × (A (nu + a) (nu + c) ≡ P L n c a)

  pub record Theory : Type 0 where
    pub one_stop : OneStop
    pub along_a_list : AlongAList
    pub account : Account
    pub best_plan : BestPlan
    pub least_account : LeastAccount
    pub failing_pivot : FailingPivot
    pub zero_residuals : ZeroResiduals
    pub upper_half : UpperHalf
