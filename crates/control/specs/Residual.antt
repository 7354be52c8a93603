-- The first-order conditions of the least cost, with a multiplier for each lateness, as residuals. Assumes nothing.
--
-- Squares are not halved, so a slope here is half a derivative, and the multipliers are half the slopes of the value.
--
--   multiplier L n x j                  the multiplier of lateness x at stop n: row j of P times (x, 1)
--   slope L n u x p a                   half the derivative, by place a of (u, x, 1), of the cost at stop n and of what follows; p: the next multipliers
--   residual_u L n u x p i              0 minus the slope by adjustment i
--   residual_x L n u x p q j            multiplier q j of this stop minus the slope by lateness j
--   residual_end L x q j                multiplier q j of the last stop minus row j of G at the end times (x, 1)
--   residual_move L n u x y j           lateness y j at the next stop minus what F makes of (u, x, 1)
--   Stationary L n us xs ps             all residuals are zero, from stop n to the end: us, xs k, ps k are those of stop n + k
--   PlanAndMultipliers L n x us xs ps   us is the plan from stop n and lateness x, xs where it leads, ps the multipliers there
use Rattle.std.specs.Prelude.{◌≡◌, ℕ, suc, ◌+◌, ◌<◌, ◌≤◌}
use Rattle.algebra.specs.Field.{OrderedField}
use Rattle.control.specs.Matrix.{sum, apply}
use Rattle.control.specs.Line.{Line, width, state, stacked, next, horizon, lateness}
use Rattle.control.specs.Recursion.{P}
use Rattle.control.specs.Plan.{plan}

module _ {K : OrderedField} (L : Line K) where
  infixl 60 ◌⊕◌
  infixl 70 ◌⊗◌
  open K use {Car, 𝟘, ◌⊕◌, ◌⊗◌, neg}
  open L use {nu, nx, end, F, G}

  unfoldable pub multiplier : ℕ → (ℕ → Car) → ℕ → Car
  multiplier n x j = apply K (suc nx) (P L n) (state L x) j

  unfoldable pub slope : ℕ → (ℕ → Car) → (ℕ → Car) → (ℕ → Car) → ℕ → Car
  slope n u x p a = apply K (width L) (G n) (stacked L u x) a ⊕ sum K nx (λ k. F n k a ⊗ p k)

  abbrev pub residual_u : ℕ → (ℕ → Car) → (ℕ → Car) → (ℕ → Car) → ℕ → Car
  residual_u n u x p i = 𝟘 ⊕ neg (slope n u x p i)

  abbrev pub residual_x : ℕ → (ℕ → Car) → (ℕ → Car) → (ℕ → Car) → (ℕ → Car) → ℕ → Car
  residual_x n u x p q j = q j ⊕ neg (slope n u x p (nu + j))

  abbrev pub residual_end : (ℕ → Car) → (ℕ → Car) → ℕ → Car
  residual_end x q j = q j ⊕ neg (apply K (suc nx) (G end) (state L x) j)

  abbrev pub residual_move : ℕ → (ℕ → Car) → (ℕ → Car) → (ℕ → Car) → ℕ → Car
  residual_move n u x y j = y j ⊕ neg (next L n u x j)

  pub record Stationary (n : ℕ) (us xs ps : ℕ → ℕ → Car) : Type 0 where
    pub in_u : (k i : ℕ) → k < horizon L n → i < nu → residual_u (n + k) (us k) (xs k) (ps (suc k)) i ≡ 𝟘
    pub in_x : (k j : ℕ) → k < horizon L n → j < nx → residual_x (n + k) (us k) (xs k) (ps (suc k)) (ps k) j ≡ 𝟘
    pub at_end : (j : ℕ) → j < nx → residual_end (xs (horizon L n)) (ps (horizon L n)) j ≡ 𝟘
    pub moves : (k j : ℕ) → k < horizon L n → j < nx → residual_move (n + k) (us k) (xs k) (xs (suc k)) j ≡ 𝟘

  pub record PlanAndMultipliers (n : ℕ) (x : ℕ → Car) (us xs ps : ℕ → ℕ → Car) : Type 0 where
    pub adjustments : (k i : ℕ) → k < horizon L n → i < nu → us k i ≡ plan L n x k i
    pub states : (k j : ℕ) → k ≤ horizon L n → j < nx → xs k j ≡ lateness L n (plan L n x) x k j
    pub multipliers : (k j : ℕ) → k ≤ horizon L n → j < nx → ps k j ≡ multiplier (n + k) (lateness L n (plan L n x) x k) j
