-- Lists of adjustments with given gaps, and the plan: the list with no gap. Assumes nothing.
--
--   solve L n g x       the adjustments at stop n whose gaps are g, the last input first
--   steered L n g x k   the lateness k stops after n under the adjustments whose gaps are g 0, g 1, ..
--   steer L n g x       these adjustments: at each stop solve, then the next lateness, on to the end
--   plan L n x          the plan from stop n and lateness x: no gap at any stop
--   gaps L n us x       the gaps of a list: gaps L n us x k i is that of input i at stop n + k
use Rattle.std.specs.Prelude.{ℕ, zero, suc, ◌+◌}
use Rattle.algebra.specs.Field.{OrderedField}
use Rattle.control.specs.Elimination.{fill}
use Rattle.control.specs.Line.{Line, width, stacked, next, lateness}
use Rattle.control.specs.Recursion.{M, gap}

module _ {K : OrderedField} (L : Line K) where
  open K use {Car, 𝟘}
  open L use {nu}

  unfoldable pub solve : ℕ → (ℕ → Car) → (ℕ → Car) → ℕ → Car
  solve n g x = fill K (width L) (M L n) g nu (stacked L (λ _. 𝟘) x)

  abbrev pub steered : ℕ → (ℕ → ℕ → Car) → (ℕ → Car) → ℕ → ℕ → Car
  steered n g x zero = x
  steered n g x (suc k) = next L (n + k) (solve (n + k) (g k) (steered n g x k)) (steered n g x k)

  abbrev pub steer : ℕ → (ℕ → ℕ → Car) → (ℕ → Car) → ℕ → ℕ → Car
  steer n g x k = solve (n + k) (g k) (steered n g x k)

  abbrev pub plan : ℕ → (ℕ → Car) → ℕ → ℕ → Car
  plan n x = steer n (λ _ _. 𝟘) x

  abbrev pub gaps : ℕ → (ℕ → ℕ → Car) → (ℕ → Car) → ℕ → ℕ → Car
  gaps n us x k i = gap L (n + k) i (us k) (lateness L n us x k)
