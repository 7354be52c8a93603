-- A line of stops: how lateness travels, and what each stop costs. Assumes nothing.
--
-- Stops are numbered 0 to end. A list of adjustments from stop n is a function us: us k i is input i at the stop n + k.
--
--   Line K                nu inputs, nx states, the last stop (end), and the entries F n k c and G n a c at stop n
--   width L               nu + nx + 1, the length of (u, x, 1)
--   state L x             (x, 1)
--   stacked L u x         (u, x, 1)
--   next L n u x          the lateness at stop n + 1: F at n times (u, x, 1)
--   stage_cost L n u x    the cost at stop n: the form of G at n, taken at (u, x, 1)
--   final_cost L x        the cost at the last stop: the form of G at the end, taken at (x, 1)
--   Lawful L              G is symmetric, and F's last row keeps the constant 1
--   horizon L n           how many stops lie from n on before the last
--   lateness L n us x k   the lateness k stops after n, from lateness x under us
--   paid L k n us x       the cost of the k stops from n on: what they cost once they are confirmed
--   cost L n us x         the cost of us from stop n and lateness x to the end: of its stops, and of the last one where they lead
use Rattle.std.specs.Prelude.{◌≡◌, ℕ, zero, suc, ◌+◌, ◌-◌, ◌<◌}
use Rattle.algebra.specs.Field.{OrderedField}
use Rattle.control.specs.Matrix.{sum, apply, form, join, Symmetric}

pub record Line (K : OrderedField) : Type 0 where
  pub nu : ℕ
  pub nx : ℕ
  pub end : ℕ
  pub F : ℕ → ℕ → ℕ → K.Car
  pub G : ℕ → ℕ → ℕ → K.Car

module _ {K : OrderedField} (L : Line K) where
  infixl 60 ◌⊕◌
  open K use {Car, 𝟘, 𝟙, ◌⊕◌}
  open L use {nu, nx, end, F, G}

  abbrev pub width : ℕ
  width = nu + suc nx

  abbrev pub state : (ℕ → Car) → ℕ → Car
  state x = join nx x (λ _. 𝟙)

  abbrev pub stacked : (ℕ → Car) → (ℕ → Car) → ℕ → Car
  stacked u x = join nu u (state x)

  unfoldable pub next : ℕ → (ℕ → Car) → (ℕ → Car) → ℕ → Car
  next n u x = apply K width (F n) (stacked u x)

  unfoldable pub stage_cost : ℕ → (ℕ → Car) → (ℕ → Car) → Car
  stage_cost n u x = form K width (G n) (stacked u x)

  unfoldable pub final_cost : (ℕ → Car) → Car
  final_cost x = form K (suc nx) (G end) (state x)

  pub record Lawful : Type 0 where
    pub stage_symmetric : (n : ℕ) → n < end → Symmetric K width (G n)
    pub final_symmetric : Symmetric K (suc nx) (G end)
    pub last_row : (n c : ℕ) → n < end → c < nu + nx → F n nx c ≡ 𝟘
    pub corner : (n : ℕ) → n < end → F n nx (nu + nx) ≡ 𝟙

  abbrev pub horizon : ℕ → ℕ
  horizon n = end - n

  abbrev pub lateness : ℕ → (ℕ → ℕ → Car) → (ℕ → Car) → ℕ → ℕ → Car
  lateness n us x zero = x
  lateness n us x (suc k) = next (n + k) (us k) (lateness n us x k)

  abbrev pub paid : ℕ → ℕ → (ℕ → ℕ → Car) → (ℕ → Car) → Car
  paid k n us x = sum K k (λ j. stage_cost (n + j) (us j) (lateness n us x j))

  abbrev pub cost : ℕ → (ℕ → ℕ → Car) → (ℕ → Car) → Car
  cost n us x = paid (horizon n) n us x ⊕ final_cost (lateness n us x (horizon n))
