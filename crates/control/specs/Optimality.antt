-- When one list costs less than another, and what the least cost is. Assumes nothing.
--
--   Exceeds K a b       a is more than b: their difference is positive
--   AtMost K a b        a is b, or b is more than a
--   Same L m us vs      us and vs have the same adjustments at their first m stops
--   Differ L m us vs    some adjustment at one of their first m stops differs
--   Cheapest L n x us   from stop n and lateness x, every other list costs more than us
--   LeastCost L n x v   v is the cost of a list that every other exceeds
use Rattle.std.specs.Prelude.{◌≡◌, ◌⊎◌, ◌≢◌, ℕ, ◌<◌}
use Rattle.algebra.specs.Field.{OrderedField}
use Rattle.control.specs.Line.{Line, horizon, cost}

module _ (K : OrderedField) where
  open K use {Car, ◌⊕◌, neg, Pos}

  abbrev pub Exceeds : Car → Car → Type 0
  Exceeds a b = Pos (a ⊕ neg b)

  abbrev pub AtMost : Car → Car → Type 0
  AtMost a b = (a ≡ b) ⊎ Exceeds b a

module _ {K : OrderedField} (L : Line K) where
  open K use {Car}
  open L use {nu}

  abbrev pub Same : ℕ → (ℕ → ℕ → Car) → (ℕ → ℕ → Car) → Type 0
  Same m us vs = (k i : ℕ) → k < m → i < nu → us k i ≡ vs k i

  abbrev pub Differ : ℕ → (ℕ → ℕ → Car) → (ℕ → ℕ → Car) → Type 0
  Differ m us vs = (k : ℕ) × (i : ℕ) × (k < m) × (i < nu) × (us k i ≢ vs k i)

  abbrev pub Cheapest : ℕ → (ℕ → Car) → (ℕ → ℕ → Car) → Type 0
  Cheapest n x us = (vs : ℕ → ℕ → Car) → Differ (horizon L n) us vs → Exceeds K (cost L n vs x) (cost L n us x)

  pub record LeastCost (n : ℕ) (x : ℕ → Car) (v : Car) : Type 0 where
    pub list : ℕ → ℕ → Car
    pub cheapest : Cheapest n x list
    pub its_cost : v ≡ cost L n list x
