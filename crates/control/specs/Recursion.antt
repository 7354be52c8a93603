-- The backward recursion: from the last stop to the first, each stop's matrix with its inputs eliminated. Assumes nothing.
--
--   T_of L n P            P times F at n, for a matrix P of the next stop
--   M_of L n P            G at n plus F transposed times that product
--   P_over L h n          P at stop n, where h stops lie from n on before the last
--   P L n                 P at stop n: the matrix of the value there, over (x, 1)
--   T L n                 the product of P at n + 1 and F at n
--   M L n                 G at n + Fᵀ T: the matrix of stop n and all that follows, over (u, x, 1)
--   reduced_M L n i       M at n with its inputs 0 .. i − 1 eliminated
--   pivot L n i           the pivot of input i at stop n
--   factor L n i c        the factor of column c in the row of input i at stop n: that row over its pivot
--   value L n x           the value of lateness x at stop n: the form of P at n, taken at (x, 1)
--   gap L n i u x         the gap of input i: u i plus the sum of its factors times what comes after it in (u, x, 1)
--   stop_excess L n u x   the sum over the inputs of pivot × gap²
--   excess L k n us x     the sum of these over the k stops from n on
--   NonzeroPivots L n e   no pivot is zero at the stops from n on, before e
--   PositivePivots L n    every pivot is positive from stop n to the end
--   Fails L b i           the recursion meets its first pivot that is not positive at stop b, input i
use Rattle.std.specs.Prelude.{◌≢◌, ℕ, zero, suc, ◌+◌, ◌<◌, ◌≤◌}
use Rattle.algebra.specs.Field.{OrderedField}
use Rattle.control.specs.Matrix.{sum, form, product}
use Rattle.control.specs.Elimination.{reduced, pivot_of, factor_of, gap_of}
use Rattle.control.specs.Line.{Line, width, state, stacked, horizon, lateness}

module _ {K : OrderedField} (L : Line K) where
  infixl 60 ◌⊕◌
  infixl 70 ◌⊗◌
  open K use {Car, 𝟘, ◌⊕◌, ◌⊗◌, Pos}
  open L use {nu, nx, end, F, G}

  abbrev pub T_of : ℕ → (ℕ → ℕ → Car) → ℕ → ℕ → Car
  T_of n P = product K (suc nx) P (F n)

  unfoldable pub M_of : ℕ → (ℕ → ℕ → Car) → ℕ → ℕ → Car
  M_of n P a c = G n a c ⊕ product K (suc nx) (λ a k. F n k a) (T_of n P) a c

  unfoldable pub P_over : ℕ → ℕ → ℕ → ℕ → Car
  P_over zero n = G end
  P_over (suc h) n = λ a c. reduced K (M_of n (P_over h (suc n))) nu (nu + a) (nu + c)

  abbrev pub P : ℕ → ℕ → ℕ → Car
  P n = P_over (horizon L n) n

  abbrev pub T : ℕ → ℕ → ℕ → Car
  T n = T_of n (P (suc n))

  abbrev pub M : ℕ → ℕ → ℕ → Car
  M n = M_of n (P (suc n))

  abbrev pub reduced_M : ℕ → ℕ → ℕ → ℕ → Car
  reduced_M n = reduced K (M n)

  abbrev pub pivot : ℕ → ℕ → Car
  pivot n = pivot_of K (M n)

  abbrev pub factor : ℕ → ℕ → ℕ → Car
  factor n = factor_of K (M n)

  unfoldable pub value : ℕ → (ℕ → Car) → Car
  value n x = form K (suc nx) (P n) (state L x)

  unfoldable pub gap : ℕ → ℕ → (ℕ → Car) → (ℕ → Car) → Car
  gap n i u x = gap_of K (width L) (M n) i (stacked L u x)

  unfoldable pub stop_excess : ℕ → (ℕ → Car) → (ℕ → Car) → Car
  stop_excess n u x = sum K nu (λ i. pivot n i ⊗ (gap n i u x ⊗ gap n i u x))

  abbrev pub excess : ℕ → ℕ → (ℕ → ℕ → Car) → (ℕ → Car) → Car
  excess k n us x = sum K k (λ j. stop_excess (n + j) (us j) (lateness L n us x j))

  abbrev pub NonzeroPivots : ℕ → ℕ → Type 0
  NonzeroPivots n e = (s i : ℕ) → n ≤ s → s < e → i < nu → pivot s i ≢ 𝟘

  abbrev pub PositivePivots : ℕ → Type 0
  PositivePivots n = (s i : ℕ) → n ≤ s → s < end → i < nu → Pos (pivot s i)

  -- the order of the recursion: stops downwards, and at each stop inputs upwards
  pub record Fails (b i : ℕ) : Type 0 where
    pub stop : b < end
    pub input : i < nu
    pub later_stops : (s j : ℕ) → b < s → s < end → j < nu → Pos (pivot s j)
    pub earlier_inputs : (j : ℕ) → j < i → Pos (pivot b j)
    pub here : ¬ Pos (pivot b i)
