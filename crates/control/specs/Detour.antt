-- Another list, for a pivot that is not positive: no dearer than the list it departs from. Assumes nothing.
--
--   against_sign K s t       the step against a number s with the sign t: −1 where s is positive, else 1
--   against K s              the step against s
--   detour_stop L b i u x    the adjustments at stop b that move input i of u by one, against the sign of its row of the reduced matrix,
--                            and keep the gaps of the inputs before it
--   detour_from L b i us x   from stop b: these, and then the adjustments that keep all the gaps of us
--   detour L b i n us x      from stop n: us up to stop b, and then the detour from there
use Rattle.std.specs.Prelude.{◌≡◌, ◌⊎◌, ℕ, suc, ◌+◌, ◌-◌}
use Rattle.std.proofs.Common.{inl, inr}
use Rattle.algebra.specs.Field.{OrderedField}
use Rattle.control.specs.Matrix.{apply, join, put}
use Rattle.control.specs.Elimination.{gap_of, fill}
use Rattle.control.specs.Line.{Line, width, stacked, next, lateness}
use Rattle.control.specs.Recursion.{M, reduced_M}
use Rattle.control.specs.Plan.{steer, gaps}

abbrev pub against_sign : (K : OrderedField) (s : K.Car) → (s ≡ K.𝟘) ⊎ (K.Pos s ⊎ K.Pos (K.neg s)) → K.Car
against_sign K s (inl zero) = K.𝟙
against_sign K s (inr (inl positive)) = K.neg K.𝟙
against_sign K s (inr (inr negative)) = K.𝟙

abbrev pub against : (K : OrderedField) → K.Car → K.Car
against K s = against_sign K s (K.tri s)

module _ {K : OrderedField} (L : Line K) where
  infixl 60 ◌⊕◌
  open K use {Car, ◌⊕◌}

  unfoldable pub detour_stop : ℕ → ℕ → (ℕ → Car) → (ℕ → Car) → ℕ → Car
  detour_stop b i u x =
      let z = stacked L u x in
      let row = apply K (width L) (reduced_M L b i) z i in
      fill K (width L) (M L b) (λ j. gap_of K (width L) (M L b) j z) i (put i (z i ⊕ against K row) z)

  abbrev pub detour_from : ℕ → ℕ → (ℕ → ℕ → Car) → (ℕ → Car) → ℕ → ℕ → Car
  detour_from b i us x =
      let u = detour_stop b i (us 0) x in
      join 1 (λ _. u) (steer L (suc b) (gaps L (suc b) (λ k. us (suc k)) (next L b (us 0) x)) (next L b u x))

  abbrev pub detour : ℕ → ℕ → ℕ → (ℕ → ℕ → Car) → (ℕ → Car) → ℕ → ℕ → Car
  detour b i n us x = join (b - n) us (detour_from b i (λ k. us (b - n + k)) (lateness L n us x (b - n)))
