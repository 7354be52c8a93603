-- What single operations are worked to, by whatever formulas their parts were worked. N is a kind of number with the values A. Assumes nothing.
--
--   Multiplied N x y r     r is the outcome of x × y, where x is the outcome of working its first part
--   Summed N t n gives r   r is the outcome of adding n terms to t, one after the other; `gives` says what each term was worked to
use Rattle.std.specs.Prelude.{ℕ, ◌<◌, Ok, Result}
use Rattle.numbers.specs.declared.Number.{Ghosts}
use Rattle.study_terms.specs.declared.faults.kinds.Below.{Below}
use Rattle.study_terms.specs.Formulas.{NumberOf, Formula, times, sums, Outcome}

module _ {A : Type 0} (N : Ghosts A) where
  abbrev pub Multiplied : Result A Below → A → Result A Below → Type 0
  Multiplied x y r = (f g : Formula A (NumberOf N)) → Outcome N f x → Outcome N g (Ok y) → Outcome N (times f g) r

  abbrev pub Summed : A → ℕ → (ℕ → Result A Below → Type 0) → Result A Below → Type 0
  Summed t n gives r =
      (s : Formula A (NumberOf N)) (f : ℕ → Formula A (NumberOf N))
      → Outcome N s (Ok t) → ((k : ℕ) (y : Result A Below) → k < n → gives k y → Outcome N (f k) y) → Outcome N (sums s n f) r
