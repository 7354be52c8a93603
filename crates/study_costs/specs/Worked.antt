-- How forms are worked. N is a kind of number with the values A. Assumes nothing.
--
--   TermWorked N entry x right r   r is the outcome of (entry × x) × y, by whatever formula the entry was worked; `entry` says what it was worked to,
--                                  and `right` which number y is
--   Formed N w entry list r        r is the outcome of working a form of order w; `entry` says what each entry was worked to, and `list` which
--                                  numbers stand in the list at which it is taken
use Rattle.std.specs.Prelude.{◌≡◌, ℕ, ◌<◌, Result}
use Rattle.numbers.specs.declared.Number.{Ghosts}
use Rattle.study_terms.specs.declared.faults.kinds.Below.{Below}
use Rattle.study_terms.specs.Calls.{form_formula}
use Rattle.study_terms.specs.Formulas.{NumberOf, Formula, known, times, Outcome}

module _ {A : Type 0} (N : Ghosts A) where
  abbrev pub TermWorked : (Result A Below → Type 0) → A → (A → Type 0) → Result A Below → Type 0
  TermWorked entry x right r =
      (m : Formula A (NumberOf N)) (y : NumberOf N)
      → ((o : Result A Below) → entry o → Outcome N m o) → ((k : A) → right k → N.value k ≡ y) → Outcome N (times (times m (known (N.value x))) (known y)) r

  abbrev pub Formed : ℕ → (ℕ → ℕ → Result A Below → Type 0) → (ℕ → A → Type 0) → Result A Below → Type 0
  Formed w entry list r =
      (M : ℕ → ℕ → Formula A (NumberOf N)) (z : ℕ → NumberOf N)
      → ((a c : ℕ) (y : Result A Below) → a < w → c < w → entry a c y → Outcome N (M a c) y)
      → ((k : ℕ) (x : A) → k < w → list k x → N.value x ≡ z k) → Outcome N (form_formula N w M z) r
