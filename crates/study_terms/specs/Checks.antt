-- The order in which a call makes its checks and works its numbers, and what comes first that fails. N is a kind of number with the values A.
-- Assumes nothing.
--
--   Checks A C          in order: nothing (none), a test with its refusal (test), a number that has to be held with the refusal for its fault
--                       (number), a pivot that has to be positive (pivot), checks for each index from a on before b (each), one after the
--                       other (◌then◌)
--   Passes N c          every test is met, every number held, every pivot positive
--   RefusedWith N c r   the first of c that fails gives the refusal r
use Rattle.std.specs.Prelude.{◌≡◌, ℕ, ◌<◌, ◌≤◌, Bool, T, ◌⊎◌}
use Rattle.numbers.specs.declared.Number.{Ghosts}
use Rattle.study_terms.specs.declared.faults.kinds.Below.{Below}
use Rattle.study_terms.specs.Formulas.{field, Formula, Sound, FirstFault}
use Rattle.study_terms.specs.Refusals.{Refusal, pivot_refusal}

infixr 20 ◌then◌
pub data Checks (A C : Type 0) : Type 0 where
  none : Checks A C
  test : Bool → Refusal → Checks A C
  number : (Below → Refusal) → Formula A C → Checks A C
  pivot : (stop input : ℕ) → C → Checks A C
  each : (from to : ℕ) → (ℕ → Checks A C) → Checks A C
  ◌then◌ : Checks A C → Checks A C → Checks A C

module _ {A : Type 0} (N : Ghosts A) where
  open field N use {Car, Pos}

  abbrev pub Passes : Checks A Car → Type 0
  Passes none = Unit {0}
  Passes (test b r) = T b
  Passes (number p f) = Sound N f
  Passes (pivot n i x) = Pos x
  Passes (each a b c) = (j : ℕ) → a ≤ j → j < b → Passes (c j)
  Passes (◌then◌ c d) = Passes c × Passes d

  abbrev pub RefusedWith : Checks A Car → Refusal → Type 0
  RefusedWith none r = ⊥
  RefusedWith (test b s) r = (¬ T b) × (r ≡ s)
  RefusedWith (number p f) r = (b : Below) × (r ≡ p b) × FirstFault N f b
  RefusedWith (pivot n i x) r = (¬ Pos x) × (r ≡ pivot_refusal n i)
  RefusedWith (each a b c) r = (j : ℕ) × (a ≤ j) × (j < b) × ((i : ℕ) → a ≤ i → i < j → Passes (c i)) × RefusedWith (c j) r
  RefusedWith (◌then◌ c d) r = RefusedWith c r ⊎ (Passes c × RefusedWith d r)
