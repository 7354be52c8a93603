-- A number to be worked: its operations in their order, each of which has to be held. It decides refusals, and says nothing of the subject.
-- N is a kind of number with the values A. Assumes nothing.
--
--   field N            the exact numbers of the kind, as an ordered field; NumberOf N: one of them
--   Formula A C        a number at hand (known), an entry of a line (asked), or an operation on two that are worked one after the other
--   exact N f          the exact number that the formula f gives; a marked entry counts 0
--   sums s n f         s + f 0 + .. + f (n − 1), added one after the other
--   Holds N x          some value of the kind means x
--   Divides N x y      y is not 0, and x over y is held
--   Sound N f          no entry of f is marked, and each of its operations has a result that is held
--   FirstFault N f b   b is the first fault, from the left: an entry that is marked, or an operation whose result is not held
--   Outcome N f r      r is what working f answers: the value that means its exact number, or its first fault
use Rattle.std.specs.Prelude.{◌≡◌, ℕ, zero, suc, ◌≢◌, ◌⊎◌, Ok, Err, Result}
use Rattle.algebra.specs.Field.{OrderedField}
use Rattle.algebra.specs.Exact.{Exact}
use Rattle.algebra.proofs.ExactField.{exact_field}
use Rattle.numbers.specs.Answers.{Held}
use Rattle.numbers.specs.declared.Number.{Ghosts}
use Rattle.lines.specs.Meaning.{Entry, holds, marked, told}
use Rattle.study_terms.specs.declared.faults.kinds.Below.{Below}
use Rattle.study_terms.specs.declared.faults.kinds.Below.TheVariants.{TooLarge, Marked}

abbrev pub field : {A : Type 0} → Ghosts A → OrderedField
field N = exact_field N.radicand N.good

abbrev pub NumberOf : {A : Type 0} → Ghosts A → Type 0
NumberOf N = Exact N.radicand

pub data Formula (A C : Type 0) : Type 0 where
  known : C → Formula A C
  asked : Entry A → Formula A C
  plus : Formula A C → Formula A C → Formula A C
  minus : Formula A C → Formula A C → Formula A C
  times : Formula A C → Formula A C → Formula A C
  over : Formula A C → Formula A C → Formula A C

abbrev pub sums : {A C : Type 0} → Formula A C → ℕ → (ℕ → Formula A C) → Formula A C
sums s zero f = s
sums s (suc n) f = plus (sums s n f) (f n)

module _ {A : Type 0} (N : Ghosts A) where
  infixl 60 ◌⊕◌
  infixl 70 ◌⊗◌
  open field N use {Car, 𝟘, ◌⊕◌, ◌⊗◌, neg, inv}

  abbrev pub exact : Formula A Car → Car
  exact (known x) = x
  exact (asked e) = told (field N) N.value e
  exact (plus f g) = exact f ⊕ exact g
  exact (minus f g) = exact f ⊕ neg (exact g)
  exact (times f g) = exact f ⊗ exact g
  exact (over f g) = exact f ⊗ inv (exact g)

  abbrev pub Holds : Car → Type 0
  Holds x = Held N.value x

  abbrev pub Divides : Car → Car → Type 0
  Divides x y = (y ≢ 𝟘) × Holds (x ⊗ inv y)

  abbrev pub Sound : Formula A Car → Type 0
  Sound (known x) = Unit {0}
  Sound (asked (holds k)) = Unit {0}
  Sound (asked (marked m)) = ⊥
  Sound (plus f g) = Sound f × Sound g × Holds (exact f ⊕ exact g)
  Sound (minus f g) = Sound f × Sound g × Holds (exact f ⊕ neg (exact g))
  Sound (times f g) = Sound f × Sound g × Holds (exact f ⊗ exact g)
  Sound (over f g) = Sound f × Sound g × Divides (exact f) (exact g)

  -- of an operation: the fault of its first part, or of its second, or its own
  abbrev pub FirstOf : Type 0 → Type 0 → Type 0 → Type 0 → Type 0 → Below → Type 0
  FirstOf sound_f fault_f sound_g fault_g held b = fault_f ⊎ ((sound_f × fault_g) ⊎ (sound_f × sound_g × (¬ held) × (b ≡ TooLarge)))

  abbrev pub FirstFault : Formula A Car → Below → Type 0
  FirstFault (known x) b = ⊥
  FirstFault (asked (holds k)) b = ⊥
  FirstFault (asked (marked m)) b = b ≡ Marked m
  FirstFault (plus f g) b = FirstOf (Sound f) (FirstFault f b) (Sound g) (FirstFault g b) (Holds (exact f ⊕ exact g)) b
  FirstFault (minus f g) b = FirstOf (Sound f) (FirstFault f b) (Sound g) (FirstFault g b) (Holds (exact f ⊕ neg (exact g))) b
  FirstFault (times f g) b = FirstOf (Sound f) (FirstFault f b) (Sound g) (FirstFault g b) (Holds (exact f ⊗ exact g)) b
  FirstFault (over f g) b = FirstOf (Sound f) (FirstFault f b) (Sound g) (FirstFault g b) (Divides (exact f) (exact g)) b

  abbrev pub Outcome : Formula A Car → Result A Below → Type 0
  Outcome f (Ok x) = Sound f × (N.value x ≡ exact f)
  Outcome f (Err b) = FirstFault f b
