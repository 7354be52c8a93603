-- What a kind of number answers. `value` says what exact number a value of the kind means. Assumes nothing.
--
--   fault_number e         the number of a refusal: 1 too large, 2 zero divisor
--   Held value x           some value of the kind means x
--   Answers value x r      r is the value that means x, or the refusal 1 and no value means x
--   Quotient value x y r   the same of x over y, but for y = 0 the refusal 2
--   Decides b P            b is true exactly where P holds
use Rattle.std.specs.Prelude.{◌≡◌, ℕ, Bool, true, false, ◌≢◌, Ok, Err, Result}
use Rattle.algebra.specs.Exact.{Exact, zero_e, mul_e, inv_e}
use Rattle.numbers.specs.declared.NumberFault.{NumberFault}
use Rattle.numbers.specs.declared.NumberFault.TheVariants.{TooLarge, ZeroDivisor}

abbrev pub fault_number : NumberFault → ℕ
fault_number TooLarge = 1
fault_number ZeroDivisor = 2

abbrev pub Held : {A : Type 0} {D : ℕ} → (A → Exact D) → Exact D → Type 0
Held {A} value x = (k : A) × (value k ≡ x)

abbrev pub Answers : {A : Type 0} {D : ℕ} → (A → Exact D) → Exact D → Result A NumberFault → Type 0
Answers value x (Ok k) = value k ≡ x
Answers value x (Err TooLarge) = ¬ Held value x
Answers value x (Err ZeroDivisor) = ⊥

abbrev pub Quotient : {A : Type 0} {D : ℕ} → (A → Exact D) → Exact D → Exact D → Result A NumberFault → Type 0
Quotient {A} {D} value x y (Ok k) = (y ≢ zero_e D) × (value k ≡ mul_e x (inv_e y))
Quotient {A} {D} value x y (Err TooLarge) = (y ≢ zero_e D) × (¬ Held value (mul_e x (inv_e y)))
Quotient {A} {D} value x y (Err ZeroDivisor) = y ≡ zero_e D

abbrev pub Decides : Bool → Type 0 → Type 0
Decides true P = P
Decides false P = ¬ P
