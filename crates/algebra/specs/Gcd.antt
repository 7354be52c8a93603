-- The greatest common divisor of two and of three numbers, by Euclid. Assumes nothing.
--
--   gcd a b, gcd₃ a b c   the greatest common divisor; 0 where all are 0
--   IsGcd a b g           g divides a and b, and whatever divides both divides g
--   IsGcd₃ a b c g        the same of three numbers
use Rattle.std.specs.Prelude.{ℕ, zero, suc, ◌%◌}
use Rattle.std.specs.Int.{◌∣◌}

-- the first number bounds how many divisions are made
abbrev pub euclid : ℕ → ℕ → ℕ → ℕ
euclid zero a b = a
euclid (suc f) a zero = a
euclid (suc f) a (suc b) = euclid f (suc b) (a % suc b)

abbrev pub gcd : ℕ → ℕ → ℕ
gcd a b = euclid (suc b) a b

abbrev pub gcd₃ : ℕ → ℕ → ℕ → ℕ
gcd₃ a b c = gcd (gcd a b) c

pub record IsGcd (a b g : ℕ) : Type 0 where
  pub left : g ∣ a
  pub right : g ∣ b
  pub greatest : (c : ℕ) → c ∣ a → c ∣ b → c ∣ g

pub record IsGcd₃ (a b c g : ℕ) : Type 0 where
  pub first : g ∣ a
  pub second : g ∣ b
  pub third : g ∣ c
  pub greatest : (d : ℕ) → d ∣ a → d ∣ b → d ∣ c → d ∣ g
