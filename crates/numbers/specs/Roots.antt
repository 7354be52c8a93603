-- Numbers with a root, (p + q√D)/m, with p, q and m up to 262,143 in size and no common divisor but 1. Assumes nothing.
--
--   root_size            262,143
--   Under D              D is from 2 to 99
--   root_good n          a number that is no square may stand under the root
--   root_reading D row   the number as which a row is read: 0 unless the row has the form
--   Bounded size x       x is at most `size` in size
use Rattle.std.proofs.Common.{inr}
use Rattle.std.specs.Prelude.{ℕ, ◌≤◌, ℤ, unsigned_abs}
use Rattle.algebra.specs.Exact.{Exact, Radicand, NoSquare}
use Rattle.numbers.specs.Forms.{has_form, read_as}
use Rattle.numbers.specs.declared.Parts.{Parts}

abbrev pub root_size : ℕ
root_size = 262143

abbrev pub Under : ℕ → Type 0
Under D = (2 ≤ D) × (D ≤ 99)

abbrev pub root_good : {D : ℕ} → NoSquare D → Radicand D
root_good n = inr n

abbrev pub root_reading : (D : ℕ) → Parts → Exact D
root_reading D row = read_as D (has_form root_size row) row

abbrev pub Bounded : ℕ → ℤ → Type 0
Bounded size x = unsigned_abs x ≤ size
