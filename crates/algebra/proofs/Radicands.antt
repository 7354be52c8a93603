-- Numbers that are no squares. Assumes nothing.
use Rattle.std.proofs.Common.{ℕ, suc, ◌*◌, ◌<◌, ◌≤◌, arith, lit<}
use native.Mathlib.Nat as NatL
use native.Mathlib.Decide.{dec_lt}
use Rattle.algebra.specs.Exact.{NoSquare}

-- between two squares that follow one another there is none
pub between : (D k : ℕ) → k * k < D → D < suc k * suc k → NoSquare D
between D k low high r e = elim (dec_lt k r) [
  | yes h ↦ let s : suc k * suc k ≤ r * r = NatL.mul-le-mul h h in omega arith
  | no n ↦ let l : r ≤ k = omega arith in let s : r * r ≤ k * k = NatL.mul-le-mul l l in omega arith
]

pub three : NoSquare 3
three = between 3 1 (lit< tt) (lit< tt)

pub five : NoSquare 5
five = between 5 2 (lit< tt) (lit< tt)
