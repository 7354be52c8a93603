-- Room for the steps of the machine's arithmetic. Assumes nothing.
--
--   Room k      a product of size k, and the sum of two, fit a signed word of 64 bits
--   Small x y   the product of x and y has room
--   sign x      −1 where x is negative, else 1
use Rattle.std.specs.Prelude.{ℕ, ◌*◌, ◌^◌, ◌<◌, ℤ, pos, negsuc, unsigned_abs}

abbrev pub Room : ℕ → Type 0
Room k = k < 2 ^ 62

abbrev pub Small : ℤ → ℤ → Type 0
Small x y = Room (unsigned_abs x * unsigned_abs y)

abbrev pub sign : ℤ → ℤ
sign (pos n) = pos 1
sign (negsuc n) = negsuc 0
