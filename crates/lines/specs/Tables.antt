-- The order of a table's numbers, and the line that they give. Assumes nothing.
--
-- First N, nx and nu. Then for each stop before N the rows of F but the last, and the upper half of G; then the upper half of G at N.
-- All of it row by row; the upper half is what stands on and above the diagonal.
--
--   width nx nu                   nu + nx + 1, the number of columns before the last stop
--   rows w a                      how many places the first a rows of the upper half of a matrix of order w have: w + (w − 1) + ..
--   upper w a c                   the index of place a, c in the upper half, a ≤ c
--   block nx nu                   how many numbers a stop before the last has
--   F_index, G_index nx nu n ..   the index of a number of F and of G's upper half, at stop n before the last
--   last_index nx nu end a c      the index of a number of G's upper half at the last stop
--   table_length end nx nu        how many numbers there are in all
--   table_line end nx nu zs       the line that the numbers zs give
use Rattle.std.specs.Prelude.{ℕ, zero, suc, ◌+◌, ◌-◌, ◌*◌, cond, List, ℤ, nat_lt}
use Rattle.numbers.specs.declared.fraction.Fraction.{Fraction}
use Rattle.lines.specs.Fractions.{find_fraction}
use Rattle.lines.specs.Meaning.{Meaning}
use Rattle.lines.specs.Whole.{cell, whole_line}

abbrev pub width : ℕ → ℕ → ℕ
width nx nu = nu + nx + 1

abbrev pub rows : ℕ → ℕ → ℕ
rows w zero = 0
rows w (suc a) = rows w a + (w - a)

abbrev pub upper : ℕ → ℕ → ℕ → ℕ
upper w a c = rows w a + (c - a)

abbrev pub block : ℕ → ℕ → ℕ
block nx nu = nx * width nx nu + rows (width nx nu) (width nx nu)

abbrev pub F_index : ℕ → ℕ → ℕ → ℕ → ℕ → ℕ
F_index nx nu n k c = 3 + n * block nx nu + (k * width nx nu + c)

abbrev pub G_index : ℕ → ℕ → ℕ → ℕ → ℕ → ℕ
G_index nx nu n a c = 3 + n * block nx nu + (nx * width nx nu + upper (width nx nu) a c)

abbrev pub last_index : ℕ → ℕ → ℕ → ℕ → ℕ → ℕ
last_index nx nu end a c = 3 + end * block nx nu + upper (nx + 1) a c

abbrev pub table_length : ℕ → ℕ → ℕ → ℕ
table_length end nx nu = 3 + end * block nx nu + rows (nx + 1) (nx + 1)

abbrev pub table_F : ℕ → ℕ → List ℤ → ℕ → ℕ → ℕ → ℤ
table_F nx nu zs n k c = cell zs (F_index nx nu n k c)

abbrev pub table_G : ℕ → ℕ → ℕ → List ℤ → ℕ → ℕ → ℕ → ℤ
table_G end nx nu zs n a c = cond (nat_lt n end) (cell zs (G_index nx nu n a c)) (cell zs (last_index nx nu end a c))

abbrev pub table_line : ℕ → ℕ → ℕ → List ℤ → Meaning Fraction
table_line end nx nu zs = whole_line 0 find_fraction end nx nu (table_F nx nu zs) (table_G end nx nu zs)
