-- Rows: three whole numbers p, q, m that stand for (p + q√D)/m. Assumes nothing.
--
--   row_number D row   the number that the parts of a row stand for, where m is above 0
--   Row D row x        the row is that of x: in lowest parts, with m above 0, and it stands for x
use Rattle.std.specs.Prelude.{◌≡◌, ℕ, pos, ◌<ℤ◌, unsigned_abs}
use Rattle.algebra.specs.Exact.{Exact, exact}
use Rattle.algebra.specs.Laws.{LowestParts}
use Rattle.numbers.specs.declared.Parts.{Parts}

abbrev pub row_number : (D : ℕ) → Parts → Exact D
row_number D row = exact D row.p row.q (unsigned_abs row.m)

pub record Row (D : ℕ) (row : Parts) (x : Exact D) : Type 0 where
  pub above : pos 0 <ℤ row.m
  pub lowest : LowestParts D row.p row.q (unsigned_abs row.m)
  pub means : row_number D row ≡ x
