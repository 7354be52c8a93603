-- What a number with a root means, and its row. Assumes nothing.
--
--   root_row k       the row in which it is written
--   root_value D k   the exact number that it means under the root of D
use Rattle.std.specs.Prelude.{ℕ}
use Rattle.algebra.specs.Exact.{Exact}
use Rattle.numbers.specs.Rows.{row_number}
use Rattle.numbers.specs.declared.Parts.{Parts}
use Rattle.numbers.specs.declared.root.Root.{Root}

abbrev pub root_row : {X : Type 0} → Root X → Parts
root_row k = k.row

abbrev pub root_value : {X : Type 0} (D : ℕ) → Root X → Exact D
root_value D k = row_number D (root_row k)
