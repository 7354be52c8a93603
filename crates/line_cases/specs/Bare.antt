-- A line of any sizes, 0 and far beyond the limits included. Assumes nothing.
--
--   zeros n r c           the whole number 0, at every place
--   bare_line end nx nu   the line of these sizes whose entries are 0 but for the 1 of F's last row
use Rattle.std.specs.Prelude.{ℕ, ℤ, pos}
use Rattle.numbers.specs.declared.fraction.Fraction.{Fraction}
use Rattle.lines.specs.Fractions.{find_fraction}
use Rattle.lines.specs.Meaning.{Meaning}
use Rattle.lines.specs.Whole.{whole_line}

abbrev pub zeros : ℕ → ℕ → ℕ → ℤ
zeros n r c = pos 0

abbrev pub bare_line : ℕ → ℕ → ℕ → Meaning Fraction
bare_line end nx nu = whole_line 0 find_fraction end nx nu zeros zeros
