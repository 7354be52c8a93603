-- Fractions in lowest terms, with |p| and m up to 2,147,483,647. Assumes nothing.
--
--   fraction_size          2,147,483,647
--   fraction_row k         the row in which a fraction is written
--   fraction_value k       the exact number that it means
--   is_fraction_row row    the row is one that a fraction is written in: q is 0, and it has the form
--   fraction_reading row   the number as which a row is read: 0 unless the row is that of a fraction
--   no_root                0 is a radicand: there is no root
use Rattle.std.specs.Prelude.{ℕ, Bool, ◌&&◌, ◌==◌, unsigned_abs, refl}
use Rattle.std.proofs.Common.{inl}
use Rattle.algebra.specs.Exact.{Exact, Radicand}
use Rattle.numbers.specs.Rows.{row_number}
use Rattle.numbers.specs.Forms.{has_form, plain_row, read_as}
use Rattle.numbers.specs.declared.Parts.{Parts}
use Rattle.numbers.specs.declared.fraction.Fraction.{Fraction}

abbrev pub fraction_size : ℕ
fraction_size = 2147483647

abbrev pub fraction_row : Fraction → Parts
fraction_row k = plain_row k.p k.m

abbrev pub fraction_value : Fraction → Exact 0
fraction_value k = row_number 0 (fraction_row k)

abbrev pub is_fraction_row : Parts → Bool
is_fraction_row row = unsigned_abs row.q == 0 && has_form fraction_size row

abbrev pub fraction_reading : Parts → Exact 0
fraction_reading row = read_as 0 (is_fraction_row row) row

abbrev pub no_root : Radicand 0
no_root = inl refl
