-- The fraction with given lowest parts. Assumes nothing.
--
--   find_fraction p q m   the fraction p/m where it has the form, else none; q is 0 in the lowest parts of a fraction
use Rattle.std.specs.Prelude.{ℕ, ℤ, pos, Option}
use Rattle.numbers.specs.Forms.{has_form, plain_row}
use Rattle.numbers.specs.Fractions.{fraction_size}
use Rattle.numbers.specs.declared.fraction.Fraction.{Fraction}
use Rattle.lines.specs.Kinds.{pick}

abbrev pub find_fraction : ℤ → ℤ → ℕ → Option Fraction
find_fraction p q m = pick (has_form fraction_size (plain_row p (pos m))) (λ t. record { p = p; m = pos m; form = t })
