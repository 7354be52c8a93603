-- The parts of both kinds have at most 18 digits. Assumes nothing.
use Rattle.std.proofs.Common.{ℕ, ◌^◌, ◌<◌, T, arith}
use Rattle.numbers.specs.Forms.{has_form}
use Rattle.numbers.specs.Fractions.{fraction_size, fraction_row}
use Rattle.numbers.specs.Roots.{root_size}
use Rattle.numbers.specs.RootValues.{root_row}
use Rattle.numbers.specs.declared.Parts.{Parts}
use Rattle.numbers.specs.declared.fraction.Fraction.{Fraction}
use Rattle.numbers.specs.declared.root.Root.{Root}
use Rattle.numbers.specs.RowSums.{form_sizes}
use Rattle.number_text.specs.Readings.{Short}

formed_short : (size : ℕ) (row : Parts) → size < 10 ^ 18 → T (has_form size row) → Short row
formed_short size row h f = let s = form_sizes size row f in let p = s.p_size in let q = s.q_size in let m = s.m_size in (omega arith, omega arith, omega arith)

pub fraction_short : (k : Fraction) → Short (fraction_row k)
fraction_short k = formed_short fraction_size (fraction_row k) (omega arith) k.form

pub root_short : {X : Type 0} (k : Root X) → Short (root_row k)
root_short k = formed_short root_size (root_row k) (omega arith) k.form
