-- A table is a lawful line, and has no mark where its numbers are small. Assumes nothing.
use Rattle.std.specs.Prelude.{ℕ, List, ℤ}
use Rattle.std.proofs.Common.{arith}
use Rattle.std.proofs.lemmas.Bool.Decides.{nat_tests}
use Rattle.numbers.specs.Fractions.{fraction_value}
use Rattle.numbers.specs.FractionKind.{wholes}
use Rattle.lines.specs.Fractions.{find_fraction}
use Rattle.lines.specs.Laws.{Lawful, Levelled, Unmarked}
use Rattle.lines.specs.Tables.{table_F, table_G, table_line, F_index, G_index, last_index}
use Rattle.lines.specs.Whole.{SmallFrom}
use Rattle.lines.specs.FractionsLemmas.{fraction_finds}
use Rattle.lines.specs.WholeLines.{whole_lawful, whole_levelled, whole_unmarked}

module _ (end nx nu : ℕ) (zs : List ℤ) where
  pub table_lawful : Lawful fraction_value (table_line end nx nu zs)
  table_lawful = whole_lawful fraction_value find_fraction fraction_finds wholes end nx nu (table_F nx nu zs) (table_G end nx nu zs)

  pub table_levelled : Levelled (table_line end nx nu zs)
  table_levelled = whole_levelled fraction_value find_fraction fraction_finds wholes end nx nu (table_F nx nu zs) (table_G end nx nu zs)

  pub table_unmarked : SmallFrom 3 zs → Unmarked (table_line end nx nu zs)
  table_unmarked s =
      whole_unmarked fraction_value find_fraction fraction_finds wholes end nx nu (table_F nx nu zs) (table_G end nx nu zs)
      (λ n k c. s (F_index nx nu n k c) (omega arith))
      (λ n a c. let p = s (G_index nx nu n a c) (omega arith) in let q = s (last_index nx nu end a c) (omega arith) in grind (arith, nat_tests))
