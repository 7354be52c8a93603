-- Worked examples of what fractions hold. Assumes nothing.
--
--   ProductsAtTheLimit   65,535 × 32,768 is a fraction, and 65,536 × 32,768 = 2,147,483,648 is none
use Rattle.std.specs.Prelude.{pos}
use Rattle.algebra.specs.Exact.{whole_e, mul_e}
use Rattle.numbers.specs.Answers.{Held}
use Rattle.numbers.specs.Fractions.{fraction_value}

abbrev pub ProductsAtTheLimit : Type 0
ProductsAtTheLimit =
    Held fraction_value (mul_e (whole_e 0 (pos 65535)) (whole_e 0 (pos 32768)))
    × (¬ Held fraction_value (mul_e (whole_e 0 (pos 65536)) (whole_e 0 (pos 32768))))
