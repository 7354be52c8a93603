-- A steady line: one state, one input, the same F and G at each stop before the last. Assumes nothing.
--
-- Its numbers are N, then F's row (adjustment, lateness, constant), then the upper half of G, row by row.
--
--   steady_F fs, steady_G end gs     F's row and G's upper half before the last stop, from the lists fs and gs; 0 at the last stop
--   weighted end w m                 the line m with the number w at the place of the lateness in G at the last stop
--   steady_line D find end fs gs w   the line that these numbers and the final weight w give
use Rattle.std.specs.Prelude.{ℕ, cond, ◌&&◌, List, ℤ, pos, Option, ◌==◌, nat_lt}
use Rattle.lines.specs.Meaning.{Meaning, holds}
use Rattle.lines.specs.Tables.{upper}
use Rattle.lines.specs.Whole.{cell, whole_line}

abbrev pub steady_F : List ℤ → ℕ → ℕ → ℕ → ℤ
steady_F fs n k c = cell fs c

abbrev pub steady_G : ℕ → List ℤ → ℕ → ℕ → ℕ → ℤ
steady_G end gs n a c = cond (nat_lt n end) (cell gs (upper 3 a c)) (pos 0)

abbrev pub weighted : {A : Type 0} → A → Meaning A → Meaning A
weighted w m = record {
  end = m.end;
  nx = m.nx;
  nu = m.nu;
  level = m.level;
  F = m.F;
  G = λ n a c. cond (n == m.end && a == 0 && c == 0) (holds w) (m.G n a c);
}

abbrev pub steady_line : {A : Type 0} → ℕ → (ℤ → ℤ → ℕ → Option A) → ℕ → List ℤ → List ℤ → A → Meaning A
steady_line D find end fs gs w = weighted w (whole_line D find end 1 1 (steady_F fs) (steady_G end gs))
