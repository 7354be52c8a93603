-- A line of whole numbers at the bottom: f and g give the numbers that are not fixed by the laws of a line. Assumes nothing.
--
--   whole_F end nx nu f n k c   F at a place: f within the states' rows, 0 and 1 in the last row, 0 outside
--   whole_G end nx nu g n a c   G at a place: g on and above the diagonal, its mirror below it, 0 outside
--   Small z                     z is at most 9,999 in size
--   SmallFrom i zs              so are the numbers of the list zs from index i on
--   cell zs i                   the number at index i, 0 past the end
--   whole_line D find ..        the line of level 0 in numbers of a kind
use Rattle.std.specs.Prelude.{ℕ, suc, ◌+◌, ◌≤◌, min, max, cond, ◌&&◌, List, ℤ, pos, Option, nat_lt, slice_index_or, unsigned_abs}
use Rattle.algebra.specs.Exact.{whole_e}
use Rattle.lines.specs.Kinds.{entry_of}
use Rattle.lines.specs.Laws.{place_mark}
use Rattle.lines.specs.Meaning.{Meaning, order_of}

abbrev pub whole_F : ℕ → ℕ → ℕ → (ℕ → ℕ → ℕ → ℤ) → ℕ → ℕ → ℕ → ℤ
whole_F end nx nu f n k c =
    cond (nat_lt n end && nat_lt k (suc nx) && nat_lt c (nu + suc nx)) (cond (nat_lt k nx) (f n k c) (cond (nat_lt c (nu + nx)) (pos 0) (pos 1))) (pos 0)

abbrev pub whole_G : ℕ → ℕ → ℕ → (ℕ → ℕ → ℕ → ℤ) → ℕ → ℕ → ℕ → ℤ
whole_G end nx nu g n a c = cond (nat_lt (max a c) (order_of end nx nu n)) (g n (min a c) (max a c)) (pos 0)

abbrev pub Small : ℤ → Type 0
Small z = unsigned_abs z ≤ 9999

abbrev pub cell : List ℤ → ℕ → ℤ
cell zs i = slice_index_or zs i (pos 0)

abbrev pub SmallFrom : ℕ → List ℤ → Type 0
SmallFrom j zs = (i : ℕ) → j ≤ i → Small (cell zs i)

abbrev pub whole_line : {A : Type 0} → ℕ → (ℤ → ℤ → ℕ → Option A) → ℕ → ℕ → ℕ → (ℕ → ℕ → ℕ → ℤ) → (ℕ → ℕ → ℕ → ℤ) → Meaning A
whole_line D find end nx nu f g = record {
  end = end;
  nx = nx;
  nu = nu;
  level = 0;
  F = λ n k c. entry_of find (place_mark 0 n k c) (whole_e D (whole_F end nx nu f n k c));
  G = λ n a c. entry_of find (place_mark 0 n (min a c) (max a c)) (whole_e D (whole_G end nx nu g n a c));
}
