-- Where the numbers of a study lie in its sheets, and what a sheet means there. A sheet is a list of rows of parts; N is a kind of number with
-- the values A, s is the shape of the study. Assumes nothing.
--
--   blank                            what lies past the end of a sheet: a row that no number is written in
--   zero_row                         the row in which every kind writes 0
--   at N t j                         the number that the sheet t means at place j: what the kind reads in that row
--   Written N x row                  row is the one in which the value that means x is written
--   exact_line N m                   the line m in exact numbers
--   gains_place s n i c              the place of column c in the row of input i at stop n: zeros, the pivot, and then the factors
--   value_place s n a c          the place of P a c at stop n
--   x_place s n j                    the place of lateness j at stop n; u_place s n i: that of adjustment i
--   gains_at, value_at, x_at, u_at   what a sheet means there
--   state_list s x                   (x, 1) as numbers of the kind; stacked_list s u x: (u, x, 1)
--   Cleared need was now             the first `need` rows of a sheet are zero now, and the others are as they were
--   Surplus need was now             the rows from `need` on are as they were
--   Gains N m sheet                  the sheet has the zeros, pivots and factors of every stop of the line m, and P of every stop, whole
use Rattle.std.specs.Prelude.{◌≡◌, ℕ, suc, ◌+◌, ◌*◌, ◌<◌, ◌≤◌, List, length, pos, slice_index_or}
use Rattle.control.specs.Line.{Line}
use Rattle.control.specs.Matrix.{join}
use Rattle.control.specs.Recursion.{P, pivot, factor}
use Rattle.numbers.specs.declared.Number.{Ghosts}
use Rattle.numbers.specs.declared.Parts.{Parts}
use Rattle.lines.specs.Meaning.{Meaning, line_of}
use Rattle.study_terms.specs.Formulas.{field}
use Rattle.study_terms.specs.Shapes.{Shape, shape_of, width}

abbrev pub blank : Parts
blank = record { p = pos 0; q = pos 0; m = pos 0 }

abbrev pub zero_row : Parts
zero_row = record { p = pos 0; q = pos 0; m = pos 1 }

abbrev pub gains_place : Shape → ℕ → ℕ → ℕ → ℕ
gains_place s n i c = (n * s.nu + i) * width s + c

abbrev pub value_place : Shape → ℕ → ℕ → ℕ → ℕ
value_place s n a c = s.end * s.nu * width s + ((n * suc s.nx + a) * suc s.nx + c)

abbrev pub x_place : Shape → ℕ → ℕ → ℕ
x_place s n j = n * (s.nx + s.nu) + j

abbrev pub u_place : Shape → ℕ → ℕ → ℕ
u_place s n i = n * (s.nx + s.nu) + (s.nx + i)

pub record Surplus (need : ℕ) (was now : List Parts) : Type 0 where
  pub long : length now ≡ length was
  pub others : (t : ℕ) → need ≤ t → slice_index_or now t blank ≡ slice_index_or was t blank

pub record Cleared (need : ℕ) (was now : List Parts) : Type 0 where
  pub zeros : (t : ℕ) → t < need → slice_index_or now t blank ≡ zero_row
  pub surplus : Surplus need was now

module _ {A : Type 0} (N : Ghosts A) where
  open field N use {Car, 𝟙}

  abbrev pub at : List Parts → ℕ → Car
  at t j = N.reading (slice_index_or t j blank)

  abbrev pub Written : Car → Parts → Type 0
  Written x row = (k : A) × (N.value k ≡ x) × (row ≡ N.parts k)

  abbrev pub exact_line : Meaning A → Line (field N)
  exact_line m = line_of (field N) N.value m

  module _ (s : Shape) where
    abbrev pub gains_at : List Parts → ℕ → ℕ → ℕ → Car
    gains_at t n i c = at t (gains_place s n i c)

    abbrev pub value_at : List Parts → ℕ → ℕ → ℕ → Car
    value_at t n a c = at t (value_place s n a c)

    abbrev pub x_at : List Parts → ℕ → ℕ → Car
    x_at t n j = at t (x_place s n j)

    abbrev pub u_at : List Parts → ℕ → ℕ → Car
    u_at t n i = at t (u_place s n i)

    abbrev pub state_list : (ℕ → Car) → ℕ → Car
    state_list x = join s.nx x (λ _. 𝟙)

    abbrev pub stacked_list : (ℕ → Car) → (ℕ → Car) → ℕ → Car
    stacked_list u x = join s.nu u (state_list x)

  pub record Gains (m : Meaning A) (sheet : List Parts) : Type 0 where
    pub zeros : (n i c : ℕ) → n < m.end → i < m.nu → c < i → slice_index_or sheet (gains_place (shape_of m) n i c) blank ≡ zero_row
    pub pivots : (n i : ℕ) → n < m.end → i < m.nu → Written (pivot (exact_line m) n i) (slice_index_or sheet (gains_place (shape_of m) n i i) blank)
    pub factors : (n i c : ℕ) → n < m.end → i < m.nu → i < c → c < width (shape_of m)
        → Written (factor (exact_line m) n i c) (slice_index_or sheet (gains_place (shape_of m) n i c) blank)
    pub values : (n a c : ℕ) → n ≤ m.end → a < suc m.nx → c < suc m.nx → Written (P (exact_line m) n a c) (slice_index_or sheet (value_place (shape_of m) n a c) blank)
