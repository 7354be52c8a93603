-- The form in which a kind of numbers holds them, in rows. Assumes nothing.
--
--   has_form size row           m is above 0, p, q and m have no common divisor but 1, and each is at most `size` in size
--   Formed D size row           the row has that form, and no root part where D is 0
--   Within size row             each part is at most `size` in size
--   LowestOf raw r              r is `raw` in lowest parts: it stands for the same number under every root
--   plain_row p m               the row of p/m
--   read_as D b row             the number of the row where b is true, else 0
--   HoldsExactly D size value   the values mean exactly the numbers whose lowest parts are at most `size` in size
use Rattle.std.specs.Prelude.{◌≡◌, ℕ, ◌≤◌, Bool, true, false, ◌&&◌, T, ◌↔◌, ℤ, pos, ◌<ℤ◌, ◌==◌, int_lt, nat_le, unsigned_abs}
use Rattle.algebra.specs.Gcd.{gcd₃}
use Rattle.algebra.specs.Exact.{Exact, exact, zero_e}
use Rattle.algebra.specs.Laws.{Plain, LowestParts}
use Rattle.numbers.specs.Answers.{Held}
use Rattle.numbers.specs.Rows.{row_number}
use Rattle.numbers.specs.declared.Parts.{Parts}

abbrev pub within : ℕ → Parts → Bool
within size row = nat_le (unsigned_abs row.p) size && nat_le (unsigned_abs row.q) size && nat_le (unsigned_abs row.m) size

abbrev pub lowest : Parts → Bool
lowest row = gcd₃ (unsigned_abs row.p) (unsigned_abs row.q) (unsigned_abs row.m) == 1

abbrev pub has_form : ℕ → Parts → Bool
has_form size row = int_lt (pos 0) row.m && within size row && lowest row

abbrev pub Formed : ℕ → ℕ → Parts → Type 0
Formed D size row = T (has_form size row) × Plain D row.q

pub record Within (size : ℕ) (row : Parts) : Type 0 where
  pub p_size : unsigned_abs row.p ≤ size
  pub q_size : unsigned_abs row.q ≤ size
  pub m_size : unsigned_abs row.m ≤ size

pub record LowestOf (raw r : Parts) : Type 0 where
  pub above : pos 0 <ℤ r.m
  pub lowest : (D : ℕ) → Plain D raw.q → LowestParts D r.p r.q (unsigned_abs r.m)
  pub same : (D : ℕ) → row_number D r ≡ row_number D raw

abbrev pub plain_row : ℤ → ℤ → Parts
plain_row p m = record { p = p; q = pos 0; m = m }

abbrev pub read_as : (D : ℕ) → Bool → Parts → Exact D
read_as D true row = row_number D row
read_as D false row = zero_e D

abbrev pub HoldsExactly : {A : Type 0} (D : ℕ) → ℕ → (A → Exact D) → Type 0
HoldsExactly D size value =
    (p q : ℤ) (m : ℕ) → LowestParts D p q m
    → Held value (exact D p q m) ↔ ((unsigned_abs p ≤ size) × (unsigned_abs q ≤ size) × (m ≤ size))
