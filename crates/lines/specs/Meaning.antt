-- What a line means. Assumes nothing.
--
--   Entry A                what stands at a place: `holds k`, a number k of the kind A, or `marked m`, the mark that the number is too large
--   Meaning A              the last stop (end), the numbers of states and inputs (nx, nu), the level, and what stands at F n k c and G n a c:
--                          at stop n, the row and the column
--   order_of end nx nu n   the order of G at stop n, for these sizes: nu + nx + 1, and nx + 1 at the last stop; 0 past it
--   order m n              the order of G at stop n, for the sizes of the line m
--   InF m n k c            the place k, c of F at stop n is one of the line's
--   InG m n a c            the place a, c of G at stop n is one of the line's
--   Answer e r             r is the answer at a place where e stands: its number, or the refusal 1 with its mark
--   line_fault f           the number of the refusal f: 1, too large
--   told K value e         the exact number at a place where e stands; a marked place counts 0
--   line_of K value m      the line in exact numbers, for the theory of plans
use Rattle.std.specs.Prelude.{◌≡◌, ℕ, suc, ◌+◌, ◌<◌, cond, Ok, Err, Result, ◌==◌, nat_lt}
use Rattle.algebra.specs.Field.{OrderedField}
use Rattle.control.specs.Line.{Line as ExactLine}
use Rattle.lines.specs.declared.faults.Mark.{Mark}
use Rattle.lines.specs.declared.faults.LineFault.{LineFault}

pub data Entry (A : Type 0) : Type 0 where
  holds : A → Entry A
  marked : Mark → Entry A

pub record Meaning (A : Type 0) : Type 0 where
  pub end : ℕ
  pub nx : ℕ
  pub nu : ℕ
  pub level : ℕ
  pub F : ℕ → ℕ → ℕ → Entry A
  pub G : ℕ → ℕ → ℕ → Entry A

abbrev pub order_of : ℕ → ℕ → ℕ → ℕ → ℕ
order_of end nx nu n = cond (nat_lt n end) (nu + suc nx) (cond (n == end) (suc nx) 0)

abbrev pub order : {A : Type 0} → Meaning A → ℕ → ℕ
order m n = order_of m.end m.nx m.nu n

abbrev pub InF : {A : Type 0} → Meaning A → ℕ → ℕ → ℕ → Type 0
InF m n k c = (n < m.end) × (k < suc m.nx) × (c < m.nu + suc m.nx)

abbrev pub InG : {A : Type 0} → Meaning A → ℕ → ℕ → ℕ → Type 0
InG m n a c = (a < order m n) × (c < order m n)

abbrev pub Answer : {A : Type 0} → Entry A → Result A LineFault → Type 0
Answer e (Ok k) = e ≡ holds k
Answer e (Err f) = e ≡ marked f.mark

abbrev pub line_fault : LineFault → ℕ
line_fault f = 1

module _ (K : OrderedField) {A : Type 0} (value : A → K.Car) where
  abbrev pub told : Entry A → K.Car
  told (holds k) = value k
  told (marked m) = K.𝟘

  abbrev pub line_of : Meaning A → ExactLine K
  line_of m = record {
    nu = m.nu;
    nx = m.nx;
    end = m.end;
    F = λ n k c. told (m.F n k c);
    G = λ n a c. told (m.G n a c);
  }
