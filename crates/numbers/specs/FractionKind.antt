-- Fractions are a kind: their rows, and the laws of a number. Assumes nothing.
use Rattle.std.specs.Prelude.{◌≡◌, ◌≤◌, T, ◌≢◌, ℤ, ◌==◌, unsigned_abs, refl}
use Rattle.std.proofs.Common.{sym, ap, subst, eqb→eq, lit≤}
use mathlib.Core.HLevel.{is_prop→PathP}
use Rattle.std.proofs.Math.Dec.{T_prop}
use Rattle.algebra.specs.Exact.{zero_e, whole_e}
use Rattle.algebra.proofs.Booleans.{and_split}
use Rattle.algebra.proofs.Integers.{abs_zero}
use Rattle.numbers.specs.Answers.{Held}
use Rattle.numbers.specs.Rows.{Row}
use Rattle.numbers.specs.Forms.{has_form, Formed, plain_row, HoldsExactly}
use Rattle.numbers.specs.Fractions.{fraction_size, fraction_row, fraction_value, fraction_reading, is_fraction_row}
use Rattle.numbers.specs.declared.Parts.{Parts}
use Rattle.numbers.specs.declared.fraction.Fraction.{Fraction}
use Rattle.numbers.specs.RowKinds as Kind

pub formed : (k : Fraction) → Formed 0 fraction_size (fraction_row k)
formed k = (k.form, λ e. refl)

plain_of : (r : Parts) → Formed 0 fraction_size r → plain_row r.p r.m ≡ r
plain_of r f = λ i. record { p = r.p; q = sym (f.1 refl) i; m = r.m }

pub of : (r : Parts) → Formed 0 fraction_size r → Fraction
of r f = record { p = r.p; m = r.m; form = subst (λ (z : Parts). T (has_form fraction_size z)) (sym (plain_of r f)) f.0 }

pub of_row : (r : Parts) (f : Formed 0 fraction_size r) → fraction_row (of r f) ≡ r
unfolding of
of_row r f = plain_of r f

pub same : (a b : Fraction) → fraction_value a ≡ fraction_value b → a ≡ b
same a b e =
    let rows = Kind.same_rows 0 fraction_size fraction_row formed a b e in
    let p : a.p ≡ b.p = ap (λ (z : Parts). z.p) rows in
    let m : a.m ≡ b.m = ap (λ (z : Parts). z.m) rows in
    λ i. record { p = p i; m = m i; form = is_prop→PathP (λ i. T (has_form fraction_size (plain_row (p i) (m i)))) (λ i. T_prop (has_form fraction_size (plain_row (p i) (m i)))) a.form b.form i }

pub written : (k : Fraction) → Row 0 (fraction_row k) (fraction_value k)
written k = Kind.written 0 fraction_size fraction_row formed k

-- ---- reading
row_formed : (row : Parts) → T (is_fraction_row row) → Formed 0 fraction_size row
row_formed row t =
    let s = and_split (unsigned_abs row.q == 0) (has_form fraction_size row) t in
    (s.1, λ e. abs_zero row.q (eqb→eq (unsigned_abs row.q) 0 s.0))

pub blank : (row : Parts) → ((k : Fraction) → fraction_row k ≢ row) → fraction_reading row ≡ zero_e 0
blank row n = Kind.read_other 0 (is_fraction_row row) row (λ t. n (of row (row_formed row t)) (of_row row (row_formed row t)))

pub back : (k : Fraction) → fraction_reading (fraction_row k) ≡ fraction_value k
back k = Kind.read_formed 0 (has_form fraction_size (fraction_row k)) (fraction_row k) k.form

pub holds_exactly : HoldsExactly 0 fraction_size fraction_value
holds_exactly = Kind.holds_exactly 0 fraction_size fraction_row formed of of_row

pub wholes : (w : ℤ) → unsigned_abs w ≤ 9999 → Held fraction_value (whole_e 0 w)
wholes = Kind.wholes_held 0 fraction_size fraction_row formed of of_row (lit≤ tt)
