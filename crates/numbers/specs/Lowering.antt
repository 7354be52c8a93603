-- Rows in lowest parts: divided by the greatest common divisor, and one for each number. Assumes nothing.
use Rattle.std.specs.Prelude.{◌≡◌, ℕ, ◌/◌, ◌<◌, ◌≤◌, ◌&&◌, T, ◌≢◌, ℤ, pos, negsuc, ◌<ℤ◌, ◌==◌, int_lt, unsigned_abs, refl}
use Rattle.std.proofs.Common.{sym, ◌∙◌, ap, ap₂, subst, arith, eqb→eq, ltb→lt, lt→ltb}
use Rattle.std.proofs.Math.Nat as NatL
use Rattle.algebra.specs.Gcd.{gcd₃}
use Rattle.algebra.specs.Rational.{part}
use Rattle.algebra.specs.Exact.{exact, zero_e}
use Rattle.algebra.specs.Laws.{Plain, LowestParts}
use Rattle.algebra.proofs.Booleans.{and_split, and_join}
use Rattle.algebra.proofs.Gcd.{gcd₃_is}
use Rattle.algebra.proofs.Triples.{exact_zero}
use Rattle.algebra.proofs.Lowest.{divisor, part_above, parts_lowest, parts_same, lowest_parts_unique}
use Rattle.numbers.specs.Rows.{row_number}
use Rattle.numbers.specs.Forms.{LowestOf, Formed, has_form, within, lowest}
use Rattle.numbers.specs.declared.Parts.{Parts}

abbrev row_divisor : Parts → ℕ
row_divisor row = gcd₃ (unsigned_abs row.p) (unsigned_abs row.q) (unsigned_abs row.m)

pub divided_lowest : (p q m : ℤ) → pos 0 <ℤ m → LowestOf (record { p = p; q = q; m = m }) (let g = gcd₃ (unsigned_abs p) (unsigned_abs q) (unsigned_abs m) in record { p = part p g; q = part q g; m = part m g })
divided_lowest p q (pos n) h =
    let n0 : 0 < n = ltb→lt 0 n h.lt in
    record {
      above = record { lt = lt→ltb 0 (n / divisor 0 p q n n0) (part_above 0 p q n n0) };
      lowest = λ D f. parts_lowest D p q n n0 f;
      same = λ D. parts_same D p q n n0;
    }
divided_lowest p q (negsuc n) h = elim h.lt [ ]

pub zero_lowest : (raw : Parts) → pos 0 <ℤ raw.m → raw.p ≡ pos 0 → raw.q ≡ pos 0 → LowestOf raw (record { p = pos 0; q = pos 0; m = pos 1 })
zero_lowest raw h ep eq = record {
  above = record { lt = tt };
  lowest = λ D f. record { above = omega arith; plain = λ e. refl; coprime = refl };
  same = λ D. exact_zero D 1 (omega arith) ∙ sym (ap₂ (λ (x y : ℤ). exact D x y (unsigned_abs raw.m)) ep eq ∙ zero_at D raw.m h);
}
  where
    zero_at : (D : ℕ) (m : ℤ) → pos 0 <ℤ m → exact D (pos 0) (pos 0) (unsigned_abs m) ≡ zero_e D
    zero_at D (pos n) h = exact_zero D n (ltb→lt 0 n h.lt)
    zero_at D (negsuc n) h = elim h.lt [ ]

pub divisor_bound : (row : Parts) → pos 0 <ℤ row.m → row_divisor row ≤ unsigned_abs row.m
divisor_bound row h = go row.p row.q row.m h
  where
    go : (p q m : ℤ) → pos 0 <ℤ m → gcd₃ (unsigned_abs p) (unsigned_abs q) (unsigned_abs m) ≤ unsigned_abs m
    go p q (pos n) h = NatL.le_of_dvd (ltb→lt 0 n h.lt) (gcd₃_is (unsigned_abs p) (unsigned_abs q) n).third
    go p q (negsuc n) h = elim h.lt [ ]

pub divisor_above : (row : Parts) → pos 0 <ℤ row.m → 0 < row_divisor row
divisor_above row h = go row.p row.q row.m h
  where
    go : (p q m : ℤ) → pos 0 <ℤ m → 0 < gcd₃ (unsigned_abs p) (unsigned_abs q) (unsigned_abs m)
    go p q (pos n) h = NatL.pos_of_dvd_of_pos (gcd₃_is (unsigned_abs p) (unsigned_abs q) n).third (ltb→lt 0 n h.lt)
    go p q (negsuc n) h = elim h.lt [ ]

-- ---- the form
pub form_lowest : (D size : ℕ) (row : Parts) → Formed D size row → LowestParts D row.p row.q (unsigned_abs row.m)
form_lowest D size row f =
    let s = and_split (int_lt (pos 0) row.m && within size row) (lowest row) f.0 in
    let r = and_split (int_lt (pos 0) row.m) (within size row) s.0 in
    record { above = above row.m r.0; plain = f.1; coprime = eqb→eq (row_divisor row) 1 s.1 }
  where
    above : (m : ℤ) → T (int_lt (pos 0) m) → 0 < unsigned_abs m
    above (pos n) t = ltb→lt 0 n t
    above (negsuc n) t = elim t [ ]

pub form_within : (size : ℕ) (row : Parts) → T (has_form size row) → T (within size row)
form_within size row f =
    (and_split (int_lt (pos 0) row.m) (within size row) (and_split (int_lt (pos 0) row.m && within size row) (lowest row) f).0).1

pub form_above : (size : ℕ) (row : Parts) → T (has_form size row) → pos 0 <ℤ row.m
form_above size row f =
    record { lt = (and_split (int_lt (pos 0) row.m) (within size row) (and_split (int_lt (pos 0) row.m && within size row) (lowest row) f).0).0 }

pub form_made : (D size : ℕ) (raw r : Parts) → LowestOf raw r → Plain D raw.q → T (within size r) → Formed D size r
form_made D size raw r l f w =
    let low = l.lowest D f in
    (and_join (int_lt (pos 0) r.m && within size r) (lowest r) (and_join (int_lt (pos 0) r.m) (within size r) l.above.lt w) (subst (λ (n : ℕ). T (n == 1)) (sym low.coprime) tt), low.plain)

abs_pos : (a b : ℤ) → pos 0 <ℤ a → pos 0 <ℤ b → unsigned_abs a ≡ unsigned_abs b → a ≡ b
abs_pos (pos a) (pos b) h k e = ap pos e
abs_pos (pos a) (negsuc b) h k e = elim k.lt [ ]
abs_pos (negsuc a) b h k e = elim h.lt [ ]

-- two rows in lowest parts that stand for one number are one row
pub row_unique : (D : ℕ) (a b : Parts) → pos 0 <ℤ a.m → pos 0 <ℤ b.m → LowestParts D a.p a.q (unsigned_abs a.m) → LowestParts D b.p b.q (unsigned_abs b.m) → row_number D a ≡ row_number D b → a ≡ b
row_unique D a b ha hb la lb e =
    let u = lowest_parts_unique D a.p a.q (unsigned_abs a.m) b.p b.q (unsigned_abs b.m) la lb e in
    let m = abs_pos a.m b.m ha hb u.2 in
    λ i. record { p = u.0 i; q = u.1 i; m = m i }

-- a number whose lowest parts are too large has no formed row
pub none_formed : (D size : ℕ) (raw r : Parts) → LowestOf raw r → Plain D raw.q → ¬ T (within size r) → (row : Parts) → Formed D size row → row_number D row ≢ row_number D raw
none_formed D size raw r l f n row g e =
    let same : row ≡ r = row_unique D row r (form_above size row g.0) l.above (form_lowest D size row g) (l.lowest D f) (e ∙ sym (l.same D)) in
    n (subst (λ (z : Parts). T (within size z)) same (form_within size row g.0))
