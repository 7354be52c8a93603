-- What holds of every kind whose values are rows of one form. Assumes nothing.
use Rattle.std.specs.Prelude.{◌≡◌, ℕ, ◌≤◌, Bool, true, false, ◌&&◌, T, ◌≢◌, ℤ, pos, Ok, Err, Result, ◌==◌, int_lt, nat_le, unsigned_abs, refl}
use Rattle.std.proofs.Common.{sym, ◌∙◌, ap, subst, le→leb, lt→ltb}
use Rattle.std.proofs.Math.Nat as NatL
use native.Mathlib.Omega.{arith}
use Rattle.algebra.specs.Gcd.{gcd}
use Rattle.algebra.specs.Exact.{Exact, exact, zero_e, whole_e, mul_e, inv_e}
use Rattle.algebra.specs.Laws.{LowestParts}
use Rattle.algebra.proofs.Booleans.{and_join}
use Rattle.algebra.proofs.Gcd.{gcd_right}
use Rattle.numbers.specs.Answers.{Held, Answers, Quotient}
use Rattle.numbers.specs.Rows.{row_number, Row}
use Rattle.numbers.specs.Forms.{has_form, within, lowest, Formed, read_as, HoldsExactly}
use Rattle.numbers.specs.declared.Parts.{Parts}
use Rattle.numbers.specs.declared.NumberFault.{NumberFault}
use Rattle.numbers.specs.declared.NumberFault.TheVariants.{TooLarge, ZeroDivisor}
use Rattle.numbers.specs.Lowering.{form_lowest, form_above, row_unique}
use Rattle.numbers.specs.RowSums.{form_sizes}

-- ---- answers
-- a quotient with a divisor other than 0
pub quotient_answer : {A : Type 0} {D : ℕ} (value : A → Exact D) (x y z : Exact D) (r : Result A NumberFault) → y ≢ zero_e D → mul_e x (inv_e y) ≡ z → Answers value z r → Quotient value x y r
quotient_answer value x y z (Ok k) n e h = (n, h ∙ sym e)
quotient_answer value x y z (Err TooLarge) n e h = (n, subst (λ w. ¬ Held value w) (sym e) h)
quotient_answer value x y z (Err ZeroDivisor) n e h = absurd h

-- ---- reading
pub read_formed : (D : ℕ) (b : Bool) (row : Parts) → T b → read_as D b row ≡ row_number D row
read_formed D true row t = refl
read_formed D false row t = elim t [ ]

pub read_other : (D : ℕ) (b : Bool) (row : Parts) → ¬ T b → read_as D b row ≡ zero_e D
read_other D true row n = absurd (n tt)
read_other D false row n = refl

module _ {A : Type 0} (D size : ℕ) (row : A → Parts) (formed : (k : A) → Formed D size (row k)) where
  pub same_rows : (a b : A) → row_number D (row a) ≡ row_number D (row b) → row a ≡ row b
  same_rows a b e =
      row_unique D (row a) (row b) (form_above size (row a) (formed a).0) (form_above size (row b) (formed b).0)
      (form_lowest D size (row a) (formed a)) (form_lowest D size (row b) (formed b)) e

  pub written : (k : A) → Row D (row k) (row_number D (row k))
  written k = record { above = form_above size (row k) (formed k).0; lowest = form_lowest D size (row k) (formed k); means = refl }

  module _ (of : (r : Parts) → Formed D size r → A) (of_row : (r : Parts) (f : Formed D size r) → row (of r f) ≡ r) where
    -- lowest parts of limited size are a row of the form
    within_formed : (p q : ℤ) (m : ℕ) → LowestParts D p q m → unsigned_abs p ≤ size → unsigned_abs q ≤ size → m ≤ size → Formed D size (record { p = p; q = q; m = pos m })
    within_formed p q m l hp hq hm =
        let r : Parts = record { p = p; q = q; m = pos m } in
        let w : T (within size r) = and_join (nat_le (unsigned_abs p) size && nat_le (unsigned_abs q) size) (nat_le m size) (and_join (nat_le (unsigned_abs p) size) (nat_le (unsigned_abs q) size) (le→leb (unsigned_abs p) size hp) (le→leb (unsigned_abs q) size hq)) (le→leb m size hm) in
        (and_join (int_lt (pos 0) (pos m) && within size r) (lowest r) (and_join (int_lt (pos 0) (pos m)) (within size r) (lt→ltb 0 m l.above) w) (subst (λ (n : ℕ). T (n == 1)) (sym l.coprime) tt), l.plain)

    pub holds_exactly : HoldsExactly D size (λ k. row_number D (row k))
    holds_exactly p q m l = (sizes, held)
      where
        here : Parts
        here = record { p = p; q = q; m = pos m }

        sizes : Held (λ k. row_number D (row k)) (exact D p q m) → (unsigned_abs p ≤ size) × (unsigned_abs q ≤ size) × (m ≤ size)
        sizes h =
            let k = h.0 in
            let e : row k ≡ record { p = p; q = q; m = pos m } = row_unique D (row k) (record { p = p; q = q; m = pos m }) (form_above size (row k) (formed k).0) (record { lt = lt→ltb 0 m l.above }) (form_lowest D size (row k) (formed k)) l h.1 in
            let s = form_sizes size (record { p = p; q = q; m = pos m }) (subst (λ (z : Parts). T (has_form size z)) e (formed k).0) in
            (s.p_size, s.q_size, s.m_size)

        held : (unsigned_abs p ≤ size) × (unsigned_abs q ≤ size) × (m ≤ size) → Held (λ k. row_number D (row k)) (exact D p q m)
        held s =
            let f = within_formed p q m l s.0 s.1 s.2 in
            (of (record { p = p; q = q; m = pos m }) f, ap (row_number D) (of_row (record { p = p; q = q; m = pos m }) f))

    pub wholes_held : 9999 ≤ size → (w : ℤ) → unsigned_abs w ≤ 9999 → Held (λ k. row_number D (row k)) (whole_e D w)
    unfolding whole_e
    wholes_held large w h =
        let l : LowestParts D w (pos 0) 1 = record { above = omega arith; plain = λ e. refl; coprime = NatL.eq-one_of_dvd-one (gcd_right (gcd (unsigned_abs w) 0) 1) } in
        (holds_exactly w (pos 0) 1 l).1 (omega arith, omega arith, omega arith)
