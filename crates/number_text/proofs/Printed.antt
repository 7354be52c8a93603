-- What is printed spells the number. Assumes nothing.
use Rattle.std.proofs.Common.{◌≡◌, ℕ, zero, suc, ◌^◌, ◌<◌, ◌≤◌, Bool, true, false, cond, T, eqb, List, ◌∷◌, ◌++◌, ℤ, pos, negsuc, nat_abs, ◌<ℤ◌, Ok, Err, decimal, Result, sym, refl, ap, ◌∙◌, subst, inl, inr, append_assoc, arith, eqb→eq, ltb→lt}
use Rattle.std.specs.Fmt.{signed_decimal}
use Rattle.std.proofs.lemmas.Fmt.{decimal_is_IsNumeral, length-decimal-le}
use Rattle.algebra.specs.Exact.{Exact, exact}
use Rattle.algebra.specs.Laws.{Plain as NoRoot}
use Rattle.numbers.specs.Rows.{Row}
use Rattle.numbers.specs.Texts.{root_sign, with_sign, is, plain_text, root_text, number_text}
use Rattle.numbers.specs.declared.Parts.{Parts}
use Rattle.number_text.specs.Spelling.{Natural, Whole, Step, Plain, Rooted, Spells}
use Rattle.number_text.specs.Readings.{Reads, Short}
use Rattle.number_text.specs.declared.TextFault.{TextFault}
use Rattle.number_text.specs.declared.TextFault.TheVariants.{NotANumber, NotHeld}
use Rattle.number_text.proofs.Unique.{spells_unique}

natural_decimal : (n : ℕ) → n < 10 ^ 18 → Natural (decimal n) n
natural_decimal n h =
    let r = decimal_is_IsNumeral n (omega arith) in
    record { digits = r.0.1; some = r.0.0; few = length-decimal-le 18 n (omega arith) h (omega arith); is = sym r.1 }

whole_signed : (z : ℤ) → nat_abs z < 10 ^ 18 → Whole (signed_decimal z) z
whole_signed (pos n) h = inl (n, natural_decimal n h, refl)
whole_signed (negsuc n) h = inr (decimal (suc n), refl, (suc n, natural_decimal (suc n) h, refl))

step_signed : (z : ℤ) → nat_abs z < 10 ^ 18 → Step (with_sign z) z
step_signed (pos n) h = inl (decimal n, refl, (n, natural_decimal n h, refl))
step_signed (negsuc n) h = inr (decimal (suc n), refl, (suc n, natural_decimal (suc n) h, refl))

plain_spells : (p : ℤ) (m : ℕ) → 0 < m → nat_abs p < 10 ^ 18 → m < 10 ^ 18 → Plain (plain_text p (pos m)) p m
plain_spells p m o hp hm = go (eqb m 1) refl
  where
    go : (b : Bool) → eqb m 1 ≡ b → Plain (cond b (signed_decimal p) (signed_decimal p ++ (47 ∷ decimal m))) p m
    go true e = inl (whole_signed p hp, eqb→eq m 1 (subst T (sym e) tt))
    go false e = inr (signed_decimal p, decimal m, refl, (whole_signed p hp, natural_decimal m hm, o))

regroup : (a b r d u : List ℕ) → a ++ (b ++ (r ++ (d ++ u))) ≡ ((a ++ b) ++ (r ++ d)) ++ u
regroup a b r d u = simp append_assoc

root_spells : (D : ℕ) (p q : ℤ) (m : ℕ) → 0 < D → D < 10 ^ 18 → 0 < m → nat_abs p < 10 ^ 18 → nat_abs q < 10 ^ 18 → m < 10 ^ 18 → Rooted D (root_text (pos D) p q (pos m)) p q m
root_spells D p q m d hd o hp hq hm = (
  (signed_decimal p ++ with_sign q) ++ (root_sign ++ decimal D),
  41 ∷ (47 ∷ decimal m),
  ap (λ x. 40 ∷ x) (regroup (signed_decimal p) (with_sign q) root_sign (decimal D) (41 ∷ (47 ∷ decimal m))),
  (signed_decimal p ++ with_sign q, root_sign ++ decimal D, refl, (signed_decimal p, with_sign q, refl, (whole_signed p hp, step_signed q hq)), (decimal D, refl, natural_decimal D hd)),
  (decimal m, refl, natural_decimal m hm, o),
  d,
)

number_spells : (D : ℕ) (p q : ℤ) (m : ℕ) → NoRoot D q → D < 10 ^ 18 → 0 < m → nat_abs p < 10 ^ 18 → nat_abs q < 10 ^ 18 → m < 10 ^ 18 → Spells D (number_text (pos D) (record { p = p; q = q; m = pos m })) p q m
number_spells D p q m f hd o hp hq hm = go q (is q 0) refl f hq
  where
    nonzero : (D : ℕ) (q : ℤ) → NoRoot D q → is q 0 ≡ false → 0 < D
    nonzero zero q f e = absurd (subst T (sym (ap (λ z. is z 0) (f refl)) ∙ e) tt)
    nonzero (suc D) q f e = omega arith

    zero_is : (q : ℤ) → is q 0 ≡ true → q ≡ pos 0
    zero_is (pos n) e = ap pos (eqb→eq n 0 (subst T (sym e) tt))
    zero_is (negsuc n) e = absurd (subst T (sym e) tt)

    go : (q : ℤ) (b : Bool) → is q 0 ≡ b → NoRoot D q → nat_abs q < 10 ^ 18 → Spells D (cond b (plain_text p (pos m)) (root_text (pos D) p q (pos m))) p q m
    go q true e f hq = inl (plain_spells p m o hp hm, zero_is q e)
    go q false e f hq = inr (root_spells D p q m (nonzero D q f e) hd o hp hq hm)

pub row_spells : (D : ℕ) (row : Parts) → pos 0 <ℤ row.m → NoRoot D row.q → D < 10 ^ 18 → Short row → Spells D (number_text (pos D) row) row.p row.q (nat_abs row.m)
row_spells D row h f d s = go row.m h s.2
  where
    go : (m : ℤ) → pos 0 <ℤ m → nat_abs m < 10 ^ 18 → Spells D (number_text (pos D) (record { p = row.p; q = row.q; m = m })) row.p row.q (nat_abs m)
    go (pos m) h k = number_spells D row.p row.q m f d (ltb→lt 0 m h.lt) s.0 s.1 k
    go (negsuc m) h k = elim h.lt [ ]

-- ---- and reads back
module _ {A : Type 0} {D : ℕ} (value : A → Exact D) (parts : A → Parts) (small : D ≤ 99) (same : (a b : A) → value a ≡ value b → a ≡ b) (form : (k : A) → Row D (parts k) (value k)) where
  printed : (k : A) → Short (parts k) → Spells D (number_text (pos D) (parts k)) (parts k).p (parts k).q (nat_abs (parts k).m)
  printed k s = row_spells D (parts k) (form k).above (form k).lowest.plain (omega arith) s

  meaning : (k : A) (p q : ℤ) (m : ℕ) (bs : List ℕ) → bs ≡ number_text (pos D) (parts k) → Short (parts k) → Spells D bs p q m → value k ≡ exact D p q m
  meaning k p q m bs e s h =
      let u = spells_unique D bs (parts k).p (parts k).q p q (nat_abs (parts k).m) m (subst (λ x. Spells D x (parts k).p (parts k).q (nat_abs (parts k).m)) (sym e) (printed k s)) h in
      sym (form k).means ∙ (λ i. exact D (u.0 i) (u.1 i) (u.2 i))

  pub reads_back : (bs : List ℕ) (r : Result A TextFault) → Reads D value bs r → (k : A) → bs ≡ number_text (pos D) (parts k) → Short (parts k) → r ≡ Ok k
  reads_back bs (Ok x) (p, q, m, h, v) k e s = ap Ok (same x k (v ∙ sym (meaning k p q m bs e s h)))
  reads_back bs (Err NotHeld) (p, q, m, h, n) k e s = absurd (n (k, meaning k p q m bs e s h))
  reads_back bs (Err NotANumber) n k e s = absurd (n (parts k).p (parts k).q (nat_abs (parts k).m) (subst (λ x. Spells D x (parts k).p (parts k).q (nat_abs (parts k).m)) (sym e) (printed k s)))
