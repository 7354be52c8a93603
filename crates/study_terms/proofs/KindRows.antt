-- What the rows of a kind mean. Assumes nothing.
--
--   Laws N   what every kind of number keeps, of its values and rows
use Rattle.std.proofs.Common.{◌≡◌, ◌≤◌, ℤ, pos, negsuc, nat_abs, ◌<ℤ◌, sym, refl, ap, ◌∙◌, ap₂, arith, lit≤}
use Rattle.algebra.specs.Exact.{Exact, zero_e, whole_e}
use Rattle.algebra.specs.Laws.{LowestParts}
use Rattle.algebra.proofs.Lowest.{lowest_parts_unique}
use Rattle.algebra.proofs.Triples.{exact_zero}
use Rattle.numbers.specs.Answers.{Held}
use Rattle.numbers.specs.Rows.{Row}
use Rattle.numbers.specs.declared.Number.{Ghosts}
use Rattle.numbers.specs.declared.Parts.{Parts}
use Rattle.lines.specs.WholeLines.{whole_zero}
use Rattle.study_terms.specs.Sheets.{zero_row, Written}

pub record Laws {A : Type 0} (N : Ghosts A) : Type 0 where
  pub same : (a b : A) → N.value a ≡ N.value b → a ≡ b
  pub form : (k : A) → Row N.radicand (N.parts k) (N.value k)
  pub back : (k : A) → N.reading (N.parts k) ≡ N.value k
  pub wholes : (w : ℤ) → nat_abs w ≤ 9999 → Held N.value (whole_e N.radicand w)

module _ {A : Type 0} (N : Ghosts A) (laws : Laws N) where
  -- a written row is read as its number
  pub written_reads : (x : Exact N.radicand) (row : Parts) → Written N x row → N.reading row ≡ x
  written_reads x row h = ap N.reading h.2 ∙ laws.back h.0 ∙ h.1

  zero_lowest : LowestParts N.radicand (pos 0) (pos 0) 1
  zero_lowest = record { above = lit≤ tt; plain = λ _. refl; coprime = refl }

  positive_part : (z : ℤ) → pos 0 <ℤ z → nat_abs z ≡ 1 → z ≡ pos 1
  positive_part (pos n) l e = ap pos e
  positive_part (negsuc n) l e = absurd (omega (arith, l))

  -- 0 is written in one row
  pub zero_written : (row : Parts) → Written N (zero_e N.radicand) row → row ≡ zero_row
  zero_written row h =
      let r = laws.form h.0 in
      let t = lowest_parts_unique N.radicand (N.parts h.0).p (N.parts h.0).q (nat_abs (N.parts h.0).m) (pos 0) (pos 0) 1 r.lowest zero_lowest
      (r.means ∙ h.1 ∙ sym (exact_zero N.radicand 1 (omega arith))) in
      h.2 ∙ parts_same (N.parts h.0) t.0 t.1 (positive_part (N.parts h.0).m r.above t.2)
    where
      parts_same : (a : Parts) → a.p ≡ pos 0 → a.q ≡ pos 0 → a.m ≡ pos 1 → a ≡ zero_row
      parts_same a p q m = let row : ℤ → ℤ → ℤ → Parts = λ x y z. record { p = x; q = y; m = z } in ap₂ (λ x y. row x y a.m) p q ∙ ap (row (pos 0) (pos 0)) m

  zero_value : Held N.value (zero_e N.radicand)
  zero_value = let k = laws.wholes (pos 0) (omega arith) in (k.0, k.1 ∙ whole_zero N.radicand)

  pub zero_is_written : Written N (zero_e N.radicand) zero_row
  zero_is_written =
      let k = zero_value in
      (k.0, k.1, sym (zero_written (N.parts k.0) (k.0, k.1, refl)))

  pub zero_reads : N.reading zero_row ≡ zero_e N.radicand
  zero_reads = written_reads (zero_e N.radicand) zero_row zero_is_written
