-- Aims in their list, and entries worked one after the other. Assumes nothing.
use Rattle.std.proofs.Common.{◌≡◌, ℕ, zero, suc, ◌<◌, ◌≤◌, List, [], get_or, replicate, ℤ, pos, IsErrAnd, Ok, Err, Result, sym, ap, ◌∙◌, subst, arith}
use native.Mathlib.Decide.{dec_lt, ℕ_discrete}
use Rattle.lines.specs.declared.faults.LineFault.{LineFault}
use Rattle.std.proofs.lemmas.List.{get_or_past, get_or-replicate, length-replicate}
use Rattle.lines.specs.Meaning.{Entry, holds, marked, Answer}
use Rattle.lines.specs.Whole.{cell}
use Rattle.std.proofs.lemmas.Bool.Decides.{nat_tests}
use Rattle.std.proofs.lemmas.Grind.{common_steps}
use Rattle.lines.specs.declared.faults.Mark.{Mark}
use Rattle.aims.specs.Aimed.{aim}
use Rattle.aims.specs.Entries.{after}

-- past the states there is no aim
pub aim_states : (ts : List (List ℤ)) (n k : ℕ) → 4 ≤ k → aim ts n k ≡ pos 0
aim_states ts n k h = grind (arith, nat_tests)

pub after_holds : {A : Type 0} (x : Entry A) (f : A → Entry A) (k : A) (r : Entry A) → x ≡ holds k → f k ≡ r → after x f ≡ r
after_holds {A} x f k r h p = ap (λ (y : Entry A). after y f) h ∙ p

pub no_aims : (n k : ℕ) → aim (replicate 25 (replicate 4 (pos 0))) n k ≡ pos 0
no_aims n k = let r = row n in grind (arith, nat_tests)
  where
    zero_cell : (m i : ℕ) → cell (replicate m (pos 0)) i ≡ pos 0
    zero_cell m i = grind (arith, common_steps)

    row : (n : ℕ) → cell (get_or (replicate 25 (replicate 4 (pos 0))) n []) k ≡ pos 0
    row n = elim (dec_lt n 25) [
      | yes l ↦ ap (λ (zs : List ℤ). cell zs k) (get_or-replicate 25 n (replicate 4 (pos 0)) [] l) ∙ zero_cell 4 k
      | no h ↦ ap (λ (zs : List ℤ). cell zs k) (get_or_past (replicate 25 (replicate 4 (pos 0))) n [] (omega (arith, length-replicate 25 (replicate 4 (pos 0)))))
    ]

-- ---- numbers worked one after the other, each by a step from the one before
module _ {A : Type 0} (work : ℕ → Entry A) (step : ℕ → A → Entry A) (next : (k : ℕ) → work (suc k) ≡ after (work k) (step k)) where
  -- a mark stays
  stays : (j n : ℕ) (e : Mark) → j ≤ n → work j ≡ marked e → work n ≡ marked e
  stays j zero e h p = let z : j ≡ 0 = omega arith in subst (λ (k : ℕ). work k ≡ marked e) z p
  stays j (suc n) e h p = elim (ℕ_discrete j (suc n)) [
    | yes q ↦ subst (λ (k : ℕ). work k ≡ marked e) q p
    | no q ↦ next n ∙ ap (λ (y : Entry A). after y (step n)) (stays j n e (omega arith) p)
  ]

  -- the exit of a `?` that hands a refusal on
  passed : (n : ℕ) (f : LineFault) (r : Result A LineFault) → work n ≡ marked f.mark → IsErrAnd r (λ y. y ≡ f) → Answer (work n) r
  passed n f (Ok k) h e = absurd e
  passed n f (Err y) h e = h ∙ ap (λ (z : LineFault). marked z.mark) (sym e)

  pub refused_first : (n : ℕ) (f : LineFault) (r : Result A LineFault) → work 0 ≡ marked f.mark → IsErrAnd r (λ y. y ≡ f) → Answer (work n) r
  refused_first n f r h e = passed n f r (stays 0 n f.mark (omega arith) h) e

  pub refused_at : (k n : ℕ) (s : A) (f : LineFault) (r : Result A LineFault) → k < n → work k ≡ holds s → step k s ≡ marked f.mark → IsErrAnd r (λ y. y ≡ f) → Answer (work n) r
  refused_at k n s f r l h p e = passed n f r (stays (suc k) n f.mark (omega arith) (next k ∙ after_holds (work k) (step k) s (marked f.mark) h p)) e
