-- What begin and confirm leave in the trail. N is a kind of number with the values A, s the shape of the study. Assumes nothing.
use Rattle.std.proofs.Common.{◌≡◌, ℕ, suc, ◌+◌, ◌<◌, ◌≤◌, List, length, get_or, sym, ◌∙◌, subst, suc-mul, arith}
use Rattle.lines.specs.Meaning.{Meaning}
use Rattle.numbers.specs.declared.Number.{Ghosts}
use Rattle.numbers.specs.declared.Parts.{Parts}
use Rattle.study_terms.specs.Calls.{begin_checks, BeginGranted, next_formula, confirm_checks, ConfirmGranted}
use Rattle.study_terms.specs.Checks.{Passes}
use Rattle.study_terms.specs.Shapes.{Shape, shape_of, trail_need}
use Rattle.study_terms.specs.Sheets.{blank, at, x_place, u_place, x_at, Written}
use Rattle.study_terms.proofs.FormNumbers.{next_exact}
use Rattle.study_terms.proofs.KindRows.{Laws, written_reads}
use Rattle.study_costs.specs.Rows.{WorkedRows}
use Rattle.study_costs.proofs.SheetRows.{Entered, Zeroed}

module _ {A : Type 0} (N : Ghosts A) (s : Shape) (was between now : List Parts) (first : length between ≡ length was) (second : length now ≡ length between) where
  -- the start, and then zeros up to the need of the trail
  pub begun : (start : List Parts) (need : ℕ) → need ≡ trail_need s → Passes N (begin_checks N s (length start) (length was))
      → Entered N start s.nx 0 was between → Zeroed s.nx need between now → BeginGranted N s start was now
  begun start need n passes e z = record {
    passes = passes;
    first = λ j l.
        let p : 0 + j ≡ x_place s 0 j = omega arith in
        subst (Written N (at N start j)) (sym (z.before (x_place s 0 j) (omega arith)))
        (subst (λ t. Written N (at N start j) (get_or between t blank)) p (e.rows j l));
    zeros = λ t a b. z.rows t a (subst (λ k. t < k) (sym n) b);
    surplus = record {
      long = second ∙ first;
      others = λ t l. z.after t (subst (λ k. k ≤ t) (sym n) l) ∙ e.after t (omega arith);
    };
  }

  -- the adjustments made, and after them the next lateness
  pub confirmed : Laws N → (m : Meaning A) (k from : ℕ) (made rows : List Parts) → from ≡ u_place s k 0 → shape_of m ≡ s → Passes N (confirm_checks N s m k made was)
      → WorkedRows N (λ j. next_formula N s m k j (at N made) (x_at N s was k)) s.nx rows
      → Entered N made s.nu from was between
      → Entered N rows s.nx (from + s.nu) between now → ConfirmGranted N s m k made was now
  confirmed laws m k from made rows place same passes worked u x =
      let e = suc-mul k (s.nx + s.nu) in
      record {
        passes = passes;
        adjustments = λ i l.
            let p : from + i ≡ u_place s k i = omega arith in
            subst (Written N (at N made i)) (sym (x.before (u_place s k i) (omega arith)))
            (subst (λ t. Written N (at N made i) (get_or between t blank)) p (u.rows i l));
        lateness = λ j l.
            let p : from + s.nu + j ≡ x_place s (suc k) j = omega arith in
            let y = next_exact N m s same k j (at N made) (x_at N s was k) in
            subst (λ n. Written N n (get_or now (x_place s (suc k) j) blank)) (written_reads N laws _ (get_or rows j blank) (worked j l).1 ∙ y)
            (subst (λ t. Written N (at N rows j) (get_or now t blank)) p (x.rows j l));
        before = λ t l. x.before t (omega arith) ∙ u.before t (omega arith);
        surplus = record {
          long = second ∙ first;
          others = λ t l. x.after t (omega arith) ∙ u.after t (omega arith);
        };
      }
