-- The plan at a stop, worked from the last input to the first. Assumes nothing.
--
--   number_of N here gains trail c         how the number of input c is worked, after the later ones of the plan
--   Right N here gains trail rows c        it is held, and its row stands in the rows
--   WorkedFrom N here gains trail i rows   so for each input from i on
use Rattle.std.proofs.Common.{◌≡◌, ℕ, suc, ◌+◌, ◌-◌, ◌<◌, ◌≤◌, List, length, get_or, set, Ok, Result, sym, refl, ap, ◌∙◌, subst, arith, length-set, get_or-set_other, get_or-set_same}
use native.Mathlib.Decide.{ℕ_discrete}
use Rattle.numbers.specs.declared.Number.{Ghosts}
use Rattle.numbers.specs.declared.Parts.{Parts}
use Rattle.study_terms.specs.declared.faults.kinds.Below.{Below}
use Rattle.study_terms.specs.declared.stops.Departing.{Departing}
use Rattle.study_terms.specs.Checks.{RefusedWith}
use Rattle.study_terms.specs.Formulas.{field, NumberOf, Formula, known, minus, times, sums, Sound, Outcome, FirstFault}
use Rattle.study_terms.specs.Refusals.{bare}
use Rattle.study_terms.specs.Sheets.{blank, at, Written}
use Rattle.study_terms.specs.Sized.{shape}
use Rattle.study_terms.proofs.GapNumbers.{plan_number}
use Rattle.study_terms.proofs.KindRows.{Laws, written_reads}
use Rattle.study_terms.proofs.Working.{sums_ext}
use Rattle.study_gaps.specs.Steps.{factors_here, lateness_here, planned_here, plan_here, plan_checks, Planned}

module _ {A : Type 0} (N : Ghosts A) (here : Departing) (gains trail : List Parts) where
  open field N use {𝟘}

  abbrev pub number_of : ℕ → Formula A (NumberOf N)
  number_of c = plan_here N here gains trail (planned_here N here gains trail) c

  pub record Right (rows : List Parts) (c : ℕ) : Type 0 where
    pub sound : Sound N (number_of c)
    pub written : Written N (planned_here N here gains trail c) (get_or rows c blank)

  pub record WorkedFrom (i : ℕ) (rows : List Parts) : Type 0 where
    pub long : length rows ≡ 3
    pub right : (c : ℕ) → i ≤ c → c < here.sizes.inputs → Right rows c

  pub worked_all : (rows : List Parts) → WorkedFrom 0 rows → Planned N here gains trail rows
  worked_all rows h = record {
    passes = λ j l q. (h.right (here.sizes.inputs - suc j) (omega arith) (omega arith)).sound;
    plan = λ i l. (h.right i (omega arith) l).written;
  }

  -- a number too large, after the later ones
  pub worked_refused : (i : ℕ) (rows : List Parts) (b : Below) → i < here.sizes.inputs → WorkedFrom (suc i) rows → FirstFault N (number_of i) b
      → RefusedWith N (plan_checks N here gains trail) (bare 32)
  worked_refused i rows b l h f =
      let nu = here.sizes.inputs in
      let e : i ≡ nu - suc (nu - suc i) = omega arith in
      (nu - suc i, omega arith, omega arith, (λ j p q. (h.right (nu - suc j) (omega arith) (omega arith)).sound), (b, refl, subst (λ c. FirstFault N (number_of c) b) e f))

  -- an input's number of the plan reads the later adjustments only
  plan_reads : (i : ℕ) (u v : ℕ → NumberOf N) → ((c : ℕ) → i < c → c < here.sizes.inputs → u c ≡ v c)
      → plan_here N here gains trail u i ≡ plan_here N here gains trail v i
  plan_reads i u v h =
      let r = factors_here N here gains in
      let nu = here.sizes.inputs in
      let nx = here.sizes.states in
      ap (λ f. minus (known 𝟘) (sums f nx (λ j. times (known (r i (nu + j))) (known (lateness_here N here trail j)))))
      (sums_ext (known (r i (nu + nx))) (nu - suc i) _ _ (λ j l. ap (λ y. times (known (r i (suc i + j))) (known y)) (h (suc i + j) (omega arith) (omega arith))))

  -- the number of the next input, after the rows so far
  pub next_number_lem : Laws N → (i : ℕ) (rows : List Parts) (o : Result A Below) → WorkedFrom (suc i) rows
      → Outcome N (plan_here N here gains trail (at N rows) i) o → Outcome N (number_of i) o
  next_number_lem laws i rows o h u =
      subst (λ f. Outcome N f o)
      (plan_reads i (at N rows) (planned_here N here gains trail) (λ c l q. written_reads N laws _ _ (h.right c (omega arith) q).written)) u

  pub worked_more : (i : ℕ) (rows : List Parts) (x : A) → i < here.sizes.inputs → WorkedFrom (suc i) rows → Outcome N (number_of i) (Ok x)
      → WorkedFrom i (set rows i (N.parts x))
  worked_more i rows x l h u = record {
    long = length-set rows i (N.parts x) ∙ h.long;
    right = λ c p q. elim (ℕ_discrete c i) [
      | yes e ↦ subst (Right (set rows i (N.parts x))) (sym e) here_right
      | no e ↦ record {
        sound = (h.right c (omega arith) q).sound;
        written = subst (Written N (planned_here N here gains trail c)) (sym (get_or-set_other rows i c (N.parts x) blank e)) (h.right c (omega arith) q).written;
      }
    ];
  }
    where
      fits : i < length rows
      fits = let e = h.long in let few = here.sizes.few_inputs in omega arith

      here_right : Right (set rows i (N.parts x)) i
      here_right = record {
        sound = u.0;
        written = (x, u.1 ∙ plan_number N (shape here.sizes) (factors_here N here gains) (lateness_here N here trail) i l, get_or-set_same rows i (N.parts x) blank fits);
      }
