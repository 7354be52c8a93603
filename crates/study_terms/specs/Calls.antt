-- The calls of a study after weigh: what each checks, in order, and what it answers and leaves when it is granted; refused, it leaves everything as
-- it was. N is a kind of number with the values A, s the shape of the study, k its stop, m the line given to the call. Assumes nothing.
--
--   later_formula s r i u x                        how the sum of propose is worked: the constant's factor, later inputs, states
--   plan_formula, gap_formula                      0 minus that sum; the adjustment plus that sum
--   form_formula w M z                             how a quadratic form is worked: row by row, each term (entry × z a) × z c
--   next_formula m s n j u x                       how the next lateness j is worked
--   planned s r x                                  the adjustments without a gap at the factors r: the plan at one stop
--   paid_at m s trail k                            the cost of the stops before k, of the adjustments and lateness in the trail
--   rest_at s gains trail k                        the form of P at stop k, taken at the lateness in the trail
--   excess_at s gains trail k                      the sum over the stops before k of pivot × gap²
--   X_checks                                       what the call X checks: 16 another shape, 12 gains short, 21 start length, 22 trail short, 31 at the end, 33 slip length,
--                                                  41 adjustments length, 61 before the end; and 32, 42, 51 for a number that is too large
--   BeginGranted, ProposeGranted, ConfirmGranted   what a granted call leaves
--   AnswerGranted c y x                            the checks c pass, and the answer x means the number y
--   AnswerPromise c y r                            a question that makes the checks c answers the number y, or refuses
use Rattle.std.specs.Prelude.{◌≡◌, ℕ, zero, suc, ◌+◌, ◌-◌, ◌<◌, ◌≤◌, not, List, length, ◌==◌, nat_le, slice_index_or, Result, MatchResult}
use Rattle.control.specs.Elimination.{gap_by, fill_by}
use Rattle.control.specs.Line.{next, stage_cost}
use Rattle.control.specs.Matrix.{sum, form}
use Rattle.numbers.specs.declared.Number.{Ghosts}
use Rattle.numbers.specs.declared.Parts.{Parts}
use Rattle.lines.specs.Meaning.{Meaning}
use Rattle.study_terms.specs.declared.faults.kinds.StudyFault.{StudyFault}
use Rattle.study_terms.specs.Checks.{Checks, test, number, each, ◌then◌, Passes, RefusedWith}
use Rattle.study_terms.specs.Formulas.{field, Formula, known, asked, plus, minus, times, sums, exact}
use Rattle.study_terms.specs.Refusals.{bare, refusal}
use Rattle.study_terms.specs.Shapes.{Shape, shape_of, same_shape, width, gains_need, trail_need}
use Rattle.study_terms.specs.Sheets.{blank, zero_row, at, Written, exact_line, x_place, u_place, gains_at, value_at, x_at, u_at, state_list, stacked_list, Surplus}

module _ {A : Type 0} (N : Ghosts A) where
  infixl 60 ◌⊕◌
  infixl 70 ◌⊗◌
  open field N use {Car, 𝟘, ◌⊕◌, ◌⊗◌}

  -- the sum over a, c of (M a c × z a) × z c, rows before a
  abbrev pub rows_formula : ℕ → ℕ → (ℕ → ℕ → Formula A Car) → (ℕ → Car) → Formula A Car
  rows_formula w zero M z = known 𝟘
  rows_formula w (suc a) M z = sums (rows_formula w a M z) w (λ c. times (times (M a c) (known (z a))) (known (z c)))

  abbrev pub form_formula : ℕ → (ℕ → ℕ → Formula A Car) → (ℕ → Car) → Formula A Car
  form_formula w M z = rows_formula w w M z

  module _ (s : Shape) where
    abbrev pub later_formula : (ℕ → ℕ → Car) → ℕ → (ℕ → Car) → (ℕ → Car) → Formula A Car
    later_formula r i u x =
        sums (sums (known (r i (s.nu + s.nx))) (s.nu - suc i) (λ j. times (known (r i (suc i + j))) (known (u (suc i + j)))))
        s.nx (λ j. times (known (r i (s.nu + j))) (known (x j)))

    abbrev pub plan_formula : (ℕ → ℕ → Car) → ℕ → (ℕ → Car) → (ℕ → Car) → Formula A Car
    plan_formula r i u x = minus (known 𝟘) (later_formula r i u x)

    abbrev pub gap_formula : (ℕ → ℕ → Car) → ℕ → (ℕ → Car) → (ℕ → Car) → Formula A Car
    gap_formula r i u x = plus (known (u i)) (later_formula r i u x)

    abbrev pub planned : (ℕ → ℕ → Car) → (ℕ → Car) → ℕ → Car
    planned r x = fill_by (field N) (width s) r (λ _. 𝟘) s.nu (stacked_list N s (λ _. 𝟘) x)

    abbrev pub rest_at : List Parts → List Parts → ℕ → Car
    rest_at gains trail k = form (field N) (suc s.nx) (value_at N s gains k) (state_list N s (x_at N s trail k))

    -- the gap of input i at stop n, of the adjustments and lateness in the trail
    abbrev pub gap_at : List Parts → List Parts → ℕ → ℕ → Car
    gap_at gains trail n i = gap_by (field N) (width s) (gains_at N s gains n) i (stacked_list N s (u_at N s trail n) (x_at N s trail n))

    abbrev pub excess_at : List Parts → List Parts → ℕ → Car
    excess_at gains trail k =
        sum (field N) k (λ n. sum (field N) s.nu (λ i. gains_at N s gains n i i ⊗ (gap_at gains trail n i ⊗ gap_at gains trail n i)))

    abbrev pub rest_formula : List Parts → List Parts → ℕ → Formula A Car
    rest_formula gains trail k = form_formula (suc s.nx) (λ a c. known (value_at N s gains k a c)) (state_list N s (x_at N s trail k))

    -- (pivot × gap) × gap, where the gap is worked once
    abbrev pub square_formula : List Parts → List Parts → ℕ → ℕ → Formula A Car
    square_formula gains trail n i =
        let g = gap_formula (gains_at N s gains n) i (u_at N s trail n) (x_at N s trail n) in
        times (times (known (gains_at N s gains n i i)) g) (known (exact N g))

    abbrev pub excess_formula : List Parts → List Parts → ℕ → Formula A Car
    excess_formula gains trail zero = known 𝟘
    excess_formula gains trail (suc n) = sums (excess_formula gains trail n) s.nu (square_formula gains trail n)

    abbrev pub begin_checks : ℕ → ℕ → Checks A Car
    begin_checks start trail = test (start == s.nx) (bare 21) then test (nat_le (trail_need s) trail) (bare 22)

    abbrev pub sheet_checks : List Parts → List Parts → Checks A Car
    sheet_checks gains trail = test (nat_le (gains_need s) (length gains)) (bare 12) then test (nat_le (trail_need s) (length trail)) (bare 22)

    abbrev pub propose_checks : ℕ → List Parts → List Parts → ℕ → Checks A Car
    propose_checks k gains trail slip =
        test (not (k == s.end)) (bare 31)
        then sheet_checks gains trail
        then test (slip == s.nu) (bare 33)
        then each 0 s.nu (λ j. number (λ _. bare 32)
        (plan_formula (gains_at N s gains k) (s.nu - suc j) (planned (gains_at N s gains k) (x_at N s trail k)) (x_at N s trail k)))

    abbrev pub rest_checks : ℕ → List Parts → List Parts → Checks A Car
    rest_checks k gains trail = sheet_checks gains trail then number (λ _. bare 51) (rest_formula gains trail k)

    abbrev pub excess_checks : ℕ → List Parts → List Parts → Checks A Car
    excess_checks k gains trail = sheet_checks gains trail then number (λ _. bare 51) (excess_formula gains trail k)

    abbrev pub close_checks : ℕ → Checks A Car
    close_checks k = test (k == s.end) (bare 61)

    pub record BeginGranted (start trail trail' : List Parts) : Type 0 where
      pub passes : Passes N (begin_checks (length start) (length trail))
      pub first : (j : ℕ) → j < s.nx → Written N (at N start j) (slice_index_or trail' (x_place s 0 j) blank)
      pub zeros : (t : ℕ) → s.nx ≤ t → t < trail_need s → slice_index_or trail' t blank ≡ zero_row
      pub surplus : Surplus (trail_need s) trail trail'

    pub record ProposeGranted (k : ℕ) (gains trail slip slip' : List Parts) : Type 0 where
      pub passes : Passes N (propose_checks k gains trail (length slip))
      pub plan : (i : ℕ) → i < s.nu → Written N (planned (gains_at N s gains k) (x_at N s trail k) i) (slice_index_or slip' i blank)
      pub long : length slip' ≡ s.nu

    module _ (m : Meaning A) where
      abbrev pub next_formula : ℕ → ℕ → (ℕ → Car) → (ℕ → Car) → Formula A Car
      next_formula n j u x = sums (known 𝟘) (width s) (λ c. times (asked (m.F n j c)) (known (stacked_list N s u x c)))

      abbrev pub paid_at : List Parts → ℕ → Car
      paid_at trail k = sum (field N) k (λ n. stage_cost (exact_line N m) n (u_at N s trail n) (x_at N s trail n))

      abbrev pub stage_formula : List Parts → ℕ → Formula A Car
      stage_formula trail n = form_formula (width s) (λ a c. asked (m.G n a c)) (stacked_list N s (u_at N s trail n) (x_at N s trail n))

      abbrev pub paid_formula : List Parts → ℕ → Formula A Car
      paid_formula trail k = sums (known 𝟘) k (stage_formula trail)

      abbrev pub confirm_checks : ℕ → List Parts → List Parts → Checks A Car
      confirm_checks k made trail =
          test (same_shape (shape_of m) s) (bare 16)
          then test (length made == s.nu) (bare 41)
          then test (nat_le (trail_need s) (length trail)) (bare 22)
          then each 0 s.nx (λ j. number (λ _. bare 42) (next_formula k j (at N made) (x_at N s trail k)))

      abbrev pub paid_checks : ℕ → List Parts → Checks A Car
      paid_checks k trail =
          test (same_shape (shape_of m) s) (bare 16)
          then test (nat_le (trail_need s) (length trail)) (bare 22)
          then number (λ _. bare 51) (paid_formula trail k)

      pub record ConfirmGranted (k : ℕ) (made trail trail' : List Parts) : Type 0 where
        pub passes : Passes N (confirm_checks k made trail)
        pub adjustments : (i : ℕ) → i < s.nu → Written N (at N made i) (slice_index_or trail' (u_place s k i) blank)
        pub lateness : (j : ℕ) → j < s.nx → Written N (next (exact_line N m) k (at N made) (x_at N s trail k) j) (slice_index_or trail' (x_place s (suc k) j) blank)
        pub before : (t : ℕ) → t < u_place s k 0 → slice_index_or trail' t blank ≡ slice_index_or trail t blank
        pub surplus : Surplus (x_place s (suc k) s.nx) trail trail'

  pub record AnswerGranted (c : Checks A Car) (y : Car) (x : A) : Type 0 where
    pub passes : Passes N c
    pub answer : N.value x ≡ y

  abbrev pub AnswerPromise : Checks A Car → Car → Result A StudyFault → Type 0
  AnswerPromise c y r = MatchResult r (λ x. AnswerGranted c y x) (λ e. RefusedWith N c (refusal e))
