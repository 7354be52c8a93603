-- A trail that follows an account: its lateness, its adjustments, and so what is paid and what is in excess. Assumes nothing.
--
--   Follows trail a   the trail has the lateness of the account a at each stop up to its own, and the adjustments made before it
use Rattle.std.proofs.Common.{◌≡◌, ℕ, zero, suc, ◌+◌, ◌-◌, ◌*◌, ◌<◌, ◌≤◌, ◌≢◌, List, sym, refl, ap, ◌∙◌, subst, ap₂, mul-le-mul_right, suc-mul, arith}
use native.Mathlib.Decide.{ℕ_discrete}
use Rattle.algebra.specs.Field.{OrderedField}
use Rattle.control.specs.Elimination.{later_by, gap_by, fill_by, fill}
use Rattle.control.specs.Line.{Line, width, state, stacked, next, stage_cost, lateness}
use Rattle.control.specs.Matrix.{sum, form, join, put}
use Rattle.control.specs.Plan.{solve}
use Rattle.control.specs.Recursion.{P, M, factor, pivot, value, gap, stop_excess}
use Rattle.control.proofs.Accounts.{lateness_ext}
use Rattle.control.proofs.Forms.{form_ext}
use Rattle.control.proofs.Gaps.{fill_is_by}
use Rattle.control.proofs.Lists.{join_ext, put_same, put_other}
use Rattle.control.proofs.Stops.{next_stacked, stage_stacked, gap_stacked}
use Rattle.control.proofs.Sums.{sum_ext}
use Rattle.numbers.specs.declared.Number.{Ghosts}
use Rattle.numbers.specs.declared.Parts.{Parts}
use Rattle.lines.specs.Meaning.{Meaning}
use Rattle.study_terms.specs.Shapes.{Shape, shape_of}
use Rattle.study_terms.specs.Formulas.{field}
use Rattle.study_terms.specs.Sheets.{at, exact_line, x_place, u_place, gains_at, x_at, u_at, Gains}
use Rattle.study_terms.specs.Calls.{planned, paid_at, rest_at, excess_at, gap_at, BeginGranted, ConfirmGranted}
use Rattle.study_terms.proofs.KindRows.{Laws, written_reads}
use Rattle.study_theory.specs.Runs.{Account, confirmed, begun}
use Rattle.study_theory.specs.Law.{confirmed_cost, confirmed_excess}

-- equal factors make equal lists without gaps
module _ (K : OrderedField) (w : ℕ) (r q : ℕ → ℕ → K.Car) where
  open K use {Car, ◌⊕◌, ◌⊗◌, neg}

  later_same : (i : ℕ) (z : ℕ → Car) → ((c : ℕ) → i < c → c < w → r i c ≡ q i c) → later_by K w r i z ≡ later_by K w q i z
  later_same i z h = sum_ext K (w - suc i) _ _ (λ k l. ap (λ t. t ⊗ z (suc i + k)) (h (suc i + k) (omega arith) (omega arith)))

  pub gap_same : (i : ℕ) (z : ℕ → Car) → ((c : ℕ) → i < c → c < w → r i c ≡ q i c) → gap_by K w r i z ≡ gap_by K w q i z
  gap_same i z h = ap (λ t. z i ⊕ t) (later_same i z h)

  pub fill_same : (g : ℕ → Car) (j : ℕ) (z : ℕ → Car) → ((i c : ℕ) → i < j → i < c → c < w → r i c ≡ q i c) → fill_by K w r g j z ≡ fill_by K w q g j z
  unfolding fill_by
  fill_same g zero z h = refl
  fill_same g (suc j) z h =
      ap (λ t. fill_by K w r g j (put j (g j ⊕ neg t) z)) (later_same j z (λ c l k. h j c (omega arith) l k))
      ∙ fill_same g j _ (λ i c l k t. h i c (omega arith) k t)

module _ {A : Type 0} (N : Ghosts A) (laws : Laws N) (m : Meaning A) where
  infixl 60 ◌⊕◌
  infixl 70 ◌⊗◌
  open field N use {Car, 𝟘, 𝟙, ◌⊕◌, ◌⊗◌}
  open m use {end, nx, nu}

  abbrev L : Line (field N)
  L = exact_line N m

  abbrev s : Shape
  s = shape_of m

  pub record Follows (trail : List Parts) (a : Account Car) : Type 0 where
    pub x : (n j : ℕ) → n ≤ a.stop → j < nx → x_at N s trail n j ≡ lateness L 0 a.made a.start n j
    pub u : (n i : ℕ) → n < a.stop → i < nu → u_at N s trail n i ≡ a.made n i

  -- lists that agree on the inputs and states agree
  stacked_same : (u v x y : ℕ → Car) → ((i : ℕ) → i < nu → u i ≡ v i) → ((j : ℕ) → j < nx → x j ≡ y j) → stacked L u x ≡ stacked L v y
  stacked_same u v x y h k = join_ext nu u v (state L x) h ∙ ap (join nu v) (join_ext nx x y (λ _. 𝟙) k)

  pub next_same : (n : ℕ) (u v x y : ℕ → Car) → ((i : ℕ) → i < nu → u i ≡ v i) → ((j : ℕ) → j < nx → x j ≡ y j) → next L n u x ≡ next L n v y
  next_same n u v x y h k = next_stacked L n u v x y (stacked_same u v x y h k)

  stage_same : (n : ℕ) (u v x y : ℕ → Car) → ((i : ℕ) → i < nu → u i ≡ v i) → ((j : ℕ) → j < nx → x j ≡ y j) → stage_cost L n u x ≡ stage_cost L n v y
  stage_same n u v x y h k = stage_stacked L n u v x y (stacked_same u v x y h k)

  excess_same : (n : ℕ) (u v x y : ℕ → Car) → ((i : ℕ) → i < nu → u i ≡ v i) → ((j : ℕ) → j < nx → x j ≡ y j) → stop_excess L n u x ≡ stop_excess L n v y
  unfolding stop_excess
  excess_same n u v x y h k =
      sum_ext (field N) nu _ _ (λ i l. ap (λ t. pivot L n i ⊗ (t ⊗ t)) (gap_stacked L n i u v x y (stacked_same u v x y h k)))

  pub value_same : (n : ℕ) (x y : ℕ → Car) → ((j : ℕ) → j < nx → x j ≡ y j) → value L n x ≡ value L n y
  unfolding value
  value_same n x y k = ap (form (field N) (suc nx) (P L n)) (join_ext nx x y (λ _. 𝟙) k)

  pub solve_same : (n : ℕ) (x y : ℕ → Car) → ((j : ℕ) → j < nx → x j ≡ y j) → solve L n (λ _. 𝟘) x ≡ solve L n (λ _. 𝟘) y
  unfolding solve
  solve_same n x y k = ap (fill (field N) (width L) (M L n) (λ _. 𝟘) nu) (stacked_same (λ _. 𝟘) (λ _. 𝟘) x y (λ i l. refl) k)

  -- what the trail says is paid is the confirmed cost
  pub paid_is : (trail : List Parts) (a : Account Car) → Follows trail a → paid_at N s m trail a.stop ≡ confirmed_cost N m a
  paid_is trail a f =
      sum_ext (field N) a.stop _ _ (λ n l.
      let z : n ≡ 0 + n = omega arith in
      stage_same n _ _ _ _ (λ i q. f.u n i l q) (λ j q. f.x n j (omega arith) q)
      ∙ ap (λ k. stage_cost L k (a.made n) (lateness L 0 a.made a.start n)) z)

  -- the numbers of a gains sheet, as they are read
  module _ (gains : List Parts) (g : Gains N m gains) where
    pub pivot_is : (n i : ℕ) → n < end → i < nu → gains_at N s gains n i i ≡ pivot L n i
    pivot_is n i l q = written_reads N laws _ _ (g.pivots n i l q)

    pub factor_is : (n i c : ℕ) → n < end → i < nu → i < c → c < width L → gains_at N s gains n i c ≡ factor L n i c
    factor_is n i c l q p t = written_reads N laws _ _ (g.factors n i c l q p t)

    pub rest_is : (trail : List Parts) (n : ℕ) → n ≤ end → rest_at N s gains trail n ≡ value L n (x_at N s trail n)
    unfolding value
    rest_is trail n l = form_ext (field N) (suc nx) _ _ _ _ (λ a c p q. written_reads N laws _ _ (g.values n a c l p q)) (λ k p. refl)

    pub plan_is : (n : ℕ) (x : ℕ → Car) → n < end → planned N s (gains_at N s gains n) x ≡ solve L n (λ _. 𝟘) x
    unfolding solve
    plan_is n x l =
        fill_same (field N) (width L) _ (factor L n) (λ _. 𝟘) nu _ (λ i c p q t. factor_is n i c l p q t)
        ∙ sym (fill_is_by (field N) (width L) (M L n) (λ _. 𝟘) nu _)

    gaps_is : (trail : List Parts) (n i : ℕ) → n < end → i < nu → gap_at N s gains trail n i ≡ gap L n i (u_at N s trail n) (x_at N s trail n)
    unfolding gap
    gaps_is trail n i l q = gap_same (field N) (width L) (gains_at N s gains n) (factor L n) i (stacked L (u_at N s trail n) (x_at N s trail n)) (λ c p t. factor_is n i c l q p t)

    squares_is : (trail : List Parts) (n : ℕ) → n < end
        → sum (field N) nu (λ i. gains_at N s gains n i i ⊗ (gap_at N s gains trail n i ⊗ gap_at N s gains trail n i)) ≡ stop_excess L n (u_at N s trail n) (x_at N s trail n)
    unfolding stop_excess
    squares_is trail n l = sum_ext (field N) nu _ _ (λ i q. ap₂ (λ d t. d ⊗ (t ⊗ t)) (pivot_is n i l q) (gaps_is trail n i l q))

    pub excess_is : (trail : List Parts) (a : Account Car) → a.stop ≤ end → Follows trail a → excess_at N s gains trail a.stop ≡ confirmed_excess N m a
    excess_is trail a l f =
        sum_ext (field N) a.stop _ _ (λ n q.
        let z : n ≡ 0 + n = omega arith in
        squares_is trail n (omega arith)
        ∙ excess_same n _ _ _ _ (λ i p. f.u n i q p) (λ j p. f.x n j (omega arith) p)
        ∙ ap (λ k. stop_excess L k (a.made n) (lateness L 0 a.made a.start n)) z)

  -- a begin lays a trail that follows the account begun
  pub follows_begin : (start trail trail' : List Parts) → BeginGranted N s start trail trail' → Follows trail' (begun N (at N start))
  follows_begin start trail trail' b = record {
    x = λ n j l q. let z : n ≡ 0 = omega arith in
        subst (λ n. x_at N s trail' n j ≡ lateness L 0 (λ _ _. 𝟘) (at N start) n j) (sym z) (written_reads N laws _ _ (b.first j q));
    u = λ n i l q. absurd (omega arith);
  }

  -- a confirm lets the trail follow by one stop more
  module _ (made trail trail' : List Parts) (a : Account Car) (b : ConfirmGranted N s m a.stop made trail trail') (f : Follows trail a) where
    abbrev us : ℕ → ℕ → Car
    us = put a.stop (at N made) a.made

    earlier : (n t : ℕ) → n < a.stop → t < n * (nx + nu) + (nx + nu) → t < u_place s a.stop 0
    earlier n t l q = let y = suc-mul n (nx + nu) in let w = mul-le-mul_right {m = suc n} {n = a.stop} (nx + nu) l in omega arith

    old_x : (n j : ℕ) → n ≤ a.stop → j < nx → x_at N s trail' n j ≡ x_at N s trail n j
    old_x n j l q =
        elim (ℕ_discrete n a.stop) [
          | yes z ↦ ap N.reading (b.before (x_place s n j) (let y = ap (λ n. n * (nx + nu)) z in omega arith))
          | no z ↦ ap N.reading (b.before (x_place s n j) (earlier n (x_place s n j) (omega arith) (omega arith)))
        ]

    same_made : (n i : ℕ) → n < a.stop → a.made n i ≡ us n i
    same_made n i l = let ne : n ≢ a.stop = omega arith in ap (λ (f : ℕ → Car). f i) (sym (put_other a.stop (at N made) a.made n ne))

    made_here : (i : ℕ) → at N made i ≡ us a.stop i
    made_here i = ap (λ (f : ℕ → Car). f i) (sym (put_same a.stop (at N made) a.made))

    late_same : (n j : ℕ) → n ≤ a.stop → lateness L 0 a.made a.start n j ≡ lateness L 0 us a.start n j
    late_same n j l = ap (λ (f : ℕ → Car). f j) (lateness_ext L n 0 a.made us a.start (λ p i q t. same_made p i (omega arith)))

    next_late : (j : ℕ) → j < nx → x_at N s trail' (suc a.stop) j ≡ lateness L 0 us a.start (suc a.stop) j
    next_late j q =
        let e : a.stop ≡ 0 + a.stop = omega arith in
        written_reads N laws _ _ (b.lateness j q)
        ∙ ap (λ (f : ℕ → Car). f j) (next_same a.stop (at N made) (us a.stop) (x_at N s trail a.stop) (lateness L 0 us a.start a.stop)
        (λ i t. made_here i)
        (λ i t. f.x a.stop i (omega arith) t ∙ late_same a.stop i (omega arith)))
        ∙ ap (λ k. next L k (us a.stop) (lateness L 0 us a.start a.stop) j) e

    pub follows_confirm : Follows trail' (confirmed a (at N made))
    follows_confirm = record {
      x = λ n j l q. elim (ℕ_discrete n (suc a.stop)) [
        | no z ↦ old_x n j (omega arith) q ∙ f.x n j (omega arith) q ∙ late_same n j (omega arith)
        | yes z ↦ ap (λ n. x_at N s trail' n j) z ∙ next_late j q ∙ ap (λ n. lateness L 0 us a.start n j) (sym z)
      ];
      u = λ n i l q. elim (ℕ_discrete n a.stop) [
        | yes z ↦ ap (λ n. u_at N s trail' n i) z ∙ written_reads N laws _ _ (b.adjustments i q) ∙ made_here i ∙ ap (λ n. us n i) (sym z)
        | no z ↦ ap N.reading (b.before (u_place s n i) (earlier n (u_place s n i) (omega arith) (omega arith))) ∙ f.u n i (omega arith) q ∙ same_made n i (omega arith)
      ];
    }
