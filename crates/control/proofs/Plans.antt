-- The plan: positive pivots make it the one list that every other exceeds. Assumes nothing.
use mathlib.Core.Path.{◌≡◌, refl, sym, ap, ◌∙◌, subst}
use mathlib.Core.Logic.{◌⊎◌, inl, inr, ◌≢◌}
use Prim.Native.Nat.{ℕ, zero, suc, ◌+◌, ◌-◌, ◌<◌, ◌≤◌}
use native.Mathlib.Omega.{arith}
use Rattle.algebra.specs.Field.{OrderedField}
use Rattle.control.specs.Elimination.{gap_of}
use Rattle.control.specs.Line.{Line, width, state, stacked, next, Lawful, horizon, lateness, paid, cost}
use Rattle.control.specs.Recursion.{M, pivot, value, gap, stop_excess, excess, NonzeroPivots, PositivePivots}
use Rattle.control.specs.Plan.{solve, steered, steer, plan, gaps}
use Rattle.control.specs.Optimality.{Exceeds, Same, Differ, Cheapest, LeastCost}
use Rattle.control.specs.Theorems.{BestPlan, LeastAccount}
use Rattle.control.proofs.Laws.{add-sub, mul-zero, sub-zero, sub_same, zero_or, pos_ne}
use Rattle.control.proofs.Sums.{below_suc, first_below, sum_ext, sum_none}
use Rattle.control.proofs.Lists.{join_left, join_self}
use Rattle.control.proofs.Order.{square_or, sum_or, exceeds_not_both}
use Rattle.control.proofs.Gaps.{fill_keeps, fill_gap, same_gaps}
use Rattle.control.proofs.Stops.{stacked_state}
use Rattle.control.proofs.Accounts.{lateness_ext, cost_ext, account, along_a_list_lem}

module _ {K : OrderedField} (L : Line K) where
  infixl 60 ◌⊕◌
  infixl 70 ◌⊗◌
  open K use {Car, 𝟘, ◌⊕◌, ◌⊗◌, neg, add_comm, add-zero, Pos}
  open L use {nu, end}

  -- a list of adjustments that stands in front of (x, 1) already
  solve_stacked : (n : ℕ) (g x : ℕ → Car) → stacked L (solve L n g x) x ≡ solve L n g x
  unfolding solve
  solve_stacked n g x =
      join_self nu _ (state L x) (λ k. fill_keeps K (width L) (M L n) g nu (stacked L (λ _. 𝟘) x) (nu + k) (omega arith) ∙ stacked_state L (λ _. 𝟘) x k)

  pub solve_gap : (n : ℕ) (g x : ℕ → Car) (i : ℕ) → i < nu → gap L n i (solve L n g x) x ≡ g i
  unfolding gap solve
  solve_gap n g x i l = ap (gap_of K (width L) (M L n) i) (solve_stacked n g x) ∙ fill_gap K (width L) (M L n) g nu (stacked L (λ _. 𝟘) x) i l

  -- adjustments with the same gaps are the same
  pub same_adjustments : (n : ℕ) (u v x : ℕ → Car) → ((i : ℕ) → i < nu → gap L n i u x ≡ gap L n i v x) → (i : ℕ) → i < nu → u i ≡ v i
  unfolding gap
  same_adjustments n u v x h i l =
      sym (join_left nu u (state L x) i l)
      ∙ same_gaps K (width L) (M L n) nu (stacked L u x) (stacked L v x) h
      (λ k q. let e : k ≡ nu + (k - nu) = omega arith in ap (stacked L u x) e ∙ stacked_state L u x (k - nu) ∙ sym (stacked_state L v x (k - nu)) ∙ ap (stacked L v x) (sym e)) i
      ∙ join_left nu v (state L x) i l

  -- steering follows its own lateness
  pub steered_lateness : (k n : ℕ) (g : ℕ → ℕ → Car) (x : ℕ → Car) → lateness L n (steer L n g x) x k ≡ steered L n g x k
  steered_lateness zero n g x = refl
  steered_lateness (suc k) n g x = ap (next L (n + k) (steer L n g x k)) (steered_lateness k n g x)

  pub steer_gaps : (n : ℕ) (g : ℕ → ℕ → Car) (x : ℕ → Car) (k i : ℕ) → i < nu → gaps L n (steer L n g x) x k i ≡ g k i
  steer_gaps n g x k i l = ap (gap L (n + k) i (steer L n g x k)) (steered_lateness k n g x) ∙ solve_gap (n + k) (g k) (steered L n g x k) i l

  -- lists with the same gaps are the same
  pub same_lists : (k n : ℕ) (us vs : ℕ → ℕ → Car) (x : ℕ → Car) → ((j i : ℕ) → j < k → i < nu → gaps L n us x j i ≡ gaps L n vs x j i) → Same L k us vs
  same_lists zero n us vs x h = λ j i l. absurd (omega arith)
  same_lists (suc k) n us vs x h =
      let before = same_lists k n us vs x (λ j i l. h j i (omega arith)) in
      let here = same_adjustments (n + k) (us k) (vs k) (lateness L n us x k)
      (λ i l. h k i (omega arith) l ∙ sym (ap (gap L (n + k) i (vs k)) (lateness_ext L k n us vs x before))) in
      λ j i l. below_suc k (λ j. (i : ℕ) → i < nu → us j i ≡ vs j i) (λ j q i. before j i q) here j l i

  -- excess sees gaps alone
  pub excess_gaps : (k n : ℕ) (us vs : ℕ → ℕ → Car) (x y : ℕ → Car) → ((j i : ℕ) → j < k → i < nu → gaps L n us x j i ≡ gaps L n vs y j i) → excess L k n us x ≡ excess L k n vs y
  unfolding stop_excess
  excess_gaps k n us vs x y h = sum_ext K k _ _ (λ j l. sum_ext K nu _ _ (λ i q. ap (λ t. pivot L (n + j) i ⊗ (t ⊗ t)) (h j i l q)))

  plan_excess : (k n : ℕ) (x : ℕ → Car) → excess L k n (plan L n x) x ≡ 𝟘
  unfolding stop_excess
  plan_excess k n x =
      sum_none K k _ (λ j l. sum_none K nu _ (λ i q.
      ap (λ t. pivot L (n + j) i ⊗ (t ⊗ t)) (steer_gaps n (λ _ _. 𝟘) x j i q) ∙ ap (λ t. pivot L (n + j) i ⊗ t) (mul-zero K 𝟘) ∙ mul-zero K _))

  -- no excess: no gap
  excess_or : (k n : ℕ) (us : ℕ → ℕ → Car) (x : ℕ → Car) → ((j i : ℕ) → j < k → i < nu → Pos (pivot L (n + j) i))
      → (((j : ℕ) → j < k → (i : ℕ) → i < nu → gaps L n us x j i ≡ 𝟘) × (excess L k n us x ≡ 𝟘)) ⊎ Pos (excess L k n us x)
  unfolding stop_excess
  excess_or k n us x pos =
      sum_or K k _ (λ j. (i : ℕ) → i < nu → gaps L n us x j i ≡ 𝟘)
      (λ j l. sum_or K nu _ (λ i. gaps L n us x j i ≡ 𝟘) (λ i q. square_or K (pivot L (n + j) i) (gaps L n us x j i) (pos j i l q)))

  -- two lists are the same, or one place tells them apart
  pub same_or_differ : (m : ℕ) (us vs : ℕ → ℕ → Car) → Same L m us vs ⊎ Differ L m us vs
  same_or_differ m us vs =
      elim (first_below m (λ k. (i : ℕ) → i < nu → us k i ≡ vs k i) (λ k. (i : ℕ) × (i < nu) × (us k i ≢ vs k i)) stop) [
        | inl same ↦ inl (λ k i l. same k l i)
        | inr t ↦ inr (t.0, t.3.0, t.1, t.3.1, t.3.2)
      ]
    where
      stop : (k : ℕ) → ((i : ℕ) → i < nu → us k i ≡ vs k i) ⊎ ((i : ℕ) × (i < nu) × (us k i ≢ vs k i))
      stop k =
          elim (first_below nu (λ i. us k i ≡ vs k i) (λ i. us k i ≢ vs k i)
          (λ i. elim (zero_or K (us k i ⊕ neg (vs k i))) [ inl e ↦ inl (sub-zero K _ _ e) | inr p ↦ inr (λ e. p (sub_same K _ _ e)) ])) [
            | inl same ↦ inl same
            | inr t ↦ inr (t.0, t.1, t.3)
          ]

  pub nonzero : (n e : ℕ) → e ≤ end → PositivePivots L n → NonzeroPivots L n e
  nonzero n e b pos s i l q v = pos_ne K _ (pos s i l (omega arith) v)

  module _ (lawful : Lawful L) (n : ℕ) (h : n ≤ end) where
    module _ (x : ℕ → Car) (pos : PositivePivots L n) where
      plan_cost : cost L n (plan L n x) x ≡ value L n x
      plan_cost =
          along_a_list_lem L lawful n (plan L n x) x h (nonzero n end (omega arith) pos) ∙ ap (λ t. value L n x ⊕ t) (plan_excess (horizon L n) n x) ∙ add-zero _

      each_list : (us : ℕ → ℕ → Car) → Same L (horizon L n) us (plan L n x) ⊎ Exceeds K (cost L n us x) (value L n x)
      each_list us =
          elim (excess_or (horizon L n) n us x (λ j i l q. pos (n + j) i (omega arith) (omega arith) q)) [
            | inl p ↦ inl (same_lists (horizon L n) n us (plan L n x) x (λ j i l q. p.0 j l i q ∙ sym (steer_gaps n (λ _ _. 𝟘) x j i q)))
            | inr p ↦ inr (subst Pos (sym (ap (λ t. t ⊕ neg (value L n x)) (along_a_list_lem L lawful n us x h (nonzero n end (omega arith) pos) ∙ add_comm _ _) ∙ add-sub K _ _)) p)
          ]

      plan_cheapest : Cheapest L n x (plan L n x)
      plan_cheapest us d =
          elim (each_list us) [
            | inl same ↦ absurd (d.4 (sym (same d.0 d.1 d.2 d.3)))
            | inr more ↦ subst (Exceeds K (cost L n us x)) (sym plan_cost) more
          ]

      only_plan : (us : ℕ → ℕ → Car) → Cheapest L n x us → Same L (horizon L n) us (plan L n x)
      only_plan us best =
          elim (same_or_differ (horizon L n) us (plan L n x)) [
            | inl same ↦ same
            | inr d ↦ absurd (exceeds_not_both K _ _ (best (plan L n x) d) (plan_cheapest us (d.0, d.1, d.2, d.3, λ e. d.4 (sym e))))
          ]

      least_value : (v : Car) → LeastCost L n x v → v ≡ value L n x
      least_value v least = least.its_cost ∙ cost_ext L n least.list (plan L n x) x (only_plan least.list least.cheapest) ∙ plan_cost

      value_least : (v : Car) → v ≡ value L n x → LeastCost L n x v
      value_least v e = record { list = plan L n x; cheapest = plan_cheapest; its_cost = e ∙ sym plan_cost }

  pub best_plan_lem : Lawful L → BestPlan L
  best_plan_lem lawful n x h pos = record {
    plan_cost = plan_cost lawful n h x pos;
    plan_cheapest = plan_cheapest lawful n h x pos;
    only_plan = only_plan lawful n h x pos;
    each_list = each_list lawful n h x pos;
    least = λ v. (least_value lawful n h x pos v, value_least lawful n h x pos v);
  }

  pub least_account : Lawful L → LeastAccount L
  least_account lawful k n us x h pos here start least_here least_start =
      let y = lateness L n us x k in
      ap (λ t. paid L k n us x ⊕ t) (((best_plan_lem lawful (n + k) y h (λ s i l. pos s i (omega arith))).least here).0 least_here)
      ∙ account L lawful k n us x h (nonzero n (n + k) h pos)
      ∙ ap (λ t. t ⊕ excess L k n us x) (sym (((best_plan_lem lawful n x (omega arith) pos).least start).0 least_start))
