-- All residuals are zero for the plan with its multipliers, and for no other lists from that start. Assumes nothing.
use mathlib.Core.Path.{◌≡◌, refl, sym, ap, ap₂, ◌∙◌}
use mathlib.Core.Logic.{◌≢◌}
use Prim.Native.Nat.{ℕ, zero, suc, ◌+◌, ◌-◌, ◌<◌, ◌≤◌}
use native.Mathlib.Omega.{arith}
use Rattle.algebra.specs.Field.{OrderedField}
use Rattle.control.specs.Matrix.{sum, apply, join}
use Rattle.control.specs.Elimination.{reduced}
use Rattle.control.specs.Line.{Line, width, state, stacked, next, Lawful, horizon, lateness}
use Rattle.control.specs.Recursion.{T, M_of, P, M, pivot, gap, NonzeroPivots}
use Rattle.control.specs.Plan.{plan}
use Rattle.control.specs.Residual.{multiplier, slope, Stationary, PlanAndMultipliers}
use Rattle.control.specs.Theorems.{ZeroResiduals}
use Rattle.control.proofs.Laws.{zero-add, zero-mul, add-mul, neg-zero, neg-neg, sub-zero, sub_same}
use Rattle.control.proofs.Sums.{sum_ext, sum_none, sum-add}
use Rattle.control.proofs.Lists.{join_left, join_ext}
use Rattle.control.proofs.Forms.{apply_product, block_apply}
use Rattle.control.proofs.Elimination.{reduced_symmetric, reduced_zero, row_gap, reduced_apply, vanishing}
use Rattle.control.proofs.Stops.{stacked_state, stacked_ext, next_stacked, gap_stacked, P_step, P_end, M_symmetric, next_state}
use Rattle.control.proofs.Plans.{steer_gaps, same_adjustments}

module _ {K : OrderedField} (L : Line K) (lawful : Lawful L) where
  infixl 60 ◌⊕◌
  infixl 70 ◌⊗◌
  open K use {Car, 𝟘, 𝟙, ◌⊕◌, ◌⊗◌, neg, add-zero}
  open L use {nu, nx, end, F, G}

  module _ (n : ℕ) (u x : ℕ → Car) (h : n < end) where
    abbrev W : ℕ
    W = width L

    abbrev z : ℕ → Car
    z = stacked L u x

    -- with the multipliers of where it leads, a slope is a row of M
    slope_row : (p : ℕ → Car) → ((k : ℕ) → k < nx → p k ≡ multiplier L (suc n) (next L n u x) k) → (a : ℕ) → a < nu + nx → slope L n u x p a ≡ apply K W (M L n) z a
    unfolding slope multiplier M_of
    slope_row p e a l =
        let q : ℕ → Car = λ k. apply K (suc nx) (P L (suc n)) (apply K W (F n) z) k in
        let at : (k : ℕ) → apply K (suc nx) (P L (suc n)) (state L (next L n u x)) k ≡ q k = λ k. sum_ext K (suc nx) _ _ (λ c v. ap (λ t. P L (suc n) k c ⊗ t) (next_state L lawful n u x h c v)) in
        sym (sum_ext K W _ _ (λ c v. add-mul K _ _ _)
        ∙ sum-add K W _ _
        ∙ ap (λ t. apply K W (G n) z a ⊕ t)
        (apply_product K W (suc nx) (λ a k. F n k a) (T L n) z a
        ∙ sum_ext K (suc nx) _ (λ k. F n k a ⊗ q k) (λ k v. ap (λ t. F n k a ⊗ t) (apply_product K W (suc nx) (P L (suc n)) (F n) z k))
        ∙ ap (λ t. sum K nx (λ k. F n k a ⊗ q k) ⊕ t) (ap (λ t. t ⊗ q nx) (lawful.last_row n a h l) ∙ zero-mul K _)
        ∙ add-zero _
        ∙ sum_ext K nx _ _ (λ k v. ap (λ t. F n k a ⊗ t) (sym (e k v ∙ at k)))))

    module _ (nonzero : (i : ℕ) → i < nu → pivot L n i ≢ 𝟘) where
      abbrev NoGap : Type 0
      NoGap = (i : ℕ) → i < nu → gap L n i u x ≡ 𝟘

      no_gap : ((a : ℕ) → a < nu → apply K W (M L n) z a ≡ 𝟘) → NoGap
      unfolding gap
      no_gap v i l =
          sym (row_gap K W (M L n) (M_symmetric L lawful n h) i z (omega arith) (λ k q. nonzero k (omega arith)))
          ∙ vanishing K W (M L n) z nu nonzero v i l

      row_reduced : NoGap → (a : ℕ) → apply K W (M L n) z a ≡ apply K W (reduced K (M L n) nu) z a
      unfolding gap
      row_reduced g =
          reduced_apply K W (M L n) z nu
          (λ i l. row_gap K W (M L n) (M_symmetric L lawful n h) i z (omega arith) (λ k q. nonzero k (omega arith)) ∙ g i l)

      row_u : NoGap → (i : ℕ) → i < nu → apply K W (M L n) z i ≡ 𝟘
      row_u g i l =
          row_reduced g i
          ∙ sum_none K W _ (λ c q. ap (λ t. t ⊗ z c) (reduced_zero K W (M L n) (M_symmetric L lawful n h) nu (omega arith) nonzero i c l q) ∙ zero-mul K _)

      row_x : NoGap → (j : ℕ) → j < nx → apply K W (M L n) z (nu + j) ≡ multiplier L n x j
      unfolding multiplier
      row_x g j l =
          let s = M_symmetric L lawful n h in
          row_reduced g (nu + j)
          ∙ block_apply K nu (suc nx) (reduced K (M L n) nu) (reduced_symmetric K _ (M L n) s nu) (reduced_zero K _ (M L n) s nu (omega arith) nonzero) z j (omega arith)
          ∙ sum_ext K (suc nx) _ _ (λ c q. ap₂ (λ A t. A j c ⊗ t) (sym (P_step L n h)) (stacked_state L u x c))

  multiplier_ext : (n : ℕ) (x y : ℕ → Car) (j : ℕ) → state L x ≡ state L y → multiplier L n x j ≡ multiplier L n y j
  unfolding multiplier
  multiplier_ext n x y j e = ap (λ s. apply K (suc nx) (P L n) s j) e

  multiplier_end : (n : ℕ) (x : ℕ → Car) (j : ℕ) → n ≡ end → multiplier L n x j ≡ apply K (suc nx) (G end) (state L x) j
  unfolding multiplier
  multiplier_end n x j e = ap (λ A. apply K (suc nx) A (state L x) j) (P_end L n e)

  -- a number whose opposite is zero
  opposite_zero : (a : Car) → 𝟘 ⊕ neg a ≡ 𝟘 → a ≡ 𝟘
  opposite_zero a e = sym (neg-neg K a) ∙ ap neg (sym (zero-add K _) ∙ e) ∙ neg-zero K

  module _ (n : ℕ) (h : n ≤ end) (nonzero : NonzeroPivots L n end) where
    abbrev m : ℕ
    m = horizon L n

    pivots_at : (k : ℕ) → k < m → (i : ℕ) → i < nu → pivot L (n + k) i ≢ 𝟘
    pivots_at k l i q = nonzero (n + k) i (omega arith) (omega arith) q

    plan_stationary : (x : ℕ → Car) → Stationary L n (plan L n x) (lateness L n (plan L n x) x) (λ k. multiplier L (n + k) (lateness L n (plan L n x) x k))
    plan_stationary x =
        let us = plan L n x in
        let xs = lateness L n us x in
        let lead : (k j : ℕ) → multiplier L (n + suc k) (xs (suc k)) j ≡ multiplier L (suc (n + k)) (xs (suc k)) j =
        λ k j. let e : n + suc k ≡ suc (n + k) = omega arith in ap (λ s. multiplier L s (xs (suc k)) j) e in
        let row : (k a : ℕ) → k < m → a < nu + nx → slope L (n + k) (us k) (xs k) (λ j. multiplier L (n + suc k) (xs (suc k)) j) a ≡ apply K (width L) (M L (n + k)) (stacked L (us k) (xs k)) a =
        λ k a l q. slope_row (n + k) (us k) (xs k) (omega arith) _ (λ j v. lead k j) a q in
        let none : (k i : ℕ) → i < nu → gap L (n + k) i (us k) (xs k) ≡ 𝟘 = steer_gaps L n (λ _ _. 𝟘) x in
        record {
          in_u = λ k i l q. sub_same K _ _ (sym (row k i l (omega arith) ∙ row_u (n + k) (us k) (xs k) (omega arith) (pivots_at k l) (none k) i q));
          in_x = λ k j l q. sub_same K _ _ (sym (row k (nu + j) l (omega arith) ∙ row_x (n + k) (us k) (xs k) (omega arith) (pivots_at k l) (none k) j q));
          at_end = λ j l. sub_same K _ _ (multiplier_end (n + m) (xs m) j (omega arith));
          moves = λ k j l q. sub_same K _ _ refl;
        }

    module _ (us xs ps : ℕ → ℕ → Car) (st : Stationary L n us xs ps) where
      moved : (k : ℕ) → k < m → state L (xs (suc k)) ≡ state L (next L (n + k) (us k) (xs k))
      moved k l = join_ext nx _ _ (λ _. 𝟙) (λ j q. sub-zero K _ _ (st.moves k j l q))

      -- the multipliers of stop n + k are those of its lateness
      abbrev Multiplied : ℕ → Type 0
      Multiplied k = (j : ℕ) → j < nx → ps k j ≡ multiplier L (n + k) (xs k) j

      row : (k : ℕ) → k < m → Multiplied (suc k) → (a : ℕ) → a < nu + nx → slope L (n + k) (us k) (xs k) (ps (suc k)) a ≡ apply K (width L) (M L (n + k)) (stacked L (us k) (xs k)) a
      row k l p =
          let e : n + suc k ≡ suc (n + k) = omega arith in
          slope_row (n + k) (us k) (xs k) (omega arith) (ps (suc k)) (λ j q. p j q ∙ ap (λ s. multiplier L s (xs (suc k)) j) e ∙ multiplier_ext _ _ _ j (moved k l))

      gapless : (k : ℕ) → k < m → Multiplied (suc k) → (i : ℕ) → i < nu → gap L (n + k) i (us k) (xs k) ≡ 𝟘
      gapless k l p =
          no_gap (n + k) (us k) (xs k) (omega arith) (pivots_at k l) (λ a q. sym (row k l p a (omega arith)) ∙ opposite_zero _ (st.in_u k a l q))

      -- from the last stop back
      multiplied : (t k : ℕ) → k + t ≡ m → Multiplied k
      multiplied zero k e j l =
          let v : m ≡ k = omega arith in
          ap (λ k. ps k j) (sym v) ∙ sub-zero K _ _ (st.at_end j l) ∙ ap (λ k. apply K (suc nx) (G end) (state L (xs k)) j) v
          ∙ sym (multiplier_end (n + k) (xs k) j (omega arith))
      multiplied (suc t) k e j l =
          let p = multiplied t (suc k) (omega arith) in
          sub-zero K _ _ (st.in_x k j (omega arith) l)
          ∙ row k (omega arith) p (nu + j) (omega arith)
          ∙ row_x (n + k) (us k) (xs k) (omega arith) (pivots_at k (omega arith)) (gapless k (omega arith) p) j l

      module _ (x : ℕ → Car) (start : (j : ℕ) → j < nx → xs 0 j ≡ x j) where
        abbrev ys : ℕ → ℕ → Car
        ys = lateness L n (plan L n x) x

        same_stop : (k : ℕ) → k < m → state L (xs k) ≡ state L (ys k) → (i : ℕ) → i < nu → us k i ≡ plan L n x k i
        same_stop k l e =
            same_adjustments L (n + k) (us k) (plan L n x k) (ys k)
            (λ i q. sym (gap_stacked L (n + k) i (us k) (us k) (xs k) (ys k) (ap (join nu (us k)) e))
            ∙ gapless k l (multiplied (m - suc k) (suc k) (omega arith)) i q
            ∙ sym (steer_gaps L n (λ _ _. 𝟘) x k i q))

        same_state : (k : ℕ) → k ≤ m → state L (xs k) ≡ state L (ys k)
        same_state zero l = join_ext nx _ _ (λ _. 𝟙) start
        same_state (suc k) l =
            let e = same_state k (omega arith) in
            moved k (omega arith)
            ∙ ap (state L) (next_stacked L (n + k) (us k) (plan L n x k) (xs k) (ys k)
            (ap (join nu (us k)) e ∙ stacked_ext L (us k) (plan L n x k) (ys k) (same_stop k (omega arith) e)))

        only_plan : PlanAndMultipliers L n x us xs ps
        only_plan = record {
          adjustments = λ k i l q. same_stop k l (same_state k (omega arith)) i q;
          states = λ k j l q. sym (join_left nx (xs k) (λ _. 𝟙) j q) ∙ ap (λ v. v j) (same_state k l) ∙ join_left nx (ys k) (λ _. 𝟙) j q;
          multipliers = λ k j l q. multiplied (m - k) k (omega arith) j q ∙ multiplier_ext (n + k) _ _ j (same_state k l);
        }

  pub zero_residuals_lem : ZeroResiduals L
  zero_residuals_lem n x h p = record {
    of_plan = plan_stationary n h p x;
    of_no_other = λ us xs ps st start. only_plan n h p us xs ps st x start;
  }
