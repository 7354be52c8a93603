-- A pivot that is not positive: the detour costs no more, so no list is cheaper than all others. Assumes nothing.
use mathlib.Core.Path.{◌≡◌, refl, sym, ap, ap₂, ◌∙◌, subst, subst₂, fun_ext}
use mathlib.Core.Logic.{◌≢◌}
use Prim.Native.Nat.{ℕ, suc, ◌+◌, ◌-◌, ◌<◌, ◌≤◌}
use native.Mathlib.Omega.{arith}
use Rattle.algebra.specs.Field.{OrderedField}
use Rattle.control.specs.Matrix.{apply, form, put}
use Rattle.control.specs.Elimination.{gap_of}
use Rattle.control.specs.Line.{Line, width, state, stacked, next, stage_cost, Lawful, horizon, lateness, paid, cost}
use Rattle.control.specs.Recursion.{M, reduced_M, pivot, value, gap, excess, Fails}
use Rattle.control.specs.Plan.{steer, gaps}
use Rattle.control.specs.Detour.{against, detour_stop, detour_from, detour}
use Rattle.control.specs.Optimality.{AtMost, Differ, Cheapest}
use Rattle.control.proofs.Laws.{add_cancel, zero-add, pos_ne}
use Rattle.control.proofs.Sums.{sum_ext}
use Rattle.control.proofs.Lists.{join_left, join_right, join_self, put_same, put_other}
use Rattle.control.proofs.Order.{change, against_nonzero, against_less, at_most_add, at_most_not}
use Rattle.control.proofs.Forms.{form_from, form_move}
use Rattle.control.proofs.Elimination.{reduced_symmetric, reduced_zero}
use Rattle.control.proofs.Gaps.{fill_keeps, fill_gap}
use Rattle.control.proofs.Stops.{stacked_state, M_symmetric, stage_reduced}
use Rattle.control.proofs.Accounts.{lateness_ext, paid_ext, cost_split, cost_first, along_a_list_lem}
use Rattle.control.proofs.Plans.{steer_gaps, excess_gaps}

module _ {K : OrderedField} (L : Line K) (lawful : Lawful L) (b i : ℕ) (f : Fails L b i) where
  infixl 60 ◌⊕◌
  infixl 70 ◌⊗◌
  open K use {Car, 𝟘, ◌⊕◌, ◌⊗◌, add_assoc, add_comm}
  open L use {nu}

  module _ (u x : ℕ → Car) where
    abbrev W : ℕ
    W = width L

    abbrev z : ℕ → Car
    z = stacked L u x

    -- the row of input i
    abbrev row : Car
    row = apply K W (reduced_M L b i) z i

    abbrev v : ℕ → Car
    v = detour_stop L b i u x

    stop_keeps : (k : ℕ) → i ≤ k → v k ≡ put i (z i ⊕ against K row) z k
    unfolding detour_stop
    stop_keeps k l = fill_keeps K W (M L b) (λ j. gap_of K W (M L b) j z) i _ k l

    stop_stacked : stacked L v x ≡ v
    stop_stacked =
        let fits = f.input in
        join_self nu v (state L x) (λ k. stop_keeps (nu + k) (omega arith) ∙ put_other i _ z (nu + k) (omega arith) ∙ stacked_state L u x k)

    stop_gap : (j : ℕ) → j < i → gap L b j v x ≡ gap L b j u x
    unfolding gap detour_stop
    stop_gap j l = ap (gap_of K W (M L b) j) stop_stacked ∙ fill_gap K W (M L b) (λ j. gap_of K W (M L b) j z) i _ j l

    -- the stop and what follows change by what one step of input i makes
    moved : stage_cost L b v x ⊕ value L (suc b) (next L b v x)
        ≡ (stage_cost L b u x ⊕ value L (suc b) (next L b u x)) ⊕ change K (against K row) row (pivot L b i)
    moved =
        let R = reduced_M L b i in
        let t = against K row in
        let fits = f.input in
        let s = M_symmetric L lawful b f.stop in
        let d : (j : ℕ) → j < i → pivot L b j ≢ 𝟘 = λ j l. pos_ne K _ (f.earlier_inputs j l) in
        let rs = reduced_symmetric K W (M L b) s i in
        let zeros = reduced_zero K W (M L b) s i (omega arith) d in
        stage_reduced L lawful b i v x f.stop (omega arith) d
        ∙ ap₂ ◌⊕◌
        (ap (form K W R) stop_stacked ∙ form_from K W i R rs zeros v (put i (z i ⊕ t) z) stop_keeps ∙ form_move K W R z i t rs (omega arith))
        (sum_ext K i _ (λ j. pivot L b j ⊗ (gap L b j u x ⊗ gap L b j u x)) (λ j l. ap (λ g. pivot L b j ⊗ (g ⊗ g)) (stop_gap j l)))
        ∙ add_assoc _ _ _ ∙ ap (λ t. form K W R z ⊕ t) (add_comm _ _) ∙ sym (add_assoc _ _ _)
        ∙ ap₂ ◌⊕◌ (sym (stage_reduced L lawful b i u x f.stop (omega arith) d)) refl

    stop_differs : u i ≢ v i
    stop_differs e =
        against_nonzero K row (add_cancel K (against K row) 𝟘 (u i)
        (add_comm _ _ ∙ ap (λ t. t ⊕ against K row) (sym (join_left nu u (state L x) i f.input)) ∙ sym (put_same i _ z) ∙ sym (stop_keeps i (omega arith)) ∙ sym e ∙ sym (zero-add K _)))

  -- a list from stop b, by its first stop and the excess after it
  from_stop : (us : ℕ → ℕ → Car) (x : ℕ → Car)
      → cost L b us x ≡ (stage_cost L b (us 0) x ⊕ value L (suc b) (next L b (us 0) x)) ⊕ excess L (horizon L (suc b)) (suc b) (λ k. us (suc k)) (next L b (us 0) x)
  from_stop us x =
      cost_first L b us x f.stop
      ∙ ap (λ t. stage_cost L b (us 0) x ⊕ t)
      (along_a_list_lem L lawful (suc b) (λ k. us (suc k)) (next L b (us 0) x) f.stop (λ s j l q v. pos_ne K _ (f.later_stops s j l q v)))
      ∙ sym (add_assoc _ _ _)

  from_cost : (us : ℕ → ℕ → Car) (x : ℕ → Car) → AtMost K (cost L b (detour_from L b i us x) x) (cost L b us x)
  from_cost us x =
      let u = us 0 in
      let v = detour_stop L b i u x in
      let y = next L b u x in
      let ts : ℕ → ℕ → Car = λ k. us (suc k) in
      let g = gaps L (suc b) ts y in
      let row = apply K (width L) (reduced_M L b i) (stacked L u x) i in
      let more : cost L b (detour_from L b i us x) x ≡ cost L b us x ⊕ change K (against K row) row (pivot L b i) =
      from_stop (detour_from L b i us x) x
      ∙ ap₂ ◌⊕◌ (moved u x)
      (excess_gaps L (horizon L (suc b)) (suc b) (steer L (suc b) g (next L b v x)) ts (next L b v x) y (λ j c l q. steer_gaps L (suc b) g (next L b v x) j c q))
      ∙ add_assoc _ _ _ ∙ ap (λ t. (stage_cost L b u x ⊕ value L (suc b) y) ⊕ t) (add_comm _ _) ∙ sym (add_assoc _ _ _)
      ∙ ap₂ ◌⊕◌ (sym (from_stop us x)) refl in
      subst (λ t. AtMost K t (cost L b us x)) (sym more) (against_less K (cost L b us x) row (pivot L b i) f.here)

  module _ (n : ℕ) (h : n ≤ b) (us : ℕ → ℕ → Car) (x : ℕ → Car) where
    -- the stops before b
    abbrev e : ℕ
    e = b - n

    abbrev rest : ℕ → ℕ → Car
    rest = detour_from L b i (λ k. us (e + k)) (lateness L n us x e)

    pub detour_differs : Differ L (horizon L n) us (detour L b i n us x)
    detour_differs =
        let q = f.stop in
        (e + 0, i, omega arith, f.input, (λ p. stop_differs (us (e + 0)) (lateness L n us x e) (p ∙ ap (λ w. w i) (join_right e us rest 0))))

    at_b : (vs : ℕ → ℕ → Car) → cost L n vs x ≡ paid L e n vs x ⊕ cost L b (λ k. vs (e + k)) (lateness L n vs x e)
    at_b vs =
        let q = f.stop in
        let z : n + e ≡ b = omega arith in
        cost_split L e n vs x (omega arith) ∙ ap (λ m. paid L e n vs x ⊕ cost L m (λ k. vs (e + k)) (lateness L n vs x e)) z

    pub detour_cost : AtMost K (cost L n (detour L b i n us x) x) (cost L n us x)
    detour_cost =
        let ds = detour L b i n us x in
        let same : (k j : ℕ) → k < e → j < nu → ds k j ≡ us k j = λ k j l q. ap (λ w. w j) (join_left e us rest k l) in
        let tail : ◌≡◌ {A = ℕ → ℕ → Car} (λ k. ds (e + k)) rest = fun_ext (join_right e us rest) in
        subst₂ (AtMost K)
        (sym (at_b ds ∙ ap₂ ◌⊕◌ (paid_ext L e n ds us x same) (ap₂ (λ vs y. cost L b vs y) tail (lateness_ext L e n ds us x same))))
        (sym (at_b us))
        (at_most_add K (paid L e n us x) _ _ (from_cost (λ k. us (e + k)) (lateness L n us x e)))

  pub none_cheapest : (n : ℕ) → n ≤ b → (x : ℕ → Car) → ¬ ((us : ℕ → ℕ → Car) × Cheapest L n x us)
  none_cheapest n h x best =
      let us = best.0 in
      at_most_not K _ _ (detour_cost n h us x) (best.1 (detour L b i n us x) (detour_differs n h us x))
