-- One stop: the matrices of the recursion are symmetric, and a stop with what follows is one form. Assumes nothing.
use mathlib.Core.Path.{◌≡◌, refl, sym, ap, ap₂, ◌∙◌}
use mathlib.Core.Logic.{◌≢◌}
use Prim.Native.Nat.{ℕ, zero, suc, ◌+◌, ◌-◌, ◌<◌, ◌≤◌}
use native.Mathlib.Omega.{arith}
use native.Mathlib.Decide.{ℕ_discrete}
use Rattle.algebra.specs.Field.{OrderedField}
use Rattle.control.specs.Matrix.{sum, apply, form, Symmetric}
use Rattle.control.specs.Elimination.{reduced, gap_of}
use Rattle.control.specs.Line.{Line, width, state, stacked, next, stage_cost, final_cost, Lawful}
use Rattle.control.specs.Recursion.{M_of, P_over, P, M, pivot, value, gap, stop_excess}
use Rattle.control.specs.Theorems.{OneStop}
use Rattle.control.proofs.Laws.{zero-mul}
use Rattle.control.proofs.Sums.{sum_ext, sum_one}
use Rattle.control.proofs.Lists.{join_left, join_right, join_ext}
use Rattle.control.proofs.Forms.{form_ext, form_add, congruence, congruence_symmetric, block_form}
use Rattle.control.proofs.Elimination.{reduced_form, reduced_symmetric, reduced_zero, row_gap}

module _ {K : OrderedField} (L : Line K) where
  infixl 60 ◌⊕◌
  infixl 70 ◌⊗◌
  open K use {Car, 𝟘, 𝟙, ◌⊕◌, ◌⊗◌, mul-one}
  open L use {nu, nx, end, F, G}

  pub stacked_state : (u x : ℕ → Car) (k : ℕ) → stacked L u x (nu + k) ≡ state L x k
  stacked_state u x k = join_right nu u (state L x) k

  state_one : (x : ℕ → Car) → state L x nx ≡ 𝟙
  state_one x = let e : nx ≡ nx + 0 = omega arith in ap (state L x) e ∙ join_right nx x (λ _. 𝟙) 0

  -- what reads the adjustments reads the first nu of them
  pub stacked_ext : (u v x : ℕ → Car) → ((i : ℕ) → i < nu → u i ≡ v i) → stacked L u x ≡ stacked L v x
  stacked_ext u v x h = join_ext nu u v (state L x) h

  pub next_stacked : (n : ℕ) (u v x y : ℕ → Car) → stacked L u x ≡ stacked L v y → next L n u x ≡ next L n v y
  unfolding next
  next_stacked n u v x y e = ap {B = ℕ → Car} (λ z k. sum K (width L) (λ c. F n k c ⊗ z c)) e

  pub stage_stacked : (n : ℕ) (u v x y : ℕ → Car) → stacked L u x ≡ stacked L v y → stage_cost L n u x ≡ stage_cost L n v y
  unfolding stage_cost
  stage_stacked n u v x y e = ap (form K (width L) (G n)) e

  pub gap_stacked : (n i : ℕ) (u v x y : ℕ → Car) → stacked L u x ≡ stacked L v y → gap L n i u x ≡ gap L n i v y
  unfolding gap
  gap_stacked n i u v x y e = ap (gap_of K (width L) (M L n) i) e

  -- P at n is what remains of M
  pub P_step : (n : ℕ) → n < end → P L n ≡ (λ a c. reduced K (M L n) nu (nu + a) (nu + c))
  unfolding P_over
  P_step n h = let e : end - n ≡ suc (end - suc n) = omega arith in ap (λ m. P_over L m n) e

  pub P_end : (n : ℕ) → n ≡ end → P L n ≡ G end
  unfolding P_over
  P_end n h = let e : end - n ≡ 0 = omega arith in ap (λ m. P_over L m n) e

  pub value_end : (n : ℕ) (x : ℕ → Car) → n ≡ end → value L n x ≡ final_cost L x
  unfolding value final_cost
  value_end n x h = ap (λ A. form K (suc nx) A (state L x)) (P_end n h)

  module _ (lawful : Lawful L) where
    P_over_symmetric : (m n : ℕ) → n + m ≡ end → Symmetric K (suc nx) (P_over L m n)
    unfolding P_over M_of
    P_over_symmetric zero n e a c l q = lawful.final_symmetric a c l q
    P_over_symmetric (suc m) n e a c l q =
        reduced_symmetric K (width L) (M_of L n (P_over L m (suc n)))
        (λ a c l q. ap₂ ◌⊕◌ (lawful.stage_symmetric n (omega arith) a c l q) (congruence_symmetric K (width L) (suc nx) (P_over L m (suc n)) (F n) (P_over_symmetric m (suc n) (omega arith)) a c l q))
        nu (nu + a) (nu + c) (omega arith) (omega arith)

    pub P_symmetric : (n : ℕ) → n ≤ end → Symmetric K (suc nx) (P L n)
    P_symmetric n h = P_over_symmetric (end - n) n (omega arith)

    pub M_symmetric : (n : ℕ) → n < end → Symmetric K (width L) (M L n)
    unfolding M_of
    M_symmetric n h a c l q =
        ap₂ ◌⊕◌ (lawful.stage_symmetric n h a c l q) (congruence_symmetric K (width L) (suc nx) (P L (suc n)) (F n) (P_symmetric (suc n) h) a c l q)

    -- the constant stays 1
    pub next_state : (n : ℕ) (u x : ℕ → Car) → n < end → (k : ℕ) → k < suc nx → state L (next L n u x) k ≡ apply K (width L) (F n) (stacked L u x) k
    unfolding next
    next_state n u x h k l =
        let z = stacked L u x in
        let last : apply K (width L) (F n) z nx ≡ 𝟙 =
        sum_one K (width L) (nu + nx) (λ c. F n nx c ⊗ z c) (omega arith) (λ c q p. ap (λ t. t ⊗ z c) (lawful.last_row n c h (omega arith)) ∙ zero-mul K _)
        ∙ ap₂ ◌⊗◌ (lawful.corner n h) (stacked_state u x nx ∙ state_one x)
        ∙ mul-one 𝟙 in
        elim (ℕ_discrete k nx) [
          | yes e ↦ ap (state L (apply K (width L) (F n) z)) e ∙ state_one _ ∙ sym last ∙ ap (apply K (width L) (F n) z) (sym e)
          | no p ↦ join_left nx _ _ k (omega arith)
        ]

    -- one stop and what follows, as one form
    pub stage_form : (n : ℕ) (u x : ℕ → Car) → n < end → stage_cost L n u x ⊕ value L (suc n) (next L n u x) ≡ form K (width L) (M L n) (stacked L u x)
    unfolding stage_cost value M_of
    stage_form n u x h =
        ap (λ t. form K (width L) (G n) (stacked L u x) ⊕ t)
        (form_ext K (suc nx) (P L (suc n)) (P L (suc n)) _ _ (λ a c l q. refl) (next_state n u x h)
        ∙ sym (congruence K (width L) (suc nx) (P L (suc n)) (F n) (stacked L u x)))
        ∙ sym (form_add K (width L) _ _ _)

    -- that form, as far as the elimination came
    pub stage_reduced : (n j : ℕ) (u x : ℕ → Car) → n < end → j ≤ nu → ((i : ℕ) → i < j → pivot L n i ≢ 𝟘)
        → stage_cost L n u x ⊕ value L (suc n) (next L n u x)
        ≡ form K (width L) (reduced K (M L n) j) (stacked L u x) ⊕ sum K j (λ i. pivot L n i ⊗ (gap L n i u x ⊗ gap L n i u x))
    unfolding gap
    stage_reduced n j u x h b p =
        let z = stacked L u x in
        stage_form n u x h
        ∙ reduced_form K (width L) (M L n) z j p
        ∙ ap (λ t. form K (width L) (reduced K (M L n) j) z ⊕ t)
        (sum_ext K j _ _ (λ i l. ap (λ t. pivot L n i ⊗ (t ⊗ t)) (row_gap K (width L) (M L n) (M_symmetric n h) i z (omega arith) (λ k q. p k (omega arith)))))

    pub one_stop_lem : OneStop L
    unfolding value stop_excess
    one_stop_lem n u x h p =
        let A = reduced K (M L n) nu in
        let s = M_symmetric n h in
        let d : (i : ℕ) → i < nu → pivot L n i ≢ 𝟘 = λ i. p n i (omega arith) (omega arith) in
        stage_reduced n nu u x h (omega arith) d
        ∙ ap₂ ◌⊕◌
        (block_form K nu (suc nx) A (reduced_symmetric K _ (M L n) s nu) (reduced_zero K _ (M L n) s nu (omega arith) d) (stacked L u x)
        ∙ form_ext K (suc nx) _ (P L n) _ (state L x) (λ a c l q. ap (λ B. B a c) (sym (P_step n h))) (λ k l. stacked_state u x k))
        refl
