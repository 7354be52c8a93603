-- The account along a list, and the parts of its cost. Assumes nothing.
use mathlib.Core.Path.{◌≡◌, refl, sym, ap, ap₂, ◌∙◌, fun_ext}
use Prim.Native.Nat.{ℕ, zero, suc, ◌+◌, ◌-◌, ◌<◌, ◌≤◌}
use native.Mathlib.Omega.{arith}
use Rattle.algebra.specs.Field.{OrderedField}
use Rattle.control.specs.Line.{Line, next, stage_cost, final_cost, Lawful, horizon, lateness, paid, cost}
use Rattle.control.specs.Recursion.{value}
use Rattle.control.specs.Optimality.{Same}
use Rattle.control.specs.Theorems.{AlongAList, Account}
use Rattle.control.proofs.Laws.{zero-add}
use Rattle.control.proofs.Sums.{sum_ext, sum_split}
use Rattle.control.proofs.Stops.{stacked_ext, next_stacked, stage_stacked, value_end, one_stop_lem}

module _ {K : OrderedField} (L : Line K) where
  infixl 60 ◌⊕◌
  open K use {Car, 𝟘, ◌⊕◌, add_assoc, add_comm}
  open L use {end}

  -- the same adjustments lead to the same lateness, at the same cost
  pub lateness_ext : (k n : ℕ) (us vs : ℕ → ℕ → Car) (x : ℕ → Car) → Same L k us vs → lateness L n us x k ≡ lateness L n vs x k
  lateness_ext zero n us vs x h = refl
  lateness_ext (suc k) n us vs x h =
      ap (next L (n + k) (us k)) (lateness_ext k n us vs x (λ j i l. h j i (omega arith)))
      ∙ next_stacked L (n + k) (us k) (vs k) _ _ (stacked_ext L (us k) (vs k) _ (λ i. h k i (omega arith)))

  pub paid_ext : (k n : ℕ) (us vs : ℕ → ℕ → Car) (x : ℕ → Car) → Same L k us vs → paid L k n us x ≡ paid L k n vs x
  paid_ext k n us vs x h =
      sum_ext K k _ _ (λ j l.
      ap (stage_cost L (n + j) (us j)) (lateness_ext j n us vs x (λ i c q. h i c (omega arith)))
      ∙ stage_stacked L (n + j) (us j) (vs j) _ _ (stacked_ext L (us j) (vs j) _ (λ i. h j i l)))

  pub cost_ext : (n : ℕ) (us vs : ℕ → ℕ → Car) (x : ℕ → Car) → Same L (horizon L n) us vs → cost L n us x ≡ cost L n vs x
  cost_ext n us vs x h = ap₂ ◌⊕◌ (paid_ext (horizon L n) n us vs x h) (ap (final_cost L) (lateness_ext (horizon L n) n us vs x h))

  lateness_split : (e k n : ℕ) (us : ℕ → ℕ → Car) (x : ℕ → Car) → lateness L n us x (e + k) ≡ lateness L (n + e) (λ j. us (e + j)) (lateness L n us x e) k
  lateness_split e zero n us x = let z : e + 0 ≡ e = omega arith in ap (lateness L n us x) z
  lateness_split e (suc k) n us x =
      let z : e + suc k ≡ suc (e + k) = omega arith in
      let t : n + (e + k) ≡ n + e + k = omega arith in
      ap (lateness L n us x) z ∙ ap₂ (λ s y. next L s (us (e + k)) y) t (lateness_split e k n us x)

  -- the first e stops, and the rest from where they lead
  pub cost_split : (e n : ℕ) (us : ℕ → ℕ → Car) (x : ℕ → Car) → n + e ≤ end → cost L n us x ≡ paid L e n us x ⊕ cost L (n + e) (λ j. us (e + j)) (lateness L n us x e)
  cost_split e n us x h =
      let m = end - (n + e) in
      let z : end - n ≡ e + m = omega arith in
      let term : ℕ → Car = λ j. stage_cost L (n + j) (us j) (lateness L n us x j) in
      ap (λ k. paid L k n us x ⊕ final_cost L (lateness L n us x k)) z
      ∙ ap₂ ◌⊕◌
      (sum_split K e m term
      ∙ ap (λ t. paid L e n us x ⊕ t) (sum_ext K m _ _ (λ k l. let t : n + (e + k) ≡ n + e + k = omega arith in ap₂ (λ s y. stage_cost L s (us (e + k)) y) t (lateness_split e k n us x))))
      (ap (final_cost L) (lateness_split e m n us x))
      ∙ add_assoc _ _ _

  pub cost_first : (n : ℕ) (us : ℕ → ℕ → Car) (x : ℕ → Car) → n < end → cost L n us x ≡ stage_cost L n (us 0) x ⊕ cost L (suc n) (λ k. us (suc k)) (next L n (us 0) x)
  cost_first n us x h =
      let z : n + 0 ≡ n = omega arith in
      let s : n + 1 ≡ suc n = omega arith in
      let tail : ◌≡◌ {A = ℕ → ℕ → Car} (λ k. us (1 + k)) (λ k. us (suc k)) = fun_ext (λ k. let t : 1 + k ≡ suc k = omega arith in ap us t) in
      cost_split 1 n us x (omega arith)
      ∙ ap₂ ◌⊕◌ (zero-add K _ ∙ ap (λ m. stage_cost L m (us 0) x) z)
      (ap₂ (λ m y. cost L m (λ k. us (1 + k)) y) s (ap (λ m. next L m (us 0) x) z) ∙ ap (λ vs. cost L (suc n) vs (next L n (us 0) x)) tail)

  module _ (lawful : Lawful L) where
    pub account : Account L
    account zero n us x h p = let e : n + 0 ≡ n = omega arith in ap (λ m. 𝟘 ⊕ value L m x) e ∙ add_comm _ _
    account (suc k) n us x h p =
        let e : n + suc k ≡ suc (n + k) = omega arith in
        let y = lateness L n us x k in
        ap (λ m. paid L (suc k) n us x ⊕ value L m (next L (n + k) (us k) y)) e
        ∙ add_assoc _ _ _
        ∙ ap (λ t. paid L k n us x ⊕ t) (one_stop_lem L lawful (n + k) (us k) y (omega arith) (λ s i l q. p s i (omega arith) (omega arith)))
        ∙ sym (add_assoc _ _ _)
        ∙ ap₂ ◌⊕◌ (account k n us x (omega arith) (λ s i l q. p s i l (omega arith))) refl
        ∙ add_assoc _ _ _

    pub along_a_list_lem : AlongAList L
    along_a_list_lem n us x h p =
        ap (λ t. paid L (horizon L n) n us x ⊕ t) (sym (value_end L (n + horizon L n) _ (omega arith)))
        ∙ account (horizon L n) n us x (omega arith) (λ s i l q. p s i l (omega arith))
