-- Either every pivot is positive or the recursion meets a first one that is not; and what that decides. Assumes nothing.
use mathlib.Core.Path.{◌≡◌, sym, subst}
use mathlib.Core.Logic.{◌⊎◌, inl, inr, ◌↔◌}
use Prim.Native.Nat.{ℕ, zero, suc, ◌+◌, ◌-◌, ◌≤◌}
use native.Mathlib.Omega.{arith}
use native.Mathlib.Decide.{ℕ_discrete, dec_lt}
use Rattle.algebra.specs.Field.{OrderedField}
use Rattle.control.specs.Line.{Line, Lawful}
use Rattle.control.specs.Recursion.{pivot, PositivePivots, Fails}
use Rattle.control.specs.Plan.{plan}
use Rattle.control.specs.Optimality.{Cheapest}
use Rattle.control.specs.Theorems.{FailingPivot}
use Rattle.control.proofs.Sums.{first_below}
use Rattle.control.proofs.Order.{pos_or_not}
use Rattle.control.proofs.Plans.{best_plan_lem}
use Rattle.control.proofs.Detours.{detour_differs, detour_cost, none_cheapest}

module _ {K : OrderedField} (L : Line K) where
  open K use {Car, 𝟘, Pos}
  open L use {nu, end}

  decide_over : (m n : ℕ) → n + m ≡ end → PositivePivots L n ⊎ ((b : ℕ) × (i : ℕ) × (n ≤ b) × Fails L b i)
  decide_over zero n h = inl (λ s i l q v. absurd (omega arith))
  decide_over (suc m) n h =
      elim (decide_over m (suc n) (omega arith)) [
        | inr t ↦ inr (t.0, t.1, (let l = t.2 in omega arith), t.3)
        | inl later ↦ elim (first_below nu (λ i. Pos (pivot L n i)) (λ i. ¬ Pos (pivot L n i)) (λ i. pos_or_not K (pivot L n i))) [
          | inl here ↦ inl (λ s i l q v. elim (ℕ_discrete s n) [ yes e ↦ subst (λ s. Pos (pivot L s i)) (sym e) (here i v) | no p ↦ later s i (omega arith) q v ])
          | inr t ↦ inr (n, t.0, omega arith, record { stop = omega arith; input = t.1; later_stops = later; earlier_inputs = t.2; here = t.3 })
        ]
      ]

  pub decision : (n : ℕ) → n ≤ end → PositivePivots L n ⊎ ((b : ℕ) × (i : ℕ) × (n ≤ b) × Fails L b i)
  decision n h = decide_over (end - n) n (omega arith)

  first_is_one : (b i c j : ℕ) → Fails L b i → Fails L c j → (b ≡ c) × (i ≡ j)
  first_is_one b i c j f g =
      elim (dec_lt b c) [
        | yes l ↦ absurd (g.here (f.later_stops c j l g.stop g.input))
        | no p ↦ elim (dec_lt c b) [
          | yes l ↦ absurd (f.here (g.later_stops b i l f.stop f.input))
          | no q ↦ let e : b ≡ c = omega arith in (e, same_input (subst (λ s. Fails L s i) e f))
        ]
      ]
    where
      same_input : Fails L c i → i ≡ j
      same_input f =
          elim (dec_lt i j) [
            | yes l ↦ absurd (f.here (g.earlier_inputs i l))
            | no p ↦ elim (dec_lt j i) [ yes l ↦ absurd (g.here (f.earlier_inputs j l)) | no q ↦ omega arith ]
          ]

  module _ (lawful : Lawful L) where
    exactly : (n : ℕ) → n ≤ end → PositivePivots L n ↔ ((x : ℕ → Car) × (us : ℕ → ℕ → Car) × Cheapest L n x us)
    exactly n h = (
      (λ pos. let x : ℕ → Car = λ _. 𝟘 in (x, plan L n x, (best_plan_lem L lawful n x h pos).plan_cheapest)),
      (λ t. elim (decision n h) [
        | inl pos ↦ pos
        | inr f ↦ absurd (none_cheapest L lawful f.0 f.1 f.3 n f.2 t.0 (t.1, t.2))
      ]),
    )

    pub failing_pivot_lem : FailingPivot L
    failing_pivot_lem = record {
      no_cheapest = λ b i n f h. record {
        detour_differs = detour_differs L lawful b i f n h;
        detour_cost = detour_cost L lawful b i f n h;
        none_cheapest = none_cheapest L lawful b i f n h;
        not_positive = λ pos. f.here (pos b i h f.stop f.input);
      };
      first_is_one = first_is_one;
      decision = decision;
      exactly = exactly;
    }
