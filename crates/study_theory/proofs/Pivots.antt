-- What a weigh that passes, or that is refused for a pivot, says of the pivots of the line. Assumes nothing.
use Rattle.std.proofs.Common.{◌≡◌, ℕ, suc, ◌-◌, ◌<◌, ◌≤◌, sym, ap, subst, inl, inr, arith}
use Rattle.control.specs.Line.{Line, Lawful}
use Rattle.control.specs.Recursion.{pivot, PositivePivots, Fails}
use Rattle.control.specs.Plan.{plan}
use Rattle.control.proofs.Plans.{best_plan_lem}
use Rattle.control.proofs.Decisions.{failing_pivot_lem}
use Rattle.numbers.specs.declared.Number.{Ghosts}
use Rattle.lines.specs.Meaning.{Meaning}
use Rattle.study_terms.specs.declared.faults.kinds.Below.{Below}
use Rattle.study_terms.specs.Refusals.{Refusal, bare, pivot_refusal, large_refusal}
use Rattle.study_terms.specs.Formulas.{field}
use Rattle.study_terms.specs.Checks.{Passes, RefusedWith}
use Rattle.study_terms.specs.Sheets.{exact_line}
use Rattle.study_terms.specs.Weighing.{weigh_checks, weigh_steps, input_step, stop_steps}
use Rattle.study_theory.specs.Law.{Accepts}
use Rattle.study_theory.proofs.Outcomes.{not_both_ways}

module _ {A : Type 0} (N : Ghosts A) (m : Meaning A) where
  open field N use {Car, Pos}
  open m use {end, nu}

  abbrev L : Line (field N)
  L = exact_line N m

  -- a stop, by its place in the order of the recursion
  stop_at : (n : ℕ) → n < end → n ≡ end - suc (end - suc n)
  stop_at n h = omega arith

  pub positive_pivots : Passes N (weigh_steps N m) → PositivePivots L 0
  positive_pivots p n i z h q =
      let e = stop_at n h in
      subst (λ n. Pos (pivot L n i)) (sym e) ((p.1 (end - suc n) (omega arith) (omega arith)).1.1 i (omega arith) q).0.0

  no_test : (b i k : ℕ) → k < 14 → pivot_refusal b i ≡ bare k → ⊥
  no_test b i k l e = let z : ◌≡◌ {A = ℕ} 14 k = ap (λ (r : Refusal). r.number) e in omega arith

  no_number : (b i n t a c : ℕ) (below : Below) → pivot_refusal b i ≡ large_refusal n t a c below → ⊥
  no_number b i n t a c below e = let z : ◌≡◌ {A = ℕ} 14 15 = ap (λ (r : Refusal). r.number) e in omega arith

  -- a refusal for a pivot comes from the first one that is not positive
  pub fails : (g h b i : ℕ) → RefusedWith N (weigh_checks N m g h) (pivot_refusal b i) → Fails L b i
  fails g h b i (inl (inl t)) = absurd (no_test b i 11 (omega arith) t.1)
  fails g h b i (inl (inr (_, inl t))) = absurd (no_test b i 12 (omega arith) t.1)
  fails g h b i (inl (inr (_, inr (_, t)))) = absurd (no_test b i 13 (omega arith) t.1)
  fails g h b i (inr (_, inl t)) = absurd (no_number b i _ _ _ _ _ t.4.4.1)
  fails g h b i (inr (_, inr (_, t))) = at_stop t.0 t.2 t.3 t.4
    where
      at_input : (n j : ℕ) → RefusedWith N (input_step N m n j) (pivot_refusal b i) → (b ≡ n) × (i ≡ j) × (¬ Pos (pivot L n j))
      at_input n j (inl (inl t)) = (let e = ap (λ (r : Refusal). r.values) t.1 in cc, (let e = ap (λ (r : Refusal). r.values) t.1 in cc), t.0)
      at_input n j (inl (inr (_, t))) = absurd (no_number b i _ _ _ _ _ t.4.1)
      at_input n j (inr (_, t)) = absurd (no_number b i _ _ _ _ _ t.4.4.1)

      at_stop : (j : ℕ) → j < end → ((k : ℕ) → 0 ≤ k → k < j → Passes N (stop_steps N m (end - suc k)))
          → RefusedWith N (stop_steps N m (end - suc j)) (pivot_refusal b i) → Fails L b i
      at_stop j l p (inl t) = absurd (no_number b i _ _ _ _ _ t.4.4.1)
      at_stop j l p (inr (_, inl t)) = absurd (no_number b i _ _ _ _ _ t.4.4.1)
      at_stop j l p (inr (_, inr (_, t))) =
          let v = at_input (end - suc j) t.0 t.4 in
          let e = v.0 in
          let q = v.1 in
          let r = t.2 in
          record {
            stop = omega arith;
            input = omega arith;
            later_stops = λ n k o u w. let y = stop_at n u in subst (λ n. Pos (pivot L n k)) (sym y) ((p (end - suc n) (omega arith) (omega arith)).1.1 k (omega arith) w).0.0;
            earlier_inputs = λ k o. subst (λ n. Pos (pivot L n k)) (sym e) (t.3 k (omega arith) (omega arith)).0.0;
            here = λ y. v.2 (subst (λ n. Pos (pivot L n t.0)) e (subst (λ k. Pos (pivot L b k)) q y));
          }

  module _ (lawful : Lawful L) where
    pub accepts : Accepts N m
    accepts g h (inl p) = ((λ _. (λ _. (field N).𝟘, plan L 0 (λ _. (field N).𝟘), (best_plan_lem L lawful 0 (λ _. (field N).𝟘) (omega arith) (positive_pivots p.1)).plan_cheapest)), λ _. p)
    accepts g h (inr (b, i, r)) = (
      (λ p. absurd (not_both_ways N (weigh_checks N m g h) (pivot_refusal b i) p r)),
      λ t. absurd (((failing_pivot_lem L lawful).no_cheapest b i 0 (fails g h b i r) (omega arith)).none_cheapest t.0 (t.1, t.2)),
    )
