use Rattle.std.proofs.Common.{◌≡◌, ℕ, zero, suc, ◌+◌, ◌≤◌, Ok, subst, arith}
use native.Mathlib.Decide.{ℕ_discrete}
use Rattle.numbers.specs.declared.Number.{Ghosts}
use Rattle.study_terms.specs.declared.faults.kinds.Below.{Below}
use Rattle.study_terms.specs.Calls.{rows_formula, form_formula}
use Rattle.study_terms.specs.Formulas.{NumberOf, Formula, known, times, Outcome, FirstFault}
use Rattle.study_terms.proofs.Working.{exits, sums_fault}
use Rattle.study_costs.proofs.forms.form.Goals as goal

-- a fault in a row stays the first
rows_fault : {A : Type 0} (N : Ghosts A) (w : ℕ) (M : ℕ → ℕ → Formula A (NumberOf N)) (z : ℕ → NumberOf N) (b : Below) (n a : ℕ) → a ≤ n
    → FirstFault N (rows_formula N w a M z) b → FirstFault N (rows_formula N w n M z) b
rows_fault N w M z b zero a l h = let e : a ≡ 0 = omega arith in subst (λ a. FirstFault N (rows_formula N w a M z) b) e h
rows_fault N w M z b (suc n) a l h =
    elim (ℕ_discrete a (suc n)) [
      | yes e ↦ subst (λ a. FirstFault N (rows_formula N w a M z) b) e h
      | no d ↦ sums_fault N (rows_formula N w n M z) (λ c. times (times (M n c) (known (z n))) (known (z c))) b w 0 (omega arith) (rows_fault N w M z b n a (omega arith) h)
    ]

pub loop-a-preserved : goal.loop-a-preserved
loop-a-preserved g c M z h q =
    let N = g.N.Number in
    let w = c.args.width in
    let a = c.loop-a.a-counter in
    let e : suc a ≡ a + 1 = omega arith in
    subst (λ n. Outcome N (rows_formula N w n M z) (Ok c.in_ok-total.total)) e
    (c.in_ok-total.ensures (rows_formula N w a M z) (λ k. times (times (M a k) (known (z a))) (known (z k))) (c.loop-a.invariant M z h q)
    (λ k y l p.
    subst (λ x. Outcome N (times (times (M a k) (known x)) (known (z k))) y) (q a c.list-left.result (omega arith) c.list-left.ensures)
    (p (M a k) (z k) (λ o. h a k o (omega arith) l) (λ v. q k v l))))

pub returns-in_err-total : goal.returns-in_err-total
returns-in_err-total g c M z h q =
    let N = g.N.Number in
    let w = c.args.width in
    let a = c.loop-a.a-counter in
    let b = c.in_err-total.field-0.0 in
    exits N (form_formula N w M z) c.from_residual.result b c.from_residual.ensures.1
    (rows_fault N w M z b w (suc a) (omega arith)
    (c.in_err-total.ensures (rows_formula N w a M z) (λ k. times (times (M a k) (known (z a))) (known (z k))) (c.loop-a.invariant M z h q)
    (λ k y l p.
    subst (λ x. Outcome N (times (times (M a k) (known x)) (known (z k))) y) (q a c.list-left.result (omega arith) c.list-left.ensures)
    (p (M a k) (z k) (λ o. h a k o (omega arith) l) (λ v. q k v l)))))
