use Rattle.std.proofs.Common.{◌≡◌, ℕ, zero, suc, ◌+◌, ◌≤◌, List, Ok, subst, arith, rules}
use native.Mathlib.Decide.{ℕ_discrete}
use Rattle.numbers.specs.declared.Number.{Ghosts}
use Rattle.numbers.specs.declared.Parts.{Parts}
use Rattle.study_terms.specs.declared.faults.kinds.Below.{Below}
use Rattle.study_terms.specs.Calls.{square_formula, excess_formula}
use Rattle.study_terms.specs.Formulas.{Outcome, FirstFault}
use Rattle.study_terms.specs.Shapes.{Shape}
use Rattle.study_terms.specs.Sized.{shape}
use Rattle.study_terms.proofs.Working.{exits, sums_fault}
use Rattle.study_gaps.proofs.excess.excess_before.Goals as goal

-- a fault met at an earlier stop stays the first
excess_fault : {A : Type 0} (N : Ghosts A) (s : Shape) (gains trail : List Parts) (b : Below) (k n : ℕ) → n ≤ k
    → FirstFault N (excess_formula N s gains trail n) b → FirstFault N (excess_formula N s gains trail k) b
excess_fault N s gains trail b zero n l h = let z : n ≡ 0 = omega arith in subst (λ n. FirstFault N (excess_formula N s gains trail n) b) z h
excess_fault N s gains trail b (suc k) n l h =
    elim (ℕ_discrete n (suc k)) [
      | yes z ↦ subst (λ n. FirstFault N (excess_formula N s gains trail n) b) z h
      | no q ↦ sums_fault N (excess_formula N s gains trail k) (square_formula N s gains trail k) b s.nu 0 (omega arith) (excess_fault N s gains trail b k n (omega arith) h)
    ]

pub loop-stop-preserved : goal.loop-stop-preserved
loop-stop-preserved g c =
    let N = g.N.Number in
    let s = shape c.args.at.sizes in
    let z : suc c.loop-stop.stop ≡ c.loop-stop.stop + 1 = omega arith in
    subst (λ n. Outcome N (excess_formula N s c.args.gains.now c.args.trail.now n) (Ok c.in_ok-total.total)) z
    (c.in_ok-total.ensures (excess_formula N s c.args.gains.now c.args.trail.now c.loop-stop.stop) (square_formula N s c.args.gains.now c.args.trail.now c.loop-stop.stop)
    c.loop-stop.invariant (λ k y l p. search rules))

pub returns-in_err-total : goal.returns-in_err-total
returns-in_err-total g c =
    let N = g.N.Number in
    let s = shape c.args.at.sizes in
    let b = c.in_err-total.field-0.0 in
    exits N (excess_formula N s c.args.gains.now c.args.trail.now c.args.at.stop) c.from_residual.result b c.from_residual.ensures.1
    (excess_fault N s c.args.gains.now c.args.trail.now b c.args.at.stop (suc c.loop-stop.stop) (omega arith)
    (c.in_err-total.ensures (excess_formula N s c.args.gains.now c.args.trail.now c.loop-stop.stop) (square_formula N s c.args.gains.now c.args.trail.now c.loop-stop.stop)
    c.loop-stop.invariant (λ k y l p. search rules)))
