use Rattle.std.proofs.Common.{◌≡◌, ℕ, ◌<◌, Ok, Result}
use Rattle.study_terms.specs.declared.faults.kinds.Below.{Below}
use Rattle.study_terms.specs.Calls.{rows_formula}
use Rattle.study_terms.specs.Formulas.{NumberOf, Formula, Outcome}
use Rattle.study_costs.proofs.forms.form.Given as goal

abbrev pub invariant-loop-a : goal.invariant-loop-a
invariant-loop-a g l =
    (M : ℕ → ℕ → Formula g.row.N.Denot (NumberOf g.N.Number)) (z : ℕ → NumberOf g.N.Number)
    → ((a c : ℕ) (y : Result g.row.N.Denot Below) → a < l.width → c < l.width → goal.E-post g l.entry a c y → Outcome g.N.Number (M a c) y)
    → ((k : ℕ) (x : g.row.N.Denot) → k < l.width → goal.Z-post g l.list k x → g.N.Number.value x ≡ z k)
    → Outcome g.N.Number (rows_formula g.N.Number l.width l.a-counter M z) (Ok l.total)
