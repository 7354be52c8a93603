use Rattle.std.proofs.Common.{ℕ, ◌<◌, Ok, Result}
use Rattle.study_terms.specs.declared.faults.kinds.Below.{Below}
use Rattle.study_terms.specs.Formulas.{NumberOf, Formula, sums, Outcome}
use Rattle.study_terms.proofs.operations.add_terms.Given as goal

abbrev pub invariant-loop-k : goal.invariant-loop-k
invariant-loop-k g l =
    (s : Formula g.row.N.Denot (NumberOf g.N.Number)) (f : ℕ → Formula g.row.N.Denot (NumberOf g.N.Number))
    → Outcome g.N.Number s (Ok l.initial.total)
    → ((k : ℕ) (y : Result g.row.N.Denot Below) → k < l.count → goal.T-post g l.term k y → Outcome g.N.Number (f k) y)
    → Outcome g.N.Number (sums s l.k f) (Ok l.total)
