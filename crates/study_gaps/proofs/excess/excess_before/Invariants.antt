use Rattle.std.proofs.Common.{Ok}
use Rattle.study_terms.specs.Calls.{excess_formula}
use Rattle.study_terms.specs.Formulas.{Outcome}
use Rattle.study_terms.specs.Sized.{shape}
use Rattle.study_gaps.proofs.excess.excess_before.Given as goal

abbrev pub invariant-loop-stop : goal.invariant-loop-stop
invariant-loop-stop g l = Outcome g.N.Number (excess_formula g.N.Number (shape l.at.sizes) l.gains l.trail l.stop) (Ok l.total)
