use Rattle.study_gaps.proofs.Planning.{WorkedFrom}
use Rattle.study_gaps.proofs.plan.plan_rows.Given as goal

abbrev pub invariant-loop-index : goal.invariant-loop-index
invariant-loop-index g l = WorkedFrom g.N.Number l.here l.gains l.trail l.index l.plan
