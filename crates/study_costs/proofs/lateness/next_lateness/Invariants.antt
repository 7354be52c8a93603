use Rattle.study_costs.specs.Answered.{next_at}
use Rattle.study_costs.specs.Rows.{WorkedRows}
use Rattle.study_costs.proofs.lateness.next_lateness.Given as goal

abbrev pub invariant-loop-j : goal.invariant-loop-j
invariant-loop-j g l = WorkedRows g.L.Number.Number (next_at g.L.Number.Number (g.L.Line.meaning l.line) l.at l.made l.trail) l.j l.row-items
