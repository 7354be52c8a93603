use Rattle.std.proofs.Common.{ℕ, ◌<◌, get_or}
use Rattle.study_terms.specs.Sheets.{blank, at, Written}
use Rattle.study_costs.proofs.rows.enter.Given as goal

abbrev pub invariant-loop-j : goal.invariant-loop-j
invariant-loop-j g l = (k : ℕ) → k < l.j → Written g.N.Number (at g.N.Number l.numbers k) (get_or l.rows k blank)
