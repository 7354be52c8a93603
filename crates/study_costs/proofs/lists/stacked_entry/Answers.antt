use Rattle.std.proofs.Common.{sym, ◌∙◌, arith}
use Rattle.control.proofs.Lists.{join_left}
use Rattle.study_costs.proofs.Joins.{join_past}
use Rattle.study_costs.proofs.lists.stacked_entry.Goals as goal

pub returns-then-place-sizes : goal.returns-then-place-sizes
returns-then-place-sizes g c = c.number_at.ensures ∙ sym (join_left c.args.sizes.inputs _ _ c.args.place (omega arith))

pub returns : goal.returns
returns g c = c.state_entry.ensures ∙ sym (join_past c.args.sizes.inputs _ _ c.args.place (omega arith))
