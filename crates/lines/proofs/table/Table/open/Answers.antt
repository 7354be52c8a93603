use Rattle.std.proofs.Common.{refl, rules}
use Rattle.lines.specs.Opening.{TableOpens}
use Rattle.lines.specs.Tabled.{table_unmarked}
use Rattle.lines.proofs.table.Table.open.Goals as goal

pub returns : goal.returns
returns g c =
    let zs = g.S.AsSlice.items c.args.numbers in
    let s = c.in_ok-sizes.sizes in
    let opens : TableOpens zs s.stops s.states s.inputs = search rules in
    (refl, opens, table_unmarked s.stops s.states s.inputs zs opens.small)
