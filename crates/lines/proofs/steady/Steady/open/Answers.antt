use Rattle.std.proofs.Common.{◌≡◌, take, drop, sym, refl, subst, arith, rules}
use Rattle.lines.specs.Opening.{SteadyOpens}
use Rattle.lines.specs.Whole.{SmallFrom}
use Rattle.lines.specs.Steadied.{steady_unmarked, part_small}
use Rattle.lines.proofs.steady.Steady.open.Goals as goal

pub returns : goal.returns
returns g c =
    let zs = c.args.numbers.now in
    let f : c.copy_from_slice.new.self ≡ take 3 (drop 1 zs) = search rules in
    let h : c.copy_from_slice-2.new.self ≡ take 6 (drop 4 zs) = search rules in
    let opens : SteadyOpens zs c.in_ok-stops.stops = search rules in (
      opens,
      f,
      h,
      refl,
      steady_unmarked g.N.Number.value g.N.Kind.find g.met.N.Kind.finds g.met.N.Number.wholes c.in_ok-stops.stops c.copy_from_slice.new.self c.copy_from_slice-2.new.self c.args.weight
          (subst (SmallFrom 0) (sym f) (part_small 1 1 3 zs (omega arith) opens.small)) (subst (SmallFrom 0) (sym h) (part_small 1 4 6 zs (omega arith) opens.small)),
    )
