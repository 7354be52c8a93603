use Rattle.std.proofs.Common.{◌≡◌, ◌+◌, ◌-◌, ◌≤◌, length, refl, subst, arith, rules}
use borrow.Rule.Slice.PartMut.{put_mid, same_len_mid}
use Rattle.study_terms.specs.Shapes.{shape_of}
use Rattle.study_terms.specs.Sheets.{x_place, u_place}
use Rattle.study_terms.specs.Sized.{shape}
use Rattle.study_terms.proofs.SameShapes.{same_shapes}
use Rattle.study_costs.proofs.SheetRows.{entered}
use Rattle.study_costs.proofs.Tested.{long_enough, just_long, told_true}
use Rattle.study_costs.proofs.TrailEntries.{confirmed}
use Rattle.study_costs.proofs.TrailParts.{next_within}
use Rattle.study_costs.proofs.confirm.confirm_at.Goals as goal

pub returns : goal.returns
returns g c =
    let N = g.L.Number.Number in
    let met = g.met.L.Number.Number in
    let m = g.L.Line.meaning c.args.line.now in
    let s = shape c.args.at.sizes in
    let same = told_true _ _ c.are_of.ensures c.if-not-are_of.false in
    let worked = c.in_ok-next.ensures in
    let p : c.lateness_place.result ≡ x_place s c.args.at.stop 0 = search rules in
    let from = c.lateness_place.result + s.nx in
    let place : from ≡ u_place s c.args.at.stop 0 = omega arith in
    let h = next_within s c.args.at.stop c.args.at.before in
    let r = subst (λ n. n ≤ length c.args.trail.now) c.trail_length.ensures c.if-trail-trail_length.false in
    let trail = c.args.trail.now in
    let between = put_mid from (from + s.nu - from) trail c.enter.new.rows in
    let u = entered N c.args.made.now from (from + s.nu) s.nu trail c.enter.new.rows refl (omega arith) c.enter.auto.rows c.enter.ensures in
    let first = same_len_mid from (from + s.nu - from) trail c.enter.new.rows c.enter.auto.rows in
    let x = entered N c.in_ok-next.next (from + s.nu) (from + s.nu + s.nx) s.nx between c.enter-2.new.rows refl (omega arith) c.enter-2.auto.rows c.enter-2.ensures in
    let second = same_len_mid (from + s.nu) (from + s.nu + s.nx - (from + s.nu)) between c.enter-2.new.rows c.enter-2.auto.rows in (
      c.next.ensures.0,
      c.next.ensures.1,
      confirmed N s trail between _ first second
          record { same = met.same; form = met.form; back = met.back; wholes = met.wholes } m c.args.at.stop from
          c.args.made.now c.in_ok-next.next place (same_shapes (shape_of m) s same)
          (same, (just_long _ _ c.if-made-sizes.false, (long_enough _ _ _ c.trail_length.ensures c.if-trail-trail_length.false, (λ j _ l. (worked j l).0))))
          worked u x,
    )
