use Rattle.std.proofs.Common.{◌≡◌, ◌-◌, ◌≤◌, ◌++◌, length, drop, refl, ◌∙◌, arith, rules}
use borrow.Rule.Slice.PartMut.{same_len_mid}
use Rattle.std.proofs.lemmas.List.{length-take-le, places}
use Rattle.study_terms.specs.Sized.{shape}
use Rattle.study_costs.proofs.SheetRows.{entered_front, zeroed}
use Rattle.study_costs.proofs.Tested.{long_enough, just_long}
use Rattle.study_costs.proofs.TrailEntries.{begun}
use Rattle.study_costs.proofs.begin.begin_trail.Goals as goal

pub returns : goal.returns
returns g c =
    let N = g.N.Number in
    let s = shape c.args.sizes in
    let need = c.trail_length-need.result in
    let trail = c.args.trail.now in
    let between = c.enter.new.rows ++ drop s.nx trail in
    let within = c.if-trail-need.false in
    let n = c.trail_length-need.ensures in
    let k = c.enter.auto.rows in
    let room : s.nx ≤ length trail = omega arith in
    let front : length c.enter.new.rows ≡ s.nx = k ∙ length-take-le s.nx trail room in
    let long : length between ≡ length trail = search (rules, places) in (
      refl,
      refl,
      begun N s trail between _ long (same_len_mid s.nx (need - s.nx) between c.fill.new.self c.fill.ensures.len) c.args.start.now need n
          (just_long _ _ c.if-start-sizes.false, long_enough _ _ _ n within) (entered_front N c.args.start.now s.nx trail c.enter.new.rows room k c.enter.ensures)
          (zeroed s.nx need between c.fill.new.self (omega arith) (omega arith) (c.fill.ensures.after (λ y e. e))),
    )
