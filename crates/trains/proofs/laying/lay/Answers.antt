use Rattle.std.proofs.Common.{rules}
use Rattle.feeds.specs.Held.{held}
use Rattle.aims.specs.Aimed.{aim, aims_line}
use Rattle.aims.proofs.Aiming.{aim_states}
use Rattle.aims.proofs.Shifted.{aims_shift}
use Rattle.trains.specs.Trained.{Fits}
use Rattle.trains.proofs.Both.{fits_below, shifts_and_adds}
use Rattle.trains.proofs.laying.lay.Goals as goal

pub returns : goal.returns
returns g c =
    let b = g.L.Line.meaning c.args.aims.below in
    let v = g.L.Number.Number.value in
    let f = g.L.Number.Kind.find in
    let t = aim c.args.aims.aims in
    let fit : Fits (held c.args.book).sizes (aims_line v f t b) = search rules in (
      c.over.ensures.line,
      c.over.ensures.book,
      fits_below v f t b c.args.book.sizes fit,
      shifts_and_adds g.L.Number.Number.good v f (held c.args.book) b t
          (aims_shift g.L.Number.Number.good v f g.met.L.Number.Kind.finds t b (λ n k h. aim_states c.args.aims.aims n k h) (g.met.L.Line.lawful c.args.aims.below))
          (c.over.ensures.cost fit),
    )
