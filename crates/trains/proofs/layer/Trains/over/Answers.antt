use Rattle.std.proofs.Common.{refl}
use Rattle.feeds.specs.Held.{held}
use Rattle.trains.proofs.Added.{trains_add}
use Rattle.trains.proofs.Bare.{bare}
use Rattle.trains.proofs.Bounded.{sums_fit}
use Rattle.trains.proofs.layer.Trains.over.Goals as goal

pub returns : goal.returns
returns g c = record {
  line = refl;
  book = refl;
  sums = sums_fit c.args.book;
  cost = λ fits. trains_add g.L.Number.Number.good g.L.Number.Number.value g.L.Number.Kind.find g.met.L.Number.Kind.finds (held c.args.book) (g.L.Line.meaning c.args.below) fits (bare c.args.book);
}
