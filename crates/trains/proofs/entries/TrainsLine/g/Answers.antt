use Rattle.std.proofs.Common.{◌≡◌, suc, ◌-◌, min, max, ◌&&◌, T, ltb, rules}
use Rattle.feeds.specs.Held.{held}
use Rattle.lines.specs.Laws.{place_mark}
use Rattle.lines.specs.Meaning.{holds, order}
use Rattle.aims.specs.Aimed.{raised}
use Rattle.trains.specs.Trained.{weighs}
use Rattle.trains.specs.Weights.{weighed}
use Rattle.trains.proofs.Factors.{word}
use Rattle.trains.proofs.Placed.{placed}
use Rattle.trains.proofs.entries.TrainsLine.g.Goals as goal

pub returns-in-Some : goal.returns-in-Some
returns-in-Some g c =
    let r = held c.args.self.now.book in
    let b = g.L.Line.meaning c.args.self.now.below in
    let n = c.args.stop in
    let low = min c.args.row c.args.column in
    let high = max c.args.row c.args.column in
    let entry : b.G n c.args.row c.args.column ≡ holds c.in_ok-entry.entry = search rules in
    let mark : c.above.result ≡ place_mark (raised b.level) n low high = search rules in
    let inside : T (weighs r.sizes b && ltb high (order b n)) = search rules in
    let sum : word c.in-Some.sum ≡ weighed n (order b n - suc b.nx) b.nx r.trains low high = search rules in
    placed g.L.Number.Number.value g.L.Number.Kind.find r b n c.args.row c.args.column c.above.result c.in_ok-entry.entry (word c.in-Some.sum) c.raise.result mark entry inside sum c.raise.ensures
