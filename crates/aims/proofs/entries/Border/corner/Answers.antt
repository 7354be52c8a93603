use Rattle.std.proofs.Common.{min, refl, arith}
use Rattle.aims.specs.Aimed.{aim, corner, corner_less}
use Rattle.aims.proofs.Aiming.{refused_first, refused_at}
use Rattle.aims.proofs.entries.Border.corner.Goals as goal

pub returns-in_err-sum : goal.returns-in_err-sum
returns-in_err-sum g c =
    let s = c.args.self.now in
    let v = g.L.Number.Number.value in
    let f = g.L.Number.Kind.find in
    let t = aim s.over.now.aims in
    let b = g.L.Line.meaning s.over.now.below in
    refused_first (corner v f t b s.mark s.stop s.last s.first) (corner_less v f t b s.mark s.stop s.last s.first) (λ k. refl)
    (min b.nx 4) c.in_err-sum.field-0.0 c.from_residual.result c.in_err-sum.ensures c.from_residual.ensures.1

pub returns-in_err-sum-2 : goal.returns-in_err-sum-2
returns-in_err-sum-2 g c =
    let s = c.args.self.now in
    let v = g.L.Number.Number.value in
    let f = g.L.Number.Kind.find in
    let t = aim s.over.now.aims in
    let b = g.L.Line.meaning s.over.now.below in
    refused_at (corner v f t b s.mark s.stop s.last s.first) (corner_less v f t b s.mark s.stop s.last s.first) (λ k. refl)
    c.loop-k.k (min b.nx 4) c.loop-k.sum c.in_err-sum-2.field-0.0 c.from_residual-in_err-sum-2.result (omega arith) c.loop-k.invariant c.in_err-sum-2.ensures c.from_residual-in_err-sum-2.ensures.1
