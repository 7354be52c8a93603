use Rattle.std.proofs.Common.{◌≡◌}
use Rattle.lines.specs.Meaning.{holds}
use Rattle.aims.specs.Aimed.{aim, corner}
use Rattle.aims.proofs.entries.Border.corner.Given as goal

abbrev pub invariant-loop-k : goal.invariant-loop-k
invariant-loop-k g l =
    let s = l.self in
    corner g.L.Number.Number.value g.L.Number.Kind.find (aim s.over.now.aims) (g.L.Line.meaning s.over.now.below) s.mark s.stop s.last s.first l.k ≡ holds l.sum
