use Rattle.std.proofs.Common.{◌≡◌}
use Rattle.lines.specs.Meaning.{holds}
use Rattle.aims.specs.Aimed.{aim, column}
use Rattle.aims.proofs.entries.Border.column.Given as goal

abbrev pub invariant-loop-k : goal.invariant-loop-k
invariant-loop-k g l =
    let s = l.self in
    column g.L.Number.Number.value g.L.Number.Kind.find (aim s.over.now.aims) (g.L.Line.meaning s.over.now.below) s.mark s.stop l.row s.last s.first l.k ≡ holds l.sum
