use Rattle.std.proofs.Common.{ℤ, subst, w64, to_z, of_z}
use Rattle.std.proofs.lemmas.Int.{to_z-of_z}
use Rattle.algebra.specs.Exact.{whole_e}
use Rattle.lines.specs.Kinds.{Worked}
use Rattle.lines.specs.Finding.{worked}
use Rattle.lines.proofs.worked.whole_at.Goals as goal

pub returns : goal.returns
returns g c =
    subst (λ (z : ℤ). Worked g.N.Kind.find c.args.mark (whole_e g.N.Number.radicand z) c.at_place.result) (to_z-of_z w64 c.args.w c.ranges.w)
    (worked g.N.Number.value g.N.Kind.find g.met.N.Kind.finds g.met.N.Number.same (whole_e g.N.Number.radicand (to_z w64 (of_z w64 c.args.w))) c.args.mark
    c.whole.result c.at_place.result c.whole.ensures c.at_place.ensures)
