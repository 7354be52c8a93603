use Rattle.aims.specs.Aimed.{aim}
use Rattle.aims.proofs.Aiming.{aim_states}
use Rattle.aims.proofs.Shifted.{aims_shift}
use Rattle.aims.proofs.layer.Aims.cost_is_shifted.Goals as goal

pub returns : goal.returns
returns g c =
    let self = c.args.self.now in
    aims_shift g.L.Number.Number.good g.L.Number.Number.value g.L.Number.Kind.find g.met.L.Number.Kind.finds (aim self.aims) (g.L.Line.meaning self.below)
    (λ n k h. aim_states self.aims n k h) (g.met.L.Line.lawful self.below)
