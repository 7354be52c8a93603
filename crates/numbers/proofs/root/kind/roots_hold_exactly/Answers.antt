use Rattle.numbers.specs.RootKind.{holds_exactly}
use Rattle.numbers.proofs.root.kind.roots_hold_exactly.Goals as goal

pub returns : goal.returns
returns g c = holds_exactly _ g.R.Radicand.radicand g.R.Radicand.small
