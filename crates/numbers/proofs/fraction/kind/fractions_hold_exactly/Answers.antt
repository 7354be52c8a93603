use Rattle.numbers.specs.FractionKind.{holds_exactly}
use Rattle.numbers.proofs.fraction.kind.fractions_hold_exactly.Goals as goal

pub returns : goal.returns
returns c = holds_exactly
