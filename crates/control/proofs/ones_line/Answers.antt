use Rattle.control.proofs.Example.{ones_line_lem}
use Rattle.control.proofs.ones_line.Goals as goal

pub returns : goal.returns
returns c = ones_line_lem
