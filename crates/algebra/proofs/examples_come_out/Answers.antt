use Rattle.algebra.proofs.Examples.{examples, eleven_steps}
use Rattle.algebra.proofs.examples_come_out.Goals as goal

pub returns : goal.returns
returns c = (examples, eleven_steps)
