use Rattle.number_text.proofs.Short.{root_short}
use Rattle.number_text.proofs.root_texts_are_short.Goals as goal

pub returns : goal.returns
returns g c k = root_short k
