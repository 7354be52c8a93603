use Rattle.number_text.proofs.Short.{fraction_short}
use Rattle.number_text.proofs.fraction_texts_are_short.Goals as goal

pub returns : goal.returns
returns c k = fraction_short k
