use Rattle.feed_theory.proofs.Answering.{one_text_lem}
use Rattle.feed_theory.proofs.one_text.Goals as goal

pub returns : goal.returns
returns c = one_text_lem
