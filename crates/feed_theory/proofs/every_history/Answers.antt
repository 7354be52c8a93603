use Rattle.feed_theory.proofs.Histories.{every_history_lem}
use Rattle.feed_theory.proofs.every_history.Goals as goal

pub returns : goal.returns
returns c = every_history_lem
