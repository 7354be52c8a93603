use Rattle.feed_types.proofs.Equal.{same_label, same_train}
use Rattle.feed_types.proofs.types.equality_is_of_all_values.Goals as goal

pub returns : goal.returns
returns c = record { equal_labels = same_label; equal_trains = same_train }
