use Rattle.feeds.specs.Held.{held}
use Rattle.feed_theory.proofs.Answering.{one_text_lem}
use Rattle.feed_theory.proofs.Histories.{every_history_lem, keeps_slots, granted_again}
use Rattle.feed_theory.proofs.Only.{only_answer}
use Rattle.feeds.proofs.book.Book.read.Goals as goal

pub returns : goal.returns
returns c =
    let before = c.args.self.now in
    let after = c.take_in.new.self in
    record {
      answer = c.take_in.ensures;
      only = only_answer c.args.feed.now (held before) before.distinct c.take_in.result (held after) c.take_in.ensures;
      slots = keeps_slots c.args.feed.now (held before) (held after) c.take_in.result c.take_in.ensures;
      again = granted_again c.args.feed.now (held before) (held after) c.take_in.result after.distinct c.take_in.ensures;
      history = every_history_lem;
      text = one_text_lem;
    }
