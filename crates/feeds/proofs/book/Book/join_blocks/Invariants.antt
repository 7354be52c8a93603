use Rattle.std.proofs.Common.{◌≡◌, ◌-◌, length}
use Rattle.feeds.specs.Held.{held}
use Rattle.feed_types.specs.Progress.{JoinedTo}
use Rattle.feeds.proofs.book.Book.join_blocks.Given as goal

abbrev pub invariant-loop-train : goal.invariant-loop-train
invariant-loop-train l = record {
  same : l.rest.lines.feed.now ≡ l.fn.rest.lines.feed.now;
  sizes : l.rest.sizes ≡ l.fn.rest.sizes;
  joined : JoinedTo l.fn.rest.lines.feed.now l.fn.rest.sizes l.fn.rest.lines.place (held l.fn.self) (held l.self) l.rest.lines.place;
}

abbrev pub decreases-loop-train : goal.decreases-loop-train
decreases-loop-train l = length l.rest.lines.feed.now - l.rest.lines.place.at
