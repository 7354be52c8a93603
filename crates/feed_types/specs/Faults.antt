-- The refusals of feeds, each with its number and its values. Assumes nothing.
--
--   number e    the number of the refusal e
--   line_of e   the line that e names, counted from 1, if it names one
use Rattle.std.specs.Prelude.{ℕ, Some, None, Option}
use Rattle.feed_types.specs.declared.faults.FeedFault.{FeedFault}
use Rattle.feed_types.specs.declared.faults.FeedFault.TheVariants.{TooLong, NoLine, BadValue, OtherSize, OtherValues, BookFull}

abbrev pub number : FeedFault → ℕ
number TooLong = 91
number (NoLine line) = 92
number (BadValue line) = 93
number (OtherSize line) = 94
number (OtherValues line slot) = 95
number (BookFull line) = 96

abbrev pub line_of : FeedFault → Option ℕ
line_of TooLong = None
line_of (NoLine line) = Some line
line_of (BadValue line) = Some line
line_of (OtherSize line) = Some line
line_of (OtherValues line slot) = Some line
line_of (BookFull line) = Some line
