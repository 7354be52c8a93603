-- A feed read up to a place. Assumes nothing.
--
--   left l              what is left of the feed at l
--   Passes l k v m      the next line at l has the key k and the value v, and m is l after it
--   NextBlock b t n c   the next block of b is that of the train t, and ends with line n; c is b after it
use Rattle.std.specs.Prelude.{◌≡◌, ℕ, ◌+◌, ◌<◌, List, length, drop}
use Rattle.feed_types.specs.declared.keys.Key.{Key}
use Rattle.feed_types.specs.declared.types.Train.{Train}
use Rattle.feed_types.specs.Blocks.{ReadBlock}
use Rattle.feed_types.specs.Tokens.{LineAt}
use Rattle.feed_lines.specs.declared.blocks.Blocks.{Blocks}
use Rattle.feed_lines.specs.declared.lines.Lines.{Lines}

abbrev pub left : Lines → List ℕ
left l = drop l.place.at l.feed.now

pub record Passes (l : Lines) (k : Key) (value : List ℕ) (m : Lines) : Type 0 where
  pub same : m.feed.now ≡ l.feed.now
  pub line : LineAt l.feed.now l.place k value m.place

pub record NextBlock (b : Blocks) (t : Train) (n : ℕ) (c : Blocks) : Type 0 where
  pub more : b.lines.place.at < length b.lines.feed.now
  pub read : ReadBlock b.lines.feed.now b.lines.place b.sizes t c.lines.place
  pub last : n ≡ b.lines.place.line + 5
  pub same : c.lines.feed.now ≡ b.lines.feed.now
  pub sizes : c.sizes ≡ b.sizes
