-- A header or a block of a feed, read whole or refused at one of its lines. Assumes nothing.
--
--   ReadSize bs p k n o m q  the line of bs at p has the key k and the size m, from 1 to n, which is o's if o has one; q is the place after it
--   BadSize k n o rest l e   e refuses the line l that begins rest: no line of the key k, no size from 1 to n, or not the size of o
--   ReadHeader bs s q        bs begins with the header of the good sizes s, which are the book's if it has any; q is the place after it
--   ReadBlock bs p s t q     the block of bs at the place p is that of the train t, which keeps to the limits of s; q is the place after it
--   NextLine s t i v         some train within the limits of s has the first i lines of t's block, and then a line of value v
--   BadBlock s rest n e      e refuses the block that begins rest, whose first line is line n: lines of it are those of some train's block,
--                            and the next one is none of its key, or none that may follow them
use Rattle.std.specs.Prelude.{◌≡◌, ℕ, ◌+◌, ◌<◌, ◌≤◌, ◌≢◌, List, [], ◌++◌, take, drop, Some, decimal, Option, slice_index_or}
use Rattle.feed_types.specs.declared.faults.FeedFault.{FeedFault}
use Rattle.feed_types.specs.declared.faults.FeedFault.TheVariants.{TooLong, NoLine, BadValue, OtherSize, OtherValues, BookFull}
use Rattle.feed_types.specs.declared.keys.Key.{Key}
use Rattle.feed_types.specs.declared.keys.Key.TheVariants.{Aim}
use Rattle.feed_types.specs.declared.keys.Place.{Place}
use Rattle.feed_types.specs.declared.types.Sizes.{Sizes}
use Rattle.feed_types.specs.declared.types.Train.{Train}
use Rattle.feed_types.specs.Fields.{BadLine, Counts}
use Rattle.feed_types.specs.Limits.{GoodSizes, GoodTrain}
use Rattle.feed_types.specs.Reading.{block_keys, size_at}
use Rattle.feed_types.specs.Text.{header, block, line, run_on}
use Rattle.feed_types.specs.Tokens.{spelt, InFeed, LineAt}

-- size k of a book that has sizes is n
abbrev pub IsHeld : Option Sizes → ℕ → ℕ → Type 0
IsHeld held k n = (s : Sizes) → held ≡ Some s → size_at k s ≡ n

pub record ReadSize (bs : List ℕ) (p : Place) (k : Key) (most : ℕ) (held : Option ℕ) (n : ℕ) (q : Place) : Type 0 where
  pub low : 1 ≤ n
  pub high : n ≤ most
  pub agrees : (m : ℕ) → held ≡ Some m → m ≡ n
  pub line : LineAt bs p k (decimal n) q

pub record NotHeld (k : Key) (most : ℕ) (held : Option ℕ) (rest : List ℕ) : Type 0 where
  pub size : ℕ
  pub low : 1 ≤ size
  pub high : size ≤ most
  pub more : List ℕ
  pub begins : rest ≡ line (spelt k) (decimal size) ++ more
  pub other : ℕ
  pub has : held ≡ Some other
  pub differs : other ≢ size

abbrev pub BadSize : Key → ℕ → Option ℕ → List ℕ → ℕ → FeedFault → Type 0
BadSize k most held rest n TooLong = ⊥
BadSize k most held rest n (NoLine m) = BadLine k (Counts 1 most) rest n (NoLine m)
BadSize k most held rest n (BadValue m) = BadLine k (Counts 1 most) rest n (BadValue m)
BadSize k most held rest n (OtherSize m) = (m ≡ n) × NotHeld k most held rest
BadSize k most held rest n (OtherValues m slot) = ⊥
BadSize k most held rest n (BookFull m) = ⊥

pub record ReadHeader (bs : List ℕ) (held : Option Sizes) (s : Sizes) (q : Place) : Type 0 where
  pub good : GoodSizes s
  pub agrees : (i : ℕ) → i < 3 → IsHeld held i (size_at i s)
  pub whole : bs ≡ run_on (header s) ++ drop q.at bs
  pub number : q.line ≡ 4
  pub next : InFeed bs q

pub record ReadBlock (bs : List ℕ) (p : Place) (s : Sizes) (t : Train) (q : Place) : Type 0 where
  pub good : GoodTrain s t
  pub whole : drop p.at bs ≡ run_on (block s t) ++ drop q.at bs
  pub number : q.line ≡ p.line + 6
  pub below : p.at < q.at
  pub next : InFeed bs q

pub record NextLine (s : Sizes) (t : Train) (i : ℕ) (v : List ℕ) : Type 0 where
  pub train : Train
  pub good : GoodTrain s train
  pub same : take i (block s train) ≡ take i (block s t)
  pub next : slice_index_or (block s train) i [] ≡ line (spelt (slice_index_or block_keys i Aim)) v

pub record BadBlock (s : Sizes) (rest : List ℕ) (n : ℕ) (e : FeedFault) : Type 0 where
  pub i : ℕ
  pub inside : i < 6
  pub train : Train
  pub good : GoodTrain s train
  pub left : List ℕ
  pub begins : rest ≡ run_on (take i (block s train)) ++ left
  pub bad : BadLine (slice_index_or block_keys i Aim) (NextLine s train i) left (n + i) e
