-- What reading a feed into a book answers. Assumes nothing.
--
--   Register             what a book holds: sizes, if it has any, and trains by slot
--   key_at k             the key of line k, counting lines from 0
--   MayEnd k             a feed may end before line k: after its header, or after a whole block
--   size_at k s          the size that line k of a header gives
--   Agrees b k s         size k of s is the book's, where the book has sizes; Agreed b s: all three are
--   Starts bs k f rest   the first k lines of bs are those of the good feed f, and rest follows them
--   Before b k f         nothing refuses the first k lines of f: their sizes agree with the book, and the trains of their blocks join it
--   Refused bs b e       e is why the feed bs is refused by the book b
--   Reading bs b r c     reading the feed bs into the book b answers r, and leaves the book c
use Rattle.std.specs.Prelude.{◌≡◌, ℕ, zero, suc, ◌+◌, ◌-◌, ◌*◌, ◌/◌, ◌%◌, ◌<◌, ◌≤◌, cond, ◌≢◌, List, [], ◌∷◌, ◌++◌, length, take, Some, Ok, Err, Option, Result, nat_lt, slice_index_or}
use Rattle.std.specs.Str.Iter.{LacksByte}
use Rattle.feed_types.specs.declared.faults.FeedFault.{FeedFault}
use Rattle.feed_types.specs.declared.faults.FeedFault.TheVariants.{TooLong, NoLine, BadValue, OtherSize, OtherValues, BookFull}
use Rattle.feed_types.specs.declared.keys.Key.{Key}
use Rattle.feed_types.specs.declared.keys.Key.TheVariants as key
use Rattle.feed_types.specs.declared.types.Sizes.{Sizes}
use Rattle.feed_types.specs.declared.types.Train.{Train}
use Rattle.feed_types.specs.Books.{at, sizes_for}
use Rattle.feed_types.specs.Joining.{Stands, Absent, Joined}
use Rattle.feed_types.specs.Text.{Feed, Good, line, lines, run_on, text}
use Rattle.feed_types.specs.Tokens.{spelt, HasNoLine}

pub record Register : Type 0 where
  pub sizes : Option Sizes
  pub trains : List Train

abbrev pub header_keys : List Key
header_keys = key.Stops ∷ key.States ∷ key.Inputs ∷ []

abbrev pub block_keys : List Key
block_keys = key.Train ∷ key.Stop ∷ key.Weight ∷ key.Late ∷ key.Move ∷ key.Aim ∷ []

abbrev pub key_at : ℕ → Key
key_at k = cond (nat_lt k 3) (slice_index_or header_keys k key.Aim) (slice_index_or block_keys ((k - 3) % 6) key.Aim)

abbrev pub MayEnd : ℕ → Type 0
MayEnd k = (3 ≤ k) × ((k - 3) % 6 ≡ 0)

abbrev pub size_at : ℕ → Sizes → ℕ
size_at zero s = s.stops
size_at (suc zero) s = s.states
size_at (suc (suc k)) s = s.inputs

abbrev pub Agrees : Register → ℕ → Sizes → Type 0
Agrees b k s = (held : Sizes) → b.sizes ≡ Some held → size_at k held ≡ size_at k s

-- all three sizes agree
abbrev pub Agreed : Register → Sizes → Type 0
Agreed b s = (i : ℕ) → i < 3 → Agrees b i s

pub record Starts (bs : List ℕ) (k : ℕ) (f : Feed) (rest : List ℕ) : Type 0 where
  pub good : Good f
  pub many : k ≤ length (lines f)
  pub whole : bs ≡ run_on (take k (lines f)) ++ rest

pub record Before (b : Register) (k : ℕ) (f : Feed) : Type 0 where
  pub sizes : (i : ℕ) → i < k → i < 3 → Agrees b i f.sizes
  pub after : List Train
  pub joined : Joined b.trains (take ((k - 3) / 6) f.trains) after

-- line k is missing, has no end, or has another key
pub record LacksLine (bs : List ℕ) (b : Register) (k : ℕ) : Type 0 where
  pub feed : Feed
  pub rest : List ℕ
  pub starts : Starts bs k feed rest
  pub before : Before b k feed
  pub missing : HasNoLine (spelt (key_at k)) rest
  pub goes_on : MayEnd k → rest ≢ []

-- line k has its key, and no good feed has these lines
pub record BreaksRule (bs : List ℕ) (b : Register) (k : ℕ) : Type 0 where
  pub feed : Feed
  pub rest : List ℕ
  pub starts : Starts bs k feed rest
  pub before : Before b k feed
  pub value : List ℕ
  pub more : List ℕ
  pub plain : LacksByte 10 value
  pub begins : rest ≡ line (spelt (key_at k)) value ++ more
  pub broken : (g : Feed) → Starts bs (suc k) g more → ⊥

-- line k gives a size that is not the book's
pub record HasOtherSize (bs : List ℕ) (b : Register) (k : ℕ) : Type 0 where
  pub feed : Feed
  pub rest : List ℕ
  pub starts : Starts bs (suc k) feed rest
  pub before : Before b k feed
  pub of_header : k < 3
  pub held : Sizes
  pub has : b.sizes ≡ Some held
  pub differs : size_at k held ≢ size_at k feed.sizes

-- the blocks before block j join the book, which then holds `after`, and block j ends with line k
pub record AtBlock (bs : List ℕ) (b : Register) (k j : ℕ) : Type 0 where
  pub feed : Feed
  pub rest : List ℕ
  pub last : k ≡ 8 + 6 * j
  pub starts : Starts bs (suc k) feed rest
  pub sizes : Agreed b feed.sizes
  pub after : List Train
  pub joined : Joined b.trains (take j feed.trains) after

abbrev pub train_of : {bs : List ℕ} {b : Register} {k j : ℕ} → AtBlock bs b k j → Train
train_of {j = j} a = at a.feed.trains j

-- by the line's number, which counts from 1
abbrev pub Refused : List ℕ → Register → FeedFault → Type 0
Refused bs b TooLong = 8192 < length bs
Refused bs b (NoLine n) = (length bs ≤ 8192) × ((k : ℕ) × (n ≡ suc k) × LacksLine bs b k)
Refused bs b (BadValue n) = (length bs ≤ 8192) × ((k : ℕ) × (n ≡ suc k) × BreaksRule bs b k)
Refused bs b (OtherSize n) = (length bs ≤ 8192) × ((k : ℕ) × (n ≡ suc k) × HasOtherSize bs b k)
Refused bs b (OtherValues n slot) =
    (length bs ≤ 8192) × ((k j : ℕ) × (n ≡ suc k) × (a : AtBlock bs b k j) × Stands a.after slot (train_of a) × (at a.after slot ≢ train_of a))
Refused bs b (BookFull n) =
    (length bs ≤ 8192) × ((k j : ℕ) × (n ≡ suc k) × (a : AtBlock bs b k j) × Absent a.after (train_of a) × (length a.after ≡ 64))

pub record Granted (bs : List ℕ) (b : Register) (n : ℕ) (c : Register) : Type 0 where
  pub few : length bs ≤ 8192
  pub feed : Feed
  pub good : Good feed
  pub is : bs ≡ text feed
  pub agrees : Agreed b feed.sizes
  pub joined : Joined b.trains feed.trains c.trains
  pub sizes : c.sizes ≡ sizes_for (Some feed.sizes) c.trains
  pub count : n + length b.trains ≡ length c.trains

abbrev pub Reading : List ℕ → Register → Result ℕ FeedFault → Register → Type 0
Reading bs b (Ok n) c = Granted bs b n c
Reading bs b (Err e) c = Refused bs b e × (c ≡ b)
