-- Trains joined to a book, one after the other. Assumes nothing.
--
--   Stands ts k t       t stands at slot k of ts, whatever its values there
--   Absent ts t         t stands at no slot of ts
--   Joins b t c         joining the train t to the book b leaves the book c: a train that stands with the same
--                       values is counted once, a new one takes the next slot, of 64 at most
--   Joined b ts c       joining the trains ts in turn to the book b leaves the book c
--   NotJoined b t n e   e is why t, whose block ends with line n, cannot be joined to the book b
--   StandsNamed ..      a train of this stop, and of a label that these bytes spell, stands at slot k
use Rattle.std.specs.Prelude.{◌≡◌, ℕ, ◌<◌, ◌≢◌, List, [], ◌∷◌, ◌++◌, length}
use Rattle.feed_types.specs.declared.faults.FeedFault.{FeedFault}
use Rattle.feed_types.specs.declared.faults.FeedFault.TheVariants.{TooLong, NoLine, BadValue, OtherSize, OtherValues, BookFull}
use Rattle.feed_types.specs.declared.types.Train.{Train}
use Rattle.feed_types.specs.Books.{at, SameTrain}
use Rattle.feed_types.specs.Limits.{name}

abbrev pub Stands : List Train → ℕ → Train → Type 0
Stands ts k t = (k < length ts) × SameTrain (at ts k) t

abbrev pub Absent : List Train → Train → Type 0
Absent ts t = (k : ℕ) → Stands ts k t → ⊥

-- one train joined to the book b leaves the book c
pub data Joins : List Train → Train → List Train → Type 0 where
  again : {b : List Train} {t : Train} (k : ℕ) → k < length b → at b k ≡ t → Joins b t b
  new : {b : List Train} {t : Train} → Absent b t → length b < 64 → Joins b t (b ++ (t ∷ []))

pub data Joined : List Train → List Train → List Train → Type 0 where
  none : {b : List Train} → Joined b [] b
  more : {b c d : List Train} {t : Train} {ts : List Train} → Joins b t c → Joined c ts d → Joined b (t ∷ ts) d

-- the train of a block that ends with line n cannot be joined to the book b
abbrev pub NotJoined : List Train → Train → ℕ → FeedFault → Type 0
NotJoined b t n TooLong = ⊥
NotJoined b t n (NoLine m) = ⊥
NotJoined b t n (BadValue m) = ⊥
NotJoined b t n (OtherSize m) = ⊥
NotJoined b t n (OtherValues m slot) = (m ≡ n) × Stands b slot t × (at b slot ≢ t)
NotJoined b t n (BookFull m) = (m ≡ n) × Absent b t × (length b ≡ 64)

abbrev pub StandsNamed : List Train → ℕ → ℕ → List ℕ → Type 0
StandsNamed ts k stop label = (k < length ts) × ((at ts k).stop ≡ stop) × (name (at ts k).label ≡ label)
