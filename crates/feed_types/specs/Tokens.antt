-- Keys and lines of a feed. Assumes nothing.
--
--   spelt k                the bytes of the key k
--   IsKey bs               bs spells a key of a feed
--   InFeed bs p            the place p lies in bs
--   HasNoLine key rest     rest does not begin with a line of this key
--   LineAt bs p k v q      the line of bs at the place p has the key k and the value v, and q is the next line's place
use Rattle.std.specs.Prelude.{◌≡◌, ℕ, ◌+◌, ◌<◌, ◌≤◌, List, ◌++◌, length, drop, codes, ◌≢◌}
use Rattle.std.specs.Str.Iter.{LacksByte}
use Rattle.feed_types.specs.declared.keys.Key.{Key}
use Rattle.feed_types.specs.declared.keys.Key.TheVariants as key
use Rattle.feed_types.specs.declared.keys.Place.{Place}
use Rattle.feed_types.specs.Text.{line}

abbrev pub spelt : Key → List ℕ
spelt key.Stops = codes "stops"
spelt key.States = codes "states"
spelt key.Inputs = codes "inputs"
spelt key.Train = codes "train"
spelt key.Stop = codes "stop"
spelt key.Weight = codes "weight"
spelt key.Late = codes "late"
spelt key.Move = codes "move"
spelt key.Aim = codes "aim"

abbrev pub IsKey : List ℕ → Type 0
IsKey bs = (k : Key) × (bs ≡ spelt k)

-- the place p lies in bs, and each line before it has a byte at least
pub record InFeed (bs : List ℕ) (p : Place) : Type 0 where
  pub within : p.at ≤ length bs
  pub lines : p.line ≤ p.at + 1

abbrev pub HasNoLine : List ℕ → List ℕ → Type 0
HasNoLine key rest = (value more : List ℕ) → LacksByte 10 value → rest ≢ line key value ++ more

pub record LineAt (bs : List ℕ) (p : Place) (k : Key) (value : List ℕ) (q : Place) : Type 0 where
  pub whole : drop p.at bs ≡ line (spelt k) value ++ drop q.at bs
  pub plain : LacksByte 10 value
  pub number : q.line ≡ p.line + 1
  pub below : p.at < q.at
  pub next : InFeed bs q
