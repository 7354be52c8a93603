-- A feed of which some blocks are joined. Assumes nothing.
--
--   JoinedTo bs s p b c q   the trains of the blocks of bs from the place p up to q turn the book b into c, in a feed of sizes s
--   Stuck bs s c q e        e refuses the block at q: it cannot be read, or its train cannot be joined to the book c
use Rattle.std.specs.Prelude.{◌≡◌, ℕ, ◌+◌, ◌*◌, ◌<◌, ◌⊎◌, List, ◌++◌, length, drop}
use Rattle.std.specs.List.{flat_map, AllByRecursion}
use Rattle.feed_types.specs.declared.faults.FeedFault.{FeedFault}
use Rattle.feed_types.specs.declared.keys.Place.{Place}
use Rattle.feed_types.specs.declared.types.Sizes.{Sizes}
use Rattle.feed_types.specs.declared.types.Train.{Train}
use Rattle.feed_types.specs.Blocks.{ReadBlock, BadBlock}
use Rattle.feed_types.specs.Joining.{Joined, NotJoined}
use Rattle.feed_types.specs.Limits.{GoodTrain}
use Rattle.feed_types.specs.Reading.{Register, Agreed}
use Rattle.feed_types.specs.Text.{block, run_on}
use Rattle.feed_types.specs.Tokens.{InFeed}

pub record JoinedTo (bs : List ℕ) (s : Sizes) (p : Place) (b c : Register) (q : Place) : Type 0 where
  pub trains : List Train
  pub good : AllByRecursion (GoodTrain s) trains
  pub begins : drop p.at bs ≡ run_on (flat_map (block s) trains) ++ drop q.at bs
  pub number : q.line ≡ p.line + 6 * length trains
  pub next : InFeed bs q
  pub joins : Joined b.trains trains c.trains
  pub agreed : Agreed c s

pub record Unread (bs : List ℕ) (s : Sizes) (q : Place) (e : FeedFault) : Type 0 where
  pub more : q.at < length bs
  pub bad : BadBlock s (drop q.at bs) q.line e

pub record Unjoined (bs : List ℕ) (s : Sizes) (c : Register) (q : Place) (e : FeedFault) : Type 0 where
  pub train : Train
  pub next : Place
  pub read : ReadBlock bs q s train next
  pub why : NotJoined c.trains train (q.line + 5) e

abbrev pub Stuck : List ℕ → Sizes → Register → Place → FeedFault → Type 0
Stuck bs s c q e = Unread bs s q e ⊎ Unjoined bs s c q e
