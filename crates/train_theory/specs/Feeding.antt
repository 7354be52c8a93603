-- Byte strings read in turn into a new book. Assumes nothing.
--
--   ReadInTurn texts fs b     the byte strings texts, in turn, were read into a new book, each granted or refused; fs are the feeds of the
--                             granted ones, in turn, and the book is now b
--   granted_feed bs b c r g   the feed whose text bs was granted, as a list of one; none of a refusal
--   EachOnce fs ts            the trains that occur in the feeds fs are ts, each once: no stop and label stands in ts twice, each train of ts
--                             is one of a feed, with the values that its text gives, and each stop and label of a feed stands in ts
use Rattle.std.specs.Prelude.{ℕ, List, [], ◌∷◌, ◌++◌, Ok, Err, Result}
use Rattle.std.specs.List.{ContainsAt as Has}
use Rattle.feed_types.specs.declared.faults.FeedFault.{FeedFault}
use Rattle.feed_types.specs.declared.types.Train.{Train}
use Rattle.feed_types.specs.Books.{Distinct}
use Rattle.feed_types.specs.History.{new_book}
use Rattle.feed_types.specs.Joining.{Stands}
use Rattle.feed_types.specs.Reading.{Register, Reading}
use Rattle.feed_types.specs.Text.{Feed}

abbrev pub granted_feed : (bs : List ℕ) (b c : Register) (r : Result ℕ FeedFault) → Reading bs b r c → List Feed
granted_feed bs b c (Ok n) g = g.feed ∷ []
granted_feed bs b c (Err e) g = []

pub data ReadInTurn : List (List ℕ) → List Feed → Register → Type 0 where
  none : ReadInTurn [] [] new_book
  more : {texts : List (List ℕ)} {fs : List Feed} {b c : Register} → ReadInTurn texts fs b → (bs : List ℕ) (r : Result ℕ FeedFault) (g : Reading bs b r c)
      → ReadInTurn (texts ++ (bs ∷ [])) (fs ++ granted_feed bs b c r g) c

pub record EachOnce (fs : List Feed) (ts : List Train) : Type 0 where
  pub once : Distinct ts
  pub given : (t : Train) → Has ts t → (f : Feed) × Has fs f × Has f.trains t
  pub all : (f : Feed) (t : Train) → Has fs f → Has f.trains t → (k : ℕ) × Stands ts k t
