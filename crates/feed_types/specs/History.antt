-- The laws of joining, over every list of feeds that a book has taken in. Assumes nothing.
--
--   OneText             two good feeds with one text are the same feed
--   OnlyAnswer ..       reading a feed into a book has this answer, and leaves this book, and no other
--   KeepsSlots b c      every train of the book b stands at the same slot of c, with the same values
--   AgainNothing bs c   reading bs into c again finds no new train, and leaves c
--   History fs b        the feeds fs, in turn, were granted by a new book, others may have been refused between them, and the book is now b
--   Told fs b           each train stands in b once; the trains of the feeds fs stand in b with their values, and nothing else does
use Rattle.std.specs.Prelude.{◌≡◌, ℕ, ◌<◌, ◌≤◌, List, [], ◌∷◌, ◌++◌, length, None, Ok, Result}
use Rattle.std.specs.List.{ContainsAt as Has}
use Rattle.feed_types.specs.declared.faults.FeedFault.{FeedFault}
use Rattle.feed_types.specs.declared.types.Train.{Train}
use Rattle.feed_types.specs.Books.{at, Distinct}
use Rattle.feed_types.specs.Reading.{Register, Granted, Refused, Reading}
use Rattle.feed_types.specs.Text.{Feed, Good, text}

abbrev pub OneText : Type 0
OneText = (f g : Feed) → Good f → Good g → text f ≡ text g → f ≡ g

abbrev pub OnlyAnswer : List ℕ → Register → Result ℕ FeedFault → Register → Type 0
OnlyAnswer bs b r c = (q : Result ℕ FeedFault) (d : Register) → Reading bs b q d → (q ≡ r) × (d ≡ c)

abbrev pub KeepsSlots : Register → Register → Type 0
KeepsSlots b c = (k : ℕ) → k < length b.trains → (k < length c.trains) × (at c.trains k ≡ at b.trains k)

abbrev pub AgainNothing : List ℕ → Register → Type 0
AgainNothing bs c = (q : Result ℕ FeedFault) (d : Register) → Reading bs c q d → (q ≡ Ok 0) × (d ≡ c)

abbrev pub new_book : Register
new_book = record { sizes = None; trains = [] }

pub data History : List Feed → Register → Type 0 where
  start : History [] new_book
  granted : {fs : List Feed} {b c : Register} {bs : List ℕ} {n : ℕ} → History fs b → (g : Granted bs b n c) → History (fs ++ (g.feed ∷ [])) c
  refused : {fs : List Feed} {b : Register} (bs : List ℕ) (e : FeedFault) → History fs b → Refused bs b e → History fs b

pub record Told (fs : List Feed) (b : Register) : Type 0 where
  pub once : Distinct b.trains
  pub few : length b.trains ≤ 64
  pub all : (f : Feed) (t : Train) → Has fs f → Has f.trains t → Has b.trains t
  pub only : (t : Train) → Has b.trains t → (f : Feed) × Has fs f × Has f.trains t

abbrev pub EveryHistory : Type 0
EveryHistory = (fs : List Feed) (b : Register) → History fs b → Told fs b
