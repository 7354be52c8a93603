-- What a book of trains keeps. Assumes nothing.
--
--   at ts k          the train at slot k of ts, slots counting from 0
--   SameTrain t u    t and u are one train: stop and label tell it
--   Distinct ts      no train stands in ts twice
--   Keeps s ts       the trains of ts are within the limits of the sizes s, where there are sizes
--   sizes_for o ts   the sizes o, if there is a train: a book without trains has no sizes
use Rattle.std.specs.Prelude.{◌≡◌, ℕ, ◌<◌, List, [], ◌∷◌, length, pos, Some, None, Option, slice_index_or}
use Rattle.std.specs.List.{AllByRecursion}
use Rattle.feed_types.specs.declared.types.Sizes.{Sizes}
use Rattle.feed_types.specs.declared.types.Train.{Train}
use Rattle.feed_types.specs.Limits.{GoodSizes, GoodTrain}

-- what is read past the last slot
abbrev pub no_train : Train
no_train = record { stop = 0; label = record { bytes = [] }; weight = 0; late = []; moves = []; aim = pos 0 }

abbrev pub at : List Train → ℕ → Train
at ts k = slice_index_or ts k no_train

abbrev pub SameTrain : Train → Train → Type 0
SameTrain t u = (t.stop ≡ u.stop) × (t.label ≡ u.label)

abbrev pub Distinct : List Train → Type 0
Distinct ts = (i j : ℕ) → i < j → j < length ts → SameTrain (at ts i) (at ts j) → ⊥

abbrev pub Keeps : Option Sizes → List Train → Type 0
Keeps None ts = Unit {0}
Keeps (Some s) ts = GoodSizes s × AllByRecursion (GoodTrain s) ts

-- the sizes o, if there is a train
abbrev pub sizes_for : Option Sizes → List Train → Option Sizes
sizes_for o [] = None
sizes_for o (t ∷ ts) = o
