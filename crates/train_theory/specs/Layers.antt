-- Layers over a line, and what they make of a cost. Assumes nothing.
--
--   Layer                         aims, from a list of them for each stop, or a book of trains, whatever its sizes
--   laid value find l b           the line with the layer l over the line b
--   piled value find ls b         the line with the layers ls over b, the lowest first
--   Cost D                        a cost at a stop, as a function of the adjustments and the lateness
--   plus_trains good b ts i n c   the cost c at stop n of the line b, with i adjustments, plus that of the trains ts
--   layer_cost good b l i n c     what the layer l makes of c: it is taken at the lateness less the aims, or the trains that count on b are added
--   piled_cost good b ls i n c    what the layers ls make of c
use Rattle.std.specs.Prelude.{ℕ, List, [], ◌∷◌, ℤ, Option}
use Rattle.algebra.specs.Exact.{Exact, Radicand, add_e}
use Rattle.lines.specs.Meaning.{Meaning}
use Rattle.aims.specs.Aimed.{aim, aims_line}
use Rattle.aims.specs.Shifting.{less_aims}
use Rattle.feed_types.specs.declared.types.Train.{Train}
use Rattle.feed_types.specs.Reading.{Register}
use Rattle.trains.specs.Adding.{book_cost}
use Rattle.trains.specs.Trained.{counting, trains_line}

pub data Layer : Type 0 where
  aims : List (List ℤ) → Layer
  trains : Register → Layer

module _ {A : Type 0} {D : ℕ} (value : A → Exact D) (find : ℤ → ℤ → ℕ → Option A) where
  abbrev pub laid : Layer → Meaning A → Meaning A
  laid (aims ts) b = aims_line value find (aim ts) b
  laid (trains r) b = trains_line value find r b

  abbrev pub piled : List Layer → Meaning A → Meaning A
  piled [] b = b
  piled (l ∷ ls) b = piled ls (laid l b)

abbrev pub Cost : ℕ → Type 0
Cost D = (ℕ → Exact D) → (ℕ → Exact D) → Exact D

module _ {A : Type 0} {D : ℕ} (good : Radicand D) (b : Meaning A) where
  abbrev pub plus_trains : List Train → ℕ → ℕ → Cost D → Cost D
  plus_trains ts i n c u x = add_e (c u x) (book_cost good b.nx i n ts u x)

  abbrev pub layer_cost : Layer → ℕ → ℕ → Cost D → Cost D
  layer_cost (aims ts) i n c u x = c u (less_aims D (aim ts) n x)
  layer_cost (trains r) i n c u x = plus_trains (counting r b) i n c u x

  abbrev pub piled_cost : List Layer → ℕ → ℕ → Cost D → Cost D
  piled_cost [] i n c = c
  piled_cost (l ∷ ls) i n c = piled_cost ls i n (layer_cost l i n c)
