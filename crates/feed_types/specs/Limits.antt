-- What a feed may hold: the limits of its sizes and of its trains. Assumes nothing.
--
--   GoodSizes s         the last stop is 1 to 24, there are 1 to 4 states and 1 to 3 inputs
--   letter b            the byte b may stand in a label: a capital letter or a digit
--   name l              the bytes of the label l, without its padding
--   LabelText bs        bs may be a label: 1 to 8 bytes that may stand in one
--   GoodLabel l         l is a label text and then zeros, eight bytes in all
--   Within n z          the whole number z is between -n and n
--   Factors n room zs   zs has `room` numbers within 99, and those past the first n are 0
--   GoodTrain s t       t keeps to every limit of a feed of sizes s
use Rattle.std.specs.Prelude.{◌≡◌, ℕ, zero, suc, ◌-◌, ◌≤◌, Bool, true, ◌&&◌, ◌||◌, List, [], ◌∷◌, ◌++◌, length, take, replicate, ℤ, pos, nat_le, unsigned_abs}
use Rattle.std.specs.List.{AllByRecursion}
use Rattle.feed_types.specs.declared.types.Sizes.{Sizes}
use Rattle.feed_types.specs.declared.types.Label.{Label}
use Rattle.feed_types.specs.declared.types.Train.{Train}

pub record GoodSizes (s : Sizes) : Type 0 where
  pub stops : (1 ≤ s.stops) × (s.stops ≤ 24)
  pub states : (1 ≤ s.states) × (s.states ≤ 4)
  pub inputs : (1 ≤ s.inputs) × (s.inputs ≤ 3)

abbrev pub letter : ℕ → Bool
letter b = (nat_le 65 b && nat_le b 90) || (nat_le 48 b && nat_le b 57)

-- the bytes before the first 0
abbrev pub unpadded : List ℕ → List ℕ
unpadded [] = []
unpadded (zero ∷ bs) = []
unpadded (suc b ∷ bs) = suc b ∷ unpadded bs

abbrev pub name : Label → List ℕ
name l = unpadded l.bytes

pub record LabelText (bs : List ℕ) : Type 0 where
  pub some : 1 ≤ length bs
  pub few : length bs ≤ 8
  pub letters : AllByRecursion (λ b. letter b ≡ true) bs

pub record GoodLabel (l : Label) : Type 0 where
  pub text : LabelText (name l)
  pub padded : l.bytes ≡ name l ++ replicate (8 - length (name l)) 0

abbrev pub Within : ℕ → ℤ → Type 0
Within n z = unsigned_abs z ≤ n

pub record Factors (n room : ℕ) (zs : List ℤ) : Type 0 where
  pub long : length zs ≡ room
  pub small : AllByRecursion (Within 99) zs
  pub padded : zs ≡ take n zs ++ replicate (room - n) (pos 0)

pub record GoodTrain (s : Sizes) (t : Train) : Type 0 where
  pub label : GoodLabel t.label
  pub stop : t.stop ≤ s.stops
  pub weight : (1 ≤ t.weight) × (t.weight ≤ 999)
  pub late : Factors s.states 4 t.late
  pub moves : Factors s.inputs 3 t.moves
  -- no adjustment is made at the last stop
  pub last : t.stop ≡ s.stops → AllByRecursion (λ z. z ≡ pos 0) t.moves
  pub aim : Within 999 t.aim
