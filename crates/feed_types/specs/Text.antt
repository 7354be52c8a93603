-- The one text of a feed. Assumes nothing.
--
--   Feed                          sizes and a list of trains
--   Good f                        its sizes and each of its trains keep to the limits
--   decimal n, signed_decimal z   the digits of a number, with no leading zero, and - before those of a negative one (the library's own)
--   commas zs                     whole numbers parted by commas (byte 44)
--   line key value                the bytes key=value and the line's end, byte 10
--   header s, block s t           the three lines of the sizes s, the six lines of the train t
--   lines f                       all lines of f: the header's, and each train's block in turn
--   text f                        these lines in a row
use Rattle.std.specs.Prelude.{ℕ, List, [], ◌∷◌, ◌++◌, map, take, ℤ, codes, decimal}
use Rattle.std.specs.List.{flat_map, join_with_byte, AllByRecursion}
use Rattle.std.specs.Fmt.{signed_decimal}
use Rattle.feed_types.specs.declared.types.Sizes.{Sizes}
use Rattle.feed_types.specs.declared.types.Train.{Train}
use Rattle.feed_types.specs.Limits.{GoodSizes, GoodTrain, name}

pub record Feed : Type 0 where
  pub sizes : Sizes
  pub trains : List Train

pub record Good (f : Feed) : Type 0 where
  pub sizes : GoodSizes f.sizes
  pub trains : AllByRecursion (GoodTrain f.sizes) f.trains

abbrev pub commas : List ℤ → List ℕ
commas zs = join_with_byte 44 (map signed_decimal zs)

abbrev pub line : List ℕ → List ℕ → List ℕ
line key value = key ++ (61 ∷ (value ++ (10 ∷ [])))

unfoldable pub header : Sizes → List (List ℕ)
header s = line (codes "stops") (decimal s.stops) ∷ line (codes "states") (decimal s.states) ∷ line (codes "inputs") (decimal s.inputs) ∷ []

unfoldable pub block : Sizes → Train → List (List ℕ)
block s t =
    line (codes "train") (name t.label)
    ∷ line (codes "stop") (decimal t.stop)
    ∷ line (codes "weight") (decimal t.weight)
    ∷ line (codes "late") (commas (take s.states t.late))
    ∷ line (codes "move") (commas (take s.inputs t.moves))
    ∷ line (codes "aim") (signed_decimal t.aim)
    ∷ []

unfoldable pub lines : Feed → List (List ℕ)
lines f = header f.sizes ++ flat_map (block f.sizes) f.trains

-- lines in a row
abbrev pub run_on : List (List ℕ) → List ℕ
run_on ls = flat_map (λ l. l) ls

abbrev pub text : Feed → List ℕ
text f = run_on (lines f)
