-- One line of a feed, read as a value or refused. Assumes nothing.
--
--   Counts least most bs   bs writes a number from least to most
--   Lists n room P bs      bs writes n factors, parted by commas, such that P holds of them
--   AllZero zs             every factor is 0
--   Integers most bs       bs writes a whole number between -most and most
--   BadLine k A rest n e   e refuses the line n that begins rest: it is no line of the key k, or A does not allow its value
use Rattle.std.specs.Prelude.{◌≡◌, ℕ, ◌≤◌, List, ◌++◌, take, ℤ, pos, decimal}
use Rattle.std.specs.Str.Iter.{LacksByte}
use Rattle.std.specs.Fmt.{signed_decimal}
use Rattle.std.specs.List.{AllByRecursion}
use Rattle.feed_types.specs.declared.faults.FeedFault.{FeedFault}
use Rattle.feed_types.specs.declared.faults.FeedFault.TheVariants.{TooLong, NoLine, BadValue, OtherSize, OtherValues, BookFull}
use Rattle.feed_types.specs.declared.keys.Key.{Key}
use Rattle.feed_types.specs.Limits.{Within, Factors}
use Rattle.feed_types.specs.Text.{commas, line}
use Rattle.feed_types.specs.Tokens.{spelt, HasNoLine}

abbrev pub Counts : ℕ → ℕ → List ℕ → Type 0
Counts least most bs = (n : ℕ) × (least ≤ n) × (n ≤ most) × (bs ≡ decimal n)

abbrev pub AllZero : List ℤ → Type 0
AllZero zs = AllByRecursion (λ z. z ≡ pos 0) zs

abbrev pub Lists : ℕ → ℕ → (List ℤ → Type 0) → List ℕ → Type 0
Lists n room P bs = (zs : List ℤ) × Factors n room zs × P zs × (bs ≡ commas (take n zs))

abbrev pub Integers : ℕ → List ℕ → Type 0
Integers most bs = (z : ℤ) × Within most z × (bs ≡ signed_decimal z)

pub record HasBadValue (k : Key) (Allowed : List ℕ → Type 0) (rest : List ℕ) : Type 0 where
  pub value : List ℕ
  pub more : List ℕ
  pub plain : LacksByte 10 value
  pub begins : rest ≡ line (spelt k) value ++ more
  pub broken : Allowed value → ⊥

abbrev pub BadLine : Key → (List ℕ → Type 0) → List ℕ → ℕ → FeedFault → Type 0
BadLine k Allowed rest n TooLong = ⊥
BadLine k Allowed rest n (NoLine m) = (m ≡ n) × HasNoLine (spelt k) rest
BadLine k Allowed rest n (BadValue m) = (m ≡ n) × HasBadValue k Allowed rest
BadLine k Allowed rest n (OtherSize m) = ⊥
BadLine k Allowed rest n (OtherValues m slot) = ⊥
BadLine k Allowed rest n (BookFull m) = ⊥
