-- When whole numbers are opened as a line, and when they are refused. Assumes nothing.
--
--   open_fault f                 the number of the refusal: 3 header, 4 length, 5 entry
--   Size most z n                z is the size n, which is 1 to `most`
--   TableHeader zs end nx nu     the list begins with these three sizes: N to 24, nx to 4, nu to 3
--   TableOpens zs end nx nu      so it does, it has the length for them, and no entry is beyond 9,999
--   TableRefused zs f            why a table is refused, in the order of the checks
--   SteadyOpens, SteadyRefused   the same of a steady line, whose header is N and whose length is 10
--   FirstBeyond j zs i           i is the first index from j on at which a number is beyond 9,999
use Rattle.std.specs.Prelude.{◌≡◌, ℕ, ◌<◌, ◌≤◌, ◌≢◌, List, length, ℤ, pos}
use Rattle.lines.specs.declared.faults.OpenFault.{OpenFault}
use Rattle.lines.specs.declared.faults.OpenFault.TheVariants.{BadHeader, BadLength, BadEntry}
use Rattle.lines.specs.Tables.{table_length}
use Rattle.lines.specs.Whole.{Small, SmallFrom, cell}

abbrev pub open_fault : OpenFault → ℕ
open_fault BadHeader = 3
open_fault BadLength = 4
open_fault (BadEntry i) = 5

pub record Size (most : ℕ) (z : ℤ) (n : ℕ) : Type 0 where
  pub is : z ≡ pos n
  pub least : 1 ≤ n
  pub within : n ≤ most

pub record FirstBeyond (j : ℕ) (zs : List ℤ) (i : ℕ) : Type 0 where
  pub from : j ≤ i
  pub inside : i < length zs
  pub beyond : ¬ Small (cell zs i)
  pub before : (k : ℕ) → j ≤ k → k < i → Small (cell zs k)

pub record TableHeader (zs : List ℤ) (end nx nu : ℕ) : Type 0 where
  pub three : 3 ≤ length zs
  pub stops : Size 24 (cell zs 0) end
  pub states : Size 4 (cell zs 1) nx
  pub inputs : Size 3 (cell zs 2) nu

pub record TableOpens (zs : List ℤ) (end nx nu : ℕ) : Type 0 where
  pub header : TableHeader zs end nx nu
  pub long : length zs ≡ table_length end nx nu
  pub small : SmallFrom 3 zs

abbrev pub TableRefused : List ℤ → OpenFault → Type 0
TableRefused zs BadHeader = (end nx nu : ℕ) → TableHeader zs end nx nu → ⊥
TableRefused zs BadLength = (end nx nu : ℕ) × (TableHeader zs end nx nu × (length zs ≢ table_length end nx nu))
TableRefused zs (BadEntry i) = (end nx nu : ℕ) × (TableHeader zs end nx nu × ((length zs ≡ table_length end nx nu) × FirstBeyond 3 zs i))

pub record SteadyHeader (zs : List ℤ) (end : ℕ) : Type 0 where
  pub one : 1 ≤ length zs
  pub stops : Size 24 (cell zs 0) end

pub record SteadyOpens (zs : List ℤ) (end : ℕ) : Type 0 where
  pub header : SteadyHeader zs end
  pub long : length zs ≡ 10
  pub small : SmallFrom 1 zs

abbrev pub SteadyRefused : List ℤ → OpenFault → Type 0
SteadyRefused zs BadHeader = (end : ℕ) → SteadyHeader zs end → ⊥
SteadyRefused zs BadLength = (end : ℕ) × (SteadyHeader zs end × (length zs ≢ 10))
SteadyRefused zs (BadEntry i) = (end : ℕ) × (SteadyHeader zs end × ((length zs ≡ 10) × FirstBeyond 1 zs i))
