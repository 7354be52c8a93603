-- The line with a book of trains over the line below. Assumes nothing.
--
--   same_sizes s b               the sizes s are those of the line b
--   weighs o b                   the book has sizes, and they are those of the line: its trains count
--   Fits o b                     the book has no sizes, and so no trains, or they are those of the line
--   counting r b                 the trains of the book r that count on the line b: all where it weighs, else none
--   trains_line value find r b   the line with the book r over the line b: where the book weighs, each place of G is the entry below plus the
--                                sum over the trains of the stop; all else is as below
--   fit_fault f                  the number of the refusal: 7
use Rattle.std.specs.Prelude.{◌≡◌, ℕ, suc, ◌-◌, min, max, Bool, true, false, cond, ◌&&◌, List, [], ℤ, Some, None, Option, ◌==◌, nat_lt}
use Rattle.algebra.specs.Exact.{Exact, whole_e, add_e}
use Rattle.lines.specs.Kinds.{entry_of}
use Rattle.lines.specs.Laws.{place_mark}
use Rattle.lines.specs.Meaning.{Entry, Meaning, order}
use Rattle.lines.specs.declared.faults.Mark.{Mark}
use Rattle.aims.specs.Aimed.{raised}
use Rattle.aims.specs.Entries.{after}
use Rattle.feed_types.specs.declared.types.Sizes.{Sizes}
use Rattle.feed_types.specs.declared.types.Train.{Train}
use Rattle.feed_types.specs.Reading.{Register}
use Rattle.trains.specs.declared.faults.FitFault.{FitFault}
use Rattle.trains.specs.declared.faults.FitFault.TheVariants.{OtherSizes}
use Rattle.trains.specs.Weights.{weighed}

abbrev pub same_sizes : {A : Type 0} → Sizes → Meaning A → Bool
same_sizes s b = s.stops == b.end && s.states == b.nx && s.inputs == b.nu

abbrev pub weighs : {A : Type 0} → Option Sizes → Meaning A → Bool
weighs None b = false
weighs (Some s) b = same_sizes s b

abbrev pub Fits : {A : Type 0} → Option Sizes → Meaning A → Type 0
Fits None b = Unit {0}
Fits (Some s) b = same_sizes s b ≡ true

abbrev pub counting : {A : Type 0} → Register → Meaning A → List Train
counting r b = cond (weighs r.sizes b) r.trains []

-- the number y plus a whole number, worked at the place m
abbrev pub plus_whole : {A : Type 0} {D : ℕ} → (A → Exact D) → (ℤ → ℤ → ℕ → Option A) → Mark → A → ℤ → Entry A
plus_whole {A} {D} value find m y z = after (entry_of find m (whole_e D z)) (λ v. entry_of find m (add_e (value y) (value v)))

module _ {A : Type 0} {D : ℕ} (value : A → Exact D) (find : ℤ → ℤ → ℕ → Option A) (r : Register) (b : Meaning A) where
  -- the entry e plus a whole number, worked at the place m
  abbrev pub added : Mark → Entry A → ℤ → Entry A
  added m e z = after e (λ y. plus_whole value find m y z)

  abbrev pub trains_line : Meaning A
  trains_line = record {
    end = b.end;
    nx = b.nx;
    nu = b.nu;
    level = raised b.level;
    F = b.F;
    G = λ n a c.
        cond (weighs r.sizes b && nat_lt (max a c) (order b n))
        (added (place_mark (raised b.level) n (min a c) (max a c)) (b.G n a c) (weighed n (order b n - suc b.nx) b.nx r.trains (min a c) (max a c)))
        (b.G n a c);
  }

abbrev pub fit_fault : FitFault → ℕ
fit_fault OtherSizes = 7
