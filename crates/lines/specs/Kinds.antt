-- Which exact numbers a kind holds, as a function: so that what stands at a place where a layer works a number is a function too.
-- `value` says what exact number a value of the kind means, `find` looks for the value with given lowest parts. Assumes nothing.
--
--   Found value x o      o is the value that means x, or none and no value means x
--   Finds value find     find p q m is what is found for (p + q√D)/m in lowest parts
--   pick b f             the value f where the test b is true, else none
--   lowest_parts x   p, q and m of x in lowest parts
--   look_up find x       the value that means x, if the kind holds x
--   entry_of find m x    x as an entry: the value that means it, or the mark m where the kind does not hold it
--   Worked find m x r    r is the number that stands in that entry, or the number's fault with the mark m
use Rattle.std.specs.Prelude.{◌≡◌, ℕ, ◌*◌, ◌/◌, Bool, true, false, T, ℤ, pos, ◌*ℤ◌, Some, None, Ok, Err, Option, Result, unsigned_abs}
use Rattle.algebra.specs.Gcd.{gcd₃}
use Rattle.algebra.specs.Rational.{part}
use Rattle.algebra.specs.Exact.{Exact, exact}
use Rattle.algebra.specs.Laws.{LowestParts}
use Rattle.numbers.specs.Answers.{Held}
use Rattle.lines.specs.declared.faults.Mark.{Mark}
use Rattle.lines.specs.declared.faults.Placed.{Placed}
use Rattle.lines.specs.Meaning.{Entry, holds, marked}

abbrev pub Found : {A : Type 0} {D : ℕ} → (A → Exact D) → Exact D → Option A → Type 0
Found value x (Some k) = value k ≡ x
Found value x None = ¬ Held value x

abbrev pub Finds : {A : Type 0} {D : ℕ} → (A → Exact D) → (ℤ → ℤ → ℕ → Option A) → Type 0
Finds {A} {D} value find = (p q : ℤ) (m : ℕ) → LowestParts D p q m → Found value (exact D p q m) (find p q m)

abbrev pub pick : {A : Type 0} (b : Bool) → (T b → A) → Option A
pick true f = Some (f tt)
pick false f = None

pub record Triple : Type 0 where
  pub p : ℤ
  pub q : ℤ
  pub m : ℕ

-- the three divided by what they have in common
abbrev pub lowered : ℤ → ℤ → ℕ → Triple
lowered p q m = let g = gcd₃ (unsigned_abs p) (unsigned_abs q) m in record { p = part p g; q = part q g; m = m / g }

unfoldable pub lowest_parts : {D : ℕ} → Exact D → Triple
lowest_parts x = lowered (x.re.num *ℤ pos x.im.den) (x.im.num *ℤ pos x.re.den) (x.re.den * x.im.den)

abbrev pub look_up : {A : Type 0} {D : ℕ} → (ℤ → ℤ → ℕ → Option A) → Exact D → Option A
look_up find x = let t = lowest_parts x in find t.p t.q t.m

abbrev pub kept : {A : Type 0} → Mark → Option A → Entry A
kept m (Some k) = holds k
kept m None = marked m

unfoldable pub entry_of : {A : Type 0} {D : ℕ} → (ℤ → ℤ → ℕ → Option A) → Mark → Exact D → Entry A
entry_of find m x = kept m (look_up find x)

abbrev pub Worked : {A : Type 0} {D : ℕ} → (ℤ → ℤ → ℕ → Option A) → Mark → Exact D → Result A Placed → Type 0
Worked find m x (Ok k) = entry_of find m x ≡ holds k
Worked find m x (Err p) = (entry_of find m x ≡ marked m) × (p.mark ≡ m)
