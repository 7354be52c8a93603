-- Numbers worked one after the other. `value` and `find` are those of the kind. Assumes nothing.
--
--   after e f           f of the number that stands in e; a mark ends the work
--   times_whole m k t   the number k times the whole number t, worked at the place of the mark m
--   less m s k t        s − k × t, worked there
use Rattle.std.specs.Prelude.{ℕ, ℤ, Option}
use Rattle.algebra.specs.Exact.{Exact, whole_e, add_e, neg_e, mul_e}
use Rattle.lines.specs.Kinds.{entry_of}
use Rattle.lines.specs.Meaning.{Entry, holds, marked}
use Rattle.lines.specs.declared.faults.Mark.{Mark}

abbrev pub after : {A : Type 0} → Entry A → (A → Entry A) → Entry A
after (holds k) f = f k
after (marked m) f = marked m

module _ {A : Type 0} {D : ℕ} (value : A → Exact D) (find : ℤ → ℤ → ℕ → Option A) where
  abbrev pub times_whole : Mark → A → ℤ → Entry A
  times_whole m k t = after (entry_of find m (whole_e D t)) (λ v. entry_of find m (mul_e (value k) (value v)))

  abbrev pub less : Mark → A → A → ℤ → Entry A
  less m s k t = after (times_whole m k t) (λ p. entry_of find m (add_e (value s) (neg_e (value p))))
