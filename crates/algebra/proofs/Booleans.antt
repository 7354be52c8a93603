-- Tests joined by `&&` and `||`. Assumes nothing.
use Rattle.std.proofs.Common.{◌≡◌, Bool, true, false, ◌&&◌, ◌||◌, T, refl}

pub or_left : (a b : Bool) → T a → T (a || b)
or_left true b t = tt
or_left false b t = elim t [ ]

pub or_right : (a b : Bool) → T b → T (a || b)
or_right true b t = tt
or_right false b t = t

pub and_split : (a b : Bool) → T (a && b) → T a × T b
and_split true b t = (tt, t)
and_split false b t = elim t [ ]

pub and_join : (a b : Bool) → T a → T b → T (a && b)
and_join true b s t = t
and_join false b s t = elim s [ ]

-- tests that pass together are equal
pub same_test : (a b : Bool) → (T a → T b) → (T b → T a) → a ≡ b
same_test true true f g = refl
same_test true false f g = elim (f tt) [ ]
same_test false true f g = elim (g tt) [ ]
same_test false false f g = refl
