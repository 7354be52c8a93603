-- The sizes of a line and of a study, and how much room its sheets need. Assumes nothing.
--
--   Shape            the last stop (end), and the numbers of states and inputs of each stop (nx, nu)
--   shape_of m       the shape of the line m
--   in_limits s      a study may have it: 1 ≤ end ≤ 24, 1 ≤ nx ≤ 4, 1 ≤ nu ≤ 3
--   same_shape s t   all three are equal
--   width s          nu + nx + 1, the length of (u, x, 1)
--   gains_need s     for each input of each stop before the last a row of `width`, then for each stop a square of nx + 1
--   scratch_need s   a square of `width`, then nx + 1 rows of `width`
--   trail_need s     lateness and adjustments of each stop before the last, then the lateness at the last
use Rattle.std.specs.Prelude.{ℕ, suc, ◌+◌, ◌*◌, Bool, ◌&&◌, ◌==◌, nat_le}
use Rattle.lines.specs.Meaning.{Meaning}

pub record Shape : Type 0 where
  pub end : ℕ
  pub nx : ℕ
  pub nu : ℕ

abbrev pub shape_of : {A : Type 0} → Meaning A → Shape
shape_of m = record { end = m.end; nx = m.nx; nu = m.nu }

abbrev pub in_limits : Shape → Bool
in_limits s = nat_le 1 s.end && nat_le s.end 24 && nat_le 1 s.nx && nat_le s.nx 4 && nat_le 1 s.nu && nat_le s.nu 3

abbrev pub same_shape : Shape → Shape → Bool
same_shape s t = s.end == t.end && s.nx == t.nx && s.nu == t.nu

abbrev pub width : Shape → ℕ
width s = s.nu + suc s.nx

abbrev pub gains_need : Shape → ℕ
gains_need s = s.end * s.nu * width s + suc s.end * suc s.nx * suc s.nx

abbrev pub scratch_need : Shape → ℕ
scratch_need s = width s * width s + suc s.nx * width s

abbrev pub trail_need : Shape → ℕ
trail_need s = s.end * (s.nx + s.nu) + s.nx
