-- Where the parts of a trail end. s is the shape of the study. Assumes nothing.
use Rattle.std.proofs.Common.{ℕ, ◌+◌, ◌*◌, ◌<◌, ◌≤◌, mul-le-mul_right, suc-mul, arith}
use Rattle.study_terms.specs.Shapes.{Shape, trail_need}

-- the adjustments at a stop before the last, and the lateness after them, end within the trail
pub next_within : (s : Shape) (n : ℕ) → n < s.end → n * (s.nx + s.nu) + s.nx + s.nu + s.nx ≤ trail_need s
next_within s n l = let h = mul-le-mul_right (s.nx + s.nu) l in let e = suc-mul n (s.nx + s.nu) in omega arith
