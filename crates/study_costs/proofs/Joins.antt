-- A joined list past its first part. Assumes nothing.
use Rattle.std.proofs.Common.{◌≡◌, ℕ, ◌+◌, ◌-◌, ◌≤◌, ap, ◌∙◌, arith}
use Rattle.control.specs.Matrix.{join}
use Rattle.control.proofs.Lists.{join_right}

pub join_past : {A : Type 0} (m : ℕ) (f g : ℕ → A) (k : ℕ) → m ≤ k → join m f g k ≡ g (k - m)
join_past m f g k l = let e : k ≡ m + (k - m) = omega arith in ap (join m f g) e ∙ join_right m f g (k - m)
