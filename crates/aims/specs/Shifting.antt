-- What aims make of the costs, in exact numbers. Assumes nothing.
--
--   HeldStop m n              no place of G at stop n is marked
--   less_aims D t n x         the lateness x less the aims of stop n
--   Shifts good value l b t   the line l has the costs of the line b, taken at the lateness less the aims t, at every stop that it holds,
--                             the last one included; and lateness travels as on b
use Rattle.std.specs.Prelude.{◌≡◌, ℕ, ◌<◌, ℤ}
use Rattle.algebra.specs.Exact.{Exact, Radicand, whole_e, add_e, neg_e}
use Rattle.algebra.proofs.ExactField.{exact_field}
use Rattle.control.specs.Line.{next, stage_cost, final_cost}
use Rattle.lines.specs.Meaning.{holds, Meaning, InG, line_of}

abbrev pub HeldStop : {A : Type 0} → Meaning A → ℕ → Type 0
HeldStop {A} m n = (a c : ℕ) → InG m n a c → (k : A) × (m.G n a c ≡ holds k)

abbrev pub less_aims : (D : ℕ) → (ℕ → ℕ → ℤ) → ℕ → (ℕ → Exact D) → ℕ → Exact D
less_aims D t n x k = add_e (x k) (neg_e (whole_e D (t n k)))

pub record Shifts {A : Type 0} {D : ℕ} (good : Radicand D) (value : A → Exact D) (l b : Meaning A) (t : ℕ → ℕ → ℤ) : Type 0 where
  pub stage : (n : ℕ) (u x : ℕ → Exact D) → n < b.end → HeldStop l n
      → stage_cost (line_of (exact_field D good) value l) n u x ≡ stage_cost (line_of (exact_field D good) value b) n u (less_aims D t n x)
  pub final : (x : ℕ → Exact D) → HeldStop l b.end
      → final_cost (line_of (exact_field D good) value l) x ≡ final_cost (line_of (exact_field D good) value b) (less_aims D t b.end x)
  pub travel : (n : ℕ) (u x : ℕ → Exact D) (k : ℕ)
      → next (line_of (exact_field D good) value l) n u x k ≡ next (line_of (exact_field D good) value b) n u x k
