-- Worked examples of exact numbers. Assumes nothing.
--
--   Examples      ((1 + √5)/2)² = (3 + √5)/2, its inverse is (−1 + √5)/2, 1/6 + 1/3 = 1/2;
--                 (3 − √5)/2 is positive, (1 − √5)/2 is not
--   step P        1 + P − P²/(1 + P), one stop of the plainest line
--   ElevenSteps   eleven steps from 1 give 46368/28657, in fractions and in numbers with √5 alike
use Rattle.std.specs.Prelude.{◌≡◌, ℕ, zero, suc, pos, negsuc}
use Rattle.algebra.specs.Exact.{Exact, exact, one_e, add_e, neg_e, mul_e, inv_e, PosE}

pub record Examples : Type 0 where
  pub square : mul_e (exact 5 (pos 1) (pos 1) 2) (exact 5 (pos 1) (pos 1) 2) ≡ exact 5 (pos 3) (pos 1) 2
  pub inverse : inv_e (exact 5 (pos 1) (pos 1) 2) ≡ exact 5 (negsuc 0) (pos 1) 2
  pub sum : add_e (exact 0 (pos 1) (pos 0) 6) (exact 0 (pos 1) (pos 0) 3) ≡ exact 0 (pos 1) (pos 0) 2
  pub positive : PosE (exact 5 (pos 3) (negsuc 0) 2)
  pub not_positive : ¬ PosE (exact 5 (pos 1) (negsuc 0) 2)

abbrev pub step : {D : ℕ} → Exact D → Exact D
step {D} P = add_e (add_e (one_e D) P) (neg_e (mul_e (mul_e P P) (inv_e (add_e (one_e D) P))))

abbrev pub steps : {D : ℕ} → ℕ → Exact D → Exact D
steps zero P = P
steps (suc n) P = step (steps n P)

abbrev pub ElevenSteps : Type 0
ElevenSteps = (steps 11 (one_e 0) ≡ exact 0 (pos 46368) (pos 0) 28657) × (steps 11 (one_e 5) ≡ exact 5 (pos 46368) (pos 0) 28657)
