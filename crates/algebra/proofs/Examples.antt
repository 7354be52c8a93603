-- The worked examples, by computation. Assumes nothing.
use Rattle.std.proofs.Common.{ℕ, refl}
use Rattle.algebra.specs.Rational.{over, addℚ, mulℚ, negq, invℚ, whole}
use Rattle.algebra.specs.Exact.{exact, add_e, neg_e, mul_e, inv_e, norm_e, PosE, positive_e}
use Rattle.algebra.specs.Examples.{Examples, ElevenSteps}

-- everything that an example computes with: `unfolding computes` opens it all
pub computes : ℕ
unfolding over addℚ mulℚ negq invℚ whole exact add_e neg_e mul_e inv_e norm_e PosE positive_e
computes = 0

pub examples : Examples
unfolding computes
examples = record { square = refl; inverse = refl; sum = refl; positive = tt; not_positive = λ t. t }

pub eleven_steps : ElevenSteps
unfolding computes
eleven_steps = (refl, refl)
