-- Whole numbers as exact numbers: sums, products, opposites. Assumes nothing.
use Rattle.std.proofs.Common.{◌≡◌, ℕ, ℤ, pos, ◌+ℤ◌, ◌*ℤ◌, neg_ℤ, sym, ap, ◌∙◌, ap₂, arith}
use Rattle.algebra.specs.Exact.{exact, whole_e, add_e, neg_e, mul_e}
use Rattle.algebra.proofs.Integers.{ℤ_ring}
use Rattle.algebra.proofs.RingSolver.{◌:+◌, ◌:*◌, lit, ◌≋◌, solve₂, solve₃}
use Rattle.algebra.proofs.Triples.{exact_add, exact_mul, exact_neg}

pub whole_add : (D : ℕ) (a b : ℤ) → whole_e D (a +ℤ b) ≡ add_e (whole_e D a) (whole_e D b)
unfolding whole_e
whole_add D a b =
    ap (λ (z : ℤ). exact D z (pos 0) 1) (sym (solve₂ ℤ_ring (λ a b. a :* lit 1 :+ b :* lit 1 ≋ a :+ b) tt a b)) ∙ exact_add D a (pos 0) b (pos 0) 1 1 (omega arith) (omega arith)

pub whole_mul : (D : ℕ) (a b : ℤ) → whole_e D (a *ℤ b) ≡ mul_e (whole_e D a) (whole_e D b)
unfolding whole_e
whole_mul D a b =
    ap₂ (λ (y z : ℤ). exact D y z 1) (sym (solve₃ ℤ_ring (λ a b d. a :* b :+ d :* (lit 0 :* lit 0) ≋ a :* b) tt a b (pos D))) (sym (solve₂ ℤ_ring (λ a b. a :* lit 0 :+ lit 0 :* b ≋ lit 0) tt a b))
    ∙ exact_mul D a (pos 0) b (pos 0) 1 1 (omega arith) (omega arith)

pub whole_neg : (D : ℕ) (a : ℤ) → whole_e D (neg_ℤ a) ≡ neg_e (whole_e D a)
unfolding whole_e
whole_neg D a = exact_neg D a (pos 0) 1 (omega arith)
