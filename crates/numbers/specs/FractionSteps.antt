-- The quotient of fractions and when a fraction is positive, in parts. Assumes nothing.
use Rattle.std.specs.Prelude.{◌≡◌, zero, suc, ◌*◌, ◌<◌, Bool, true, false, T, ◌≢◌, ℤ, pos, negsuc, ◌*ℤ◌, ◌<ℤ◌, unsigned_abs, refl}
use Rattle.std.proofs.Common.{sym, ◌∙◌, ap, ap₂, subst, inl, inr, arith, ltb→lt, lt→ltb}
use Rattle.std.proofs.Math.Nat as NatL
use Rattle.std.specs.Int.Signed.{lt_z}
use Rattle.std.proofs.lemmas.Int.{ints}
use Rattle.algebra.specs.Exact.{exact, zero_e, mul_e, inv_e, PosE}
use Rattle.algebra.specs.Laws.{PositiveParts}
use Rattle.algebra.proofs.RingSolver.{◌:*◌, ◌≋◌, solve₃}
use Rattle.algebra.proofs.Integers.{ℤ_ring}
use Rattle.algebra.proofs.Triples.{exact_zero, zero_parts}
use Rattle.algebra.proofs.Quotients.{plain_quotient}
use Rattle.algebra.proofs.Positive.{positive_of_parts}
use Rattle.numbers.specs.Answers.{Decides}
use Rattle.numbers.specs.Rows.{row_number}
use Rattle.numbers.specs.Steps.{sign}
use Rattle.numbers.specs.Forms.{plain_row}
use Rattle.numbers.specs.Fractions.{no_root}
use Rattle.numbers.specs.Signs.{sign_abs}

pub abs_above : (x : ℤ) → x ≢ pos 0 → 0 < unsigned_abs x
abs_above (pos zero) n = absurd (n refl)
abs_above (pos (suc k)) n = omega arith
abs_above (negsuc k) n = omega arith

pub zero_row : (m : ℤ) → pos 0 <ℤ m → row_number 0 (plain_row (pos 0) m) ≡ zero_e 0
zero_row (pos m) h = exact_zero 0 m (ltb→lt 0 m h.lt)
zero_row (negsuc m) h = elim h.lt [ ]

pub nonzero_row : (p m : ℤ) → pos 0 <ℤ m → p ≢ pos 0 → row_number 0 (plain_row p m) ≢ zero_e 0
nonzero_row p (pos m) h n e = n (zero_parts 0 p (pos 0) m (ltb→lt 0 m h.lt) (λ _. refl) e).0
nonzero_row p (negsuc m) h n e = elim h.lt [ ]

-- p × m' over m × p', both with the sign of p'
pub quotient_row : (p m p' m' : ℤ) → pos 0 <ℤ m → pos 0 <ℤ m' → p' ≢ pos 0
    → mul_e (row_number 0 (plain_row p m)) (inv_e (row_number 0 (plain_row p' m'))) ≡ row_number 0 (plain_row (p *ℤ (sign p' *ℤ m')) (m *ℤ (sign p' *ℤ p')))
quotient_row p (pos m) p' (pos m') h h' n =
    let m0 = ltb→lt 0 m h.lt in
    let below : pos m *ℤ (sign p' *ℤ p') ≡ pos (m * unsigned_abs p') = ap (λ z. pos m *ℤ z) (sign_abs p') in
    plain_quotient 0 no_root (sign p') p p' (m * unsigned_abs p') m m' (NatL.mul-pos m0 (abs_above p' n)) m0 (ltb→lt 0 m' h'.lt)
    (sym below ∙ solve₃ ℤ_ring (λ m s p. m :* (s :* p) ≋ s :* (m :* p)) tt (pos m) (sign p') p')
    (nonzero_row p' (pos m') h' n)
    ∙ ap₂ (λ x y. exact 0 x (pos 0) (unsigned_abs y)) (solve₃ ℤ_ring (λ s p m. s :* (p :* m) ≋ p :* (s :* m)) tt (sign p') p (pos m')) (sym below)
quotient_row p (pos m) p' (negsuc m') h h' n = elim h'.lt [ ]
quotient_row p (negsuc m) p' m' h h' n = elim h.lt [ ]

pub below_above : (m p' : ℤ) → pos 0 <ℤ m → p' ≢ pos 0 → pos 0 <ℤ (m *ℤ (sign p' *ℤ p'))
below_above (pos m) p' h n = subst (λ z. pos 0 <ℤ (pos m *ℤ z)) (sym (sign_abs p')) (record { lt = lt→ltb 0 (m * unsigned_abs p') (NatL.mul-pos (ltb→lt 0 m h.lt) (abs_above p' n)) })
below_above (negsuc m) p' h n = elim h.lt [ ]

-- ---- positive
pub decides : (b : Bool) (P : Type 0) → (T b → P) → (P → T b) → Decides b P
decides true P f g = f tt
decides false P f g = g

plain_positive : (p : ℤ) → pos 0 <ℤ p → PositiveParts 0 p (pos 0)
plain_positive p h = inl (omega (arith, ints), omega (arith, ints), λ e. absurd (let k = subst (λ z. pos 0 <ℤ z) e.0 h in k.lt))

positive_plain : (p : ℤ) → PositiveParts 0 p (pos 0) → pos 0 <ℤ p
positive_plain (pos zero) (inl h) = absurd (h.2 (refl, refl))
positive_plain (pos (suc n)) (inl h) = omega (arith, ints)
positive_plain (negsuc n) (inl h) = elim h.0.le [ ]
positive_plain p (inr (inl h)) = h.0
positive_plain p (inr (inr h)) = elim h.1.lt [ ]

pub positive_row : (p m : ℤ) → pos 0 <ℤ m → Decides (lt_z (pos 0) p) (PosE (row_number 0 (plain_row p m)))
positive_row p (pos m) h =
    let e = positive_of_parts 0 p (pos 0) m (ltb→lt 0 m h.lt) (λ _. refl) in
    decides (lt_z (pos 0) p) (PosE (row_number 0 (plain_row p (pos m)))) (λ t. e.1 (plain_positive p (record { lt = t }))) (λ c. (positive_plain p (e.0 c)).lt)
positive_row p (negsuc m) h = elim h.lt [ ]
