-- The quotient of numbers with a root, in parts. Assumes nothing.
use Rattle.std.specs.Prelude.{◌≡◌, ℕ, ◌+◌, ◌*◌, ◌≤◌, T, ◌≢◌, ℤ, pos, negsuc, ◌-ℤ◌, ◌*ℤ◌, ◌<ℤ◌, FitsSigned, unsigned_abs}
use Rattle.std.proofs.Common.{sym, ◌∙◌, ap, ap₂, subst, arith, ltb→lt, lt→ltb, lit<, to_z, of_z}
use Rattle.std.proofs.Math.Nat as NatL
use Rattle.algebra.specs.Exact.{Radicand, exact, zero_e, mul_e, inv_e}
use Rattle.algebra.specs.Laws.{Plain}
use Rattle.algebra.proofs.RingSolver.{◌:*◌, ◌≋◌, solve₃}
use Rattle.algebra.proofs.Integers.{ℤ_ring, abs_mul}
use Rattle.algebra.proofs.Triples.{exact_zero, zero_parts}
use Rattle.algebra.proofs.Quotients.{root_quotient, norm_nonzero}
use Rattle.numbers.specs.Rows.{row_number}
use Rattle.numbers.specs.Steps.{sign}
use Rattle.numbers.specs.Forms.{Within, has_form}
use Rattle.numbers.specs.Roots.{root_size}
use Rattle.numbers.specs.declared.Parts.{Parts}
use Rattle.std.specs.Int.{w64}
use Rattle.numbers.specs.Machine.{word}
use Rattle.numbers.specs.Bounds.{product_words}
use Rattle.numbers.specs.RowSums.{form_sizes, words, Words, passed, passed_is}
use Rattle.numbers.specs.Lowering.{form_above}
use Rattle.numbers.specs.Signs.{sign_abs, abs_turned}
use Rattle.numbers.specs.FractionSteps.{abs_above}

-- x·u − d·y·v
abbrev pub conjugate : ℤ → ℤ → ℤ → ℤ → ℤ → ℤ
conjugate x y u v d = (x *ℤ u) -ℤ (d *ℤ (y *ℤ v))

abbrev pub norm : ℤ → Parts → ℤ
norm d b = conjugate b.p b.q b.p b.q d

-- the part with the root of a times the conjugate of b
abbrev pub across : Parts → Parts → ℤ
across a b = (a.q *ℤ b.p) -ℤ (a.p *ℤ b.q)

-- the parts of a over b, before what they have in common is taken out
abbrev pub raw_parts : ℤ → Parts → Parts → Parts
raw_parts d a b = record {
  p = (sign (norm d b) *ℤ b.m) *ℤ conjugate a.p a.q b.p b.q d;
  q = (sign (norm d b) *ℤ b.m) *ℤ across a b;
  m = a.m *ℤ (sign (norm d b) *ℤ norm d b);
}

pub zero_row : (D : ℕ) (m : ℤ) → pos 0 <ℤ m → row_number D (record { p = pos 0; q = pos 0; m = m }) ≡ zero_e D
zero_row D (pos m) h = exact_zero D m (ltb→lt 0 m h.lt)
zero_row D (negsuc m) h = elim h.lt [ ]

pub nonzero_row : (D : ℕ) (b : Parts) → pos 0 <ℤ b.m → Plain D b.q → ¬ ((b.p ≡ pos 0) × (b.q ≡ pos 0)) → row_number D b ≢ zero_e D
nonzero_row D b h f n e = go b.m h e
  where
    go : (m : ℤ) → pos 0 <ℤ m → exact D b.p b.q (unsigned_abs m) ≢ zero_e D
    go (pos m) h e = n (zero_parts D b.p b.q m (ltb→lt 0 m h.lt) f e)
    go (negsuc m) h e = elim h.lt [ ]

module _ (D : ℕ) (good : Radicand D) (a b : Parts) (f : Plain D b.q) (n : ¬ ((b.p ≡ pos 0) × (b.q ≡ pos 0))) where
  norm_ne : norm (pos D) b ≢ pos 0
  norm_ne = norm_nonzero D good b.p b.q f n

  pub quotient_above : pos 0 <ℤ a.m → pos 0 <ℤ (raw_parts (pos D) a b).m
  quotient_above h = go a.m h
    where
      go : (m : ℤ) → pos 0 <ℤ m → pos 0 <ℤ (m *ℤ (sign (norm (pos D) b) *ℤ norm (pos D) b))
      go (pos m) h = subst (λ z. pos 0 <ℤ (pos m *ℤ z)) (sym (sign_abs (norm (pos D) b))) (record { lt = lt→ltb 0 (m * unsigned_abs (norm (pos D) b)) (NatL.mul-pos (ltb→lt 0 m h.lt) (abs_above (norm (pos D) b) norm_ne)) })
      go (negsuc m) h = elim h.lt [ ]

  pub quotient_is : pos 0 <ℤ a.m → pos 0 <ℤ b.m → mul_e (row_number D a) (inv_e (row_number D b)) ≡ row_number D (raw_parts (pos D) a b)
  quotient_is h k = go a.m b.m h k (nonzero_row D b k f n)
    where
      N : ℤ
      N = norm (pos D) b

      s : ℤ
      s = sign (norm (pos D) b)

      go : (m m' : ℤ) → pos 0 <ℤ m → pos 0 <ℤ m' → exact D b.p b.q (unsigned_abs m') ≢ zero_e D
          → mul_e (exact D a.p a.q (unsigned_abs m)) (inv_e (exact D b.p b.q (unsigned_abs m')))
          ≡ exact D ((sign (norm (pos D) b) *ℤ m') *ℤ conjugate a.p a.q b.p b.q (pos D)) ((sign (norm (pos D) b) *ℤ m') *ℤ across a b) (unsigned_abs (m *ℤ (sign (norm (pos D) b) *ℤ norm (pos D) b)))
      go (pos m) (pos m') h k ne =
          let m0 = ltb→lt 0 m h.lt in
          let below : pos m *ℤ (s *ℤ N) ≡ pos (m * unsigned_abs N) = ap (λ z. pos m *ℤ z) (sign_abs N) in
          root_quotient D good s a.p a.q b.p b.q (m * unsigned_abs N) m m' (NatL.mul-pos m0 (abs_above N norm_ne)) m0 (ltb→lt 0 m' k.lt)
          (sym below ∙ solve₃ ℤ_ring (λ m s n. m :* (s :* n) ≋ s :* (m :* n)) tt (pos m) s N) ne
          ∙ ap (λ m. exact D ((s *ℤ pos m') *ℤ conjugate a.p a.q b.p b.q (pos D)) ((s *ℤ pos m') *ℤ across a b) (unsigned_abs m)) (sym below)
      go (pos m) (negsuc m') h k ne = elim k.lt [ ]
      go (negsuc m) m' h k ne = elim h.lt [ ]

-- ---- sizes
pub conjugate_size : (S : ℕ) (x y u v d : ℤ) → unsigned_abs x ≤ S → unsigned_abs y ≤ S → unsigned_abs u ≤ S → unsigned_abs v ≤ S → unsigned_abs d ≤ 99 → unsigned_abs x * unsigned_abs u + unsigned_abs (d *ℤ y) * unsigned_abs v ≤ 100 * (S * S)
conjugate_size S x y u v d hx hy hu hv hd =
    let xu : unsigned_abs x * unsigned_abs u ≤ S * S = NatL.mul-le-mul hx hu in
    let dy : unsigned_abs d * unsigned_abs y ≤ 99 * S = NatL.mul-le-mul hd hy in
    let e = abs_mul d y in
    let dyv : unsigned_abs (d *ℤ y) * unsigned_abs v ≤ 99 * S * S = NatL.mul-le-mul (subst (λ z. z ≤ 99 * S) (sym e) dy) hv in
    let g : 99 * S * S ≡ 99 * (S * S) = NatL.mul_assoc 99 S S in
    omega arith

-- ---- as the machine works it out
turned_words : (r x by : ℤ) → FitsSigned w64 x → FitsSigned w64 by → r ≡ sign (to_z w64 (of_z w64 by)) *ℤ to_z w64 (of_z w64 x) → r ≡ sign by *ℤ x
turned_words r x by fx fb e = e ∙ ap₂ (λ (y z : ℤ). sign y *ℤ z) (word by fb) (word x fx)

-- turning a sign keeps the size
pub turned_size : (r x by : ℤ) (S : ℕ) → FitsSigned w64 x → FitsSigned w64 by → r ≡ sign (to_z w64 (of_z w64 by)) *ℤ to_z w64 (of_z w64 x) → unsigned_abs x ≤ S → unsigned_abs r ≤ S
turned_size r x by S fx fb e h = let k = ap unsigned_abs (turned_words r x by fx fb e) ∙ abs_turned x by in omega arith

module _ (d : ℤ) (a b : Parts) (v : Words a) (w : Words b) where
  -- the norm of b, b's m with its sign, the two parts of the product with b's conjugate, and the parts of the quotient
  pub record Worked (n up r₁ r₂ t p q m : ℤ) : Type 0 where
    pub n_fits : FitsSigned w64 n
    pub up_fits : FitsSigned w64 up
    pub r₁_fits : FitsSigned w64 r₁
    pub r₂_fits : FitsSigned w64 r₂
    pub t_fits : FitsSigned w64 t
    pub p_fits : FitsSigned w64 p
    pub q_fits : FitsSigned w64 q
    pub m_fits : FitsSigned w64 m
    pub n_is : n ≡ norm d b
    pub up_is : up ≡ sign (to_z w64 (of_z w64 n)) *ℤ to_z w64 (of_z w64 b.m)
    pub r₁_is : r₁ ≡ conjugate a.p a.q b.p b.q d
    pub r₂_is : r₂ ≡ across a b
    pub t_is : t ≡ sign (to_z w64 (of_z w64 n)) *ℤ to_z w64 (of_z w64 n)
    pub p_is : p ≡ to_z w64 (of_z w64 up) *ℤ to_z w64 (of_z w64 r₁)
    pub q_is : q ≡ to_z w64 (of_z w64 up) *ℤ to_z w64 (of_z w64 r₂)
    pub m_is : m ≡ to_z w64 (of_z w64 a.m) *ℤ to_z w64 (of_z w64 t)

  pub quotient_parts : (n up r₁ r₂ t p q m : ℤ) → Worked n up r₁ r₂ t p q m → passed p q m ≡ raw_parts d a b
  quotient_parts n up r₁ r₂ t p q m k =
      let up' : up ≡ sign (norm d b) *ℤ b.m = turned_words up b.m n w.m_fits k.n_fits k.up_is ∙ ap (λ z. sign z *ℤ b.m) k.n_is in
      let t' : t ≡ sign (norm d b) *ℤ norm d b = turned_words t n n k.n_fits k.n_fits k.t_is ∙ ap (λ z. sign z *ℤ z) k.n_is in
      passed_is p q m _ _ _ k.p_fits k.q_fits k.m_fits
      (product_words p up r₁ k.up_fits k.r₁_fits k.p_is ∙ ap₂ ◌*ℤ◌ up' k.r₁_is)
      (product_words q up r₂ k.up_fits k.r₂_fits k.q_is ∙ ap₂ ◌*ℤ◌ up' k.r₂_is)
      (product_words m a.m t v.m_fits k.t_fits k.m_is ∙ ap (λ z. a.m *ℤ z) t')

-- ---- rows of roots
module _ (row : Parts) (f : T (has_form root_size row)) where
  pub root_sizes : Within root_size row
  root_sizes = form_sizes root_size row f

  pub root_words : Words row
  root_words = words root_size row (lit< tt) root_sizes

  pub root_above : pos 0 <ℤ row.m
  root_above = form_above root_size row f
