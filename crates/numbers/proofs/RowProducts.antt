-- Products of rows, in parts. Assumes nothing.
use Rattle.std.proofs.Common.{◌≡◌, ℕ, ◌+◌, ◌*◌, ◌≤◌, ℤ, pos, negsuc, ◌+ℤ◌, ◌*ℤ◌, nat_abs, ◌<ℤ◌, ap, ◌∙◌, ap₂, arith, ltb→lt, w64, SFits, to_z, of_z}
use native.Mathlib.Nat as NatL
use Rattle.algebra.specs.Exact.{exact, mul_e}
use Rattle.algebra.specs.Laws.{Plain}
use Rattle.algebra.proofs.RingSolver.{◌:+◌, ◌:*◌, lit, ◌≋◌, solve₂, solve₃}
use Rattle.algebra.proofs.Integers.{ℤ_ring, abs_mul}
use Rattle.algebra.proofs.Triples.{exact_mul}
use Rattle.numbers.specs.Rows.{row_number}
use Rattle.numbers.specs.Steps.{Room}
use Rattle.numbers.specs.declared.Parts.{Parts}
use Rattle.numbers.specs.Bounds.{two_words, product_words}
use Rattle.numbers.specs.RowSums.{Words, square_above, passed, passed_is}

abbrev pub raw_product : ℤ → Parts → Parts → Parts
raw_product d a b = record { p = (a.p *ℤ b.p) +ℤ (d *ℤ (a.q *ℤ b.q)); q = (a.p *ℤ b.q) +ℤ (a.q *ℤ b.p); m = a.m *ℤ b.m }

pub raw_product_is : (D : ℕ) (a b : Parts) → pos 0 <ℤ a.m → pos 0 <ℤ b.m → row_number D (raw_product (pos D) a b) ≡ mul_e (row_number D a) (row_number D b)
raw_product_is D a b h k = go a.m b.m h k
  where
    go : (m m' : ℤ) → pos 0 <ℤ m → pos 0 <ℤ m' → exact D ((a.p *ℤ b.p) +ℤ (pos D *ℤ (a.q *ℤ b.q))) ((a.p *ℤ b.q) +ℤ (a.q *ℤ b.p)) (nat_abs (m *ℤ m')) ≡ mul_e (exact D a.p a.q (nat_abs m)) (exact D b.p b.q (nat_abs m'))
    go (pos m) (pos m') h k = exact_mul D a.p a.q b.p b.q m m' (ltb→lt 0 m h.lt) (ltb→lt 0 m' k.lt)
    go (pos m) (negsuc m') h k = elim k.lt [ ]
    go (negsuc m) m' h k = elim h.lt [ ]

pub plain_product : (D : ℕ) (p q p' q' : ℤ) → Plain D q → Plain D q' → Plain D ((p *ℤ q') +ℤ (q *ℤ p'))
plain_product D p q p' q' f g e = ap₂ (λ s t. (p *ℤ s) +ℤ (t *ℤ p')) (g e) (f e) ∙ solve₂ ℤ_ring (λ u v. u :* lit 0 :+ lit 0 :* v ≋ lit 0) tt p p'

-- ---- room, over the radicand and the size
module _ (k size : ℕ) (room : Room ((k + 1) * (size * size))) where
  spread : (k + 1) * (size * size) ≡ k * (size * size) + size * size
  spread = NatL.add-mul k 1 (size * size) ∙ ap (λ n. k * (size * size) + n) (NatL.one-mul (size * size))

  pub square_room' : Room (size * size)
  square_room' = let e = spread in omega arith

  pub under_room : Room (k * size)
  under_room =
      let e = spread in
      let h : k * size ≤ k * (size * size) = NatL.mul-le-mul_left k (square_above size) in
      omega arith

  pub under_square_room : Room (k * size * size)
  under_square_room = let e = spread in let f : k * size * size ≡ k * (size * size) = NatL.mul_assoc k size size in omega arith

-- the parts of the product as the machine works them out
module _ (d : ℤ) (a b : Parts) (fd : SFits w64 d) (v : Words a) (w : Words b) where
  pub product_parts : (u p q m : ℤ) → SFits w64 u → SFits w64 p → SFits w64 q → SFits w64 m
      → u ≡ to_z w64 (of_z w64 d) *ℤ to_z w64 (of_z w64 a.q)
      → p ≡ (to_z w64 (of_z w64 a.p) *ℤ to_z w64 (of_z w64 b.p)) +ℤ (to_z w64 (of_z w64 u) *ℤ to_z w64 (of_z w64 b.q))
      → q ≡ (to_z w64 (of_z w64 a.p) *ℤ to_z w64 (of_z w64 b.q)) +ℤ (to_z w64 (of_z w64 a.q) *ℤ to_z w64 (of_z w64 b.p))
      → m ≡ to_z w64 (of_z w64 a.m) *ℤ to_z w64 (of_z w64 b.m)
      → passed p q m ≡ raw_product d a b
  product_parts u p q m fu fp fq fm eu ep eq em =
      passed_is p q m _ _ _ fp fq fm
      (two_words p a.p b.p u b.q v.p_fits w.p_fits fu w.q_fits ep
      ∙ ap (λ z. (a.p *ℤ b.p) +ℤ (z *ℤ b.q)) (product_words u d a.q fd v.q_fits eu)
      ∙ ap (λ z. (a.p *ℤ b.p) +ℤ z) (solve₃ ℤ_ring (λ d x y. d :* x :* y ≋ d :* (x :* y)) tt d a.q b.q))
      (two_words q a.p b.q a.q b.p v.p_fits w.q_fits v.q_fits w.p_fits eq)
      (product_words m a.m b.m v.m_fits w.m_fits em)

pub under_size : (d x : ℤ) (size : ℕ) → nat_abs x ≤ size → nat_abs (d *ℤ x) ≤ nat_abs d * size
under_size d x size h = let e = abs_mul d x in let k : nat_abs d * nat_abs x ≤ nat_abs d * size = NatL.mul-le-mul_left (nat_abs d) h in omega arith
