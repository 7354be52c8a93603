-- Sums and opposites of rows, in parts. Assumes nothing.
use Rattle.std.specs.Prelude.{◌≡◌, ℕ, zero, suc, ◌+◌, ◌*◌, ◌≤◌, Bool, ◌&&◌, T, leb, ℤ, pos, negsuc, ◌+ℤ◌, ◌*ℤ◌, neg_ℤ, ◌<ℤ◌, Result, FitsSigned, ◌==◌, int_lt, nat_le, unsigned_abs, refl}
use Rattle.std.proofs.Common.{sym, ◌∙◌, ap, ap₂, subst, arith, leb→le, ltb→lt, lt→ltb, to_z, of_z}
use Rattle.std.proofs.Math.Nat as NatL
use Rattle.algebra.specs.Gcd.{gcd₃}
use Rattle.algebra.specs.Exact.{Exact, exact, add_e, neg_e}
use Rattle.algebra.specs.Laws.{Plain}
use Rattle.algebra.proofs.Booleans.{and_split}
use Rattle.algebra.proofs.RingSolver.{◌:+◌, ◌:*◌, lit, ◌≋◌, solve₂}
use Rattle.algebra.proofs.Integers.{ℤ_ring}
use Rattle.algebra.proofs.Triples.{exact_add, exact_neg}
use Rattle.numbers.specs.Rows.{row_number}
use Rattle.numbers.specs.Steps.{Room}
use Rattle.numbers.specs.declared.NumberFault.{NumberFault}
use Rattle.numbers.specs.Answers.{Answers}
use Rattle.numbers.specs.Forms.{has_form, Within}
use Rattle.numbers.specs.declared.Parts.{Parts}
use Rattle.std.specs.Int.{w64}
use Rattle.numbers.specs.Machine.{fits, word}
use Rattle.numbers.specs.Bounds.{two_words, product_words}
use Rattle.numbers.specs.Lowering.{form_within}

-- ---- sizes
pub form_sizes : (size : ℕ) (row : Parts) → T (has_form size row) → Within size row
form_sizes size row f =
    let a = leb (unsigned_abs row.p) size in let b = leb (unsigned_abs row.q) size in let d = leb (unsigned_abs row.m) size in
    let s = and_split (a && b) d (form_within size row f) in
    let r = and_split a b s.0 in
    record { p_size = leb→le (unsigned_abs row.p) size r.0; q_size = leb→le (unsigned_abs row.q) size r.1; m_size = leb→le (unsigned_abs row.m) size s.1 }

pub square_above : (n : ℕ) → n ≤ n * n
square_above zero = omega arith
square_above (suc n) = let e : suc n * suc n ≡ n * suc n + suc n = NatL.suc-mul n (suc n) in omega arith

-- a row whose parts are so small fits the machine
pub record Words (row : Parts) : Type 0 where
  pub p_fits : FitsSigned w64 row.p
  pub q_fits : FitsSigned w64 row.q
  pub m_fits : FitsSigned w64 row.m

pub words : (size : ℕ) (row : Parts) → Room size → Within size row → Words row
words size row r w = record {
  p_fits = fits row.p (let h = w.p_size in omega arith);
  q_fits = fits row.q (let h = w.q_size in omega arith);
  m_fits = fits row.m (let h = w.m_size in omega arith);
}

pub square_room : (size : ℕ) → Room (size * size) → Room size
square_room size r = let h = square_above size in omega arith

-- a row as it is passed on in words
abbrev pub passed : ℤ → ℤ → ℤ → Parts
passed p q m = record { p = to_z w64 (of_z w64 p); q = to_z w64 (of_z w64 q); m = to_z w64 (of_z w64 m) }

pub passed_is : (p q m p' q' m' : ℤ) → FitsSigned w64 p → FitsSigned w64 q → FitsSigned w64 m → p ≡ p' → q ≡ q' → m ≡ m' → passed p q m ≡ record { p = p'; q = q'; m = m' }
passed_is p q m p' q' m' fp fq fm ep eq em = λ i. record { p = (word p fp ∙ ep) i; q = (word q fq ∙ eq) i; m = (word m fm ∙ em) i }

-- ---- the sum
abbrev pub raw_sum : Parts → Parts → Parts
raw_sum a b = record { p = (a.p *ℤ b.m) +ℤ (b.p *ℤ a.m); q = (a.q *ℤ b.m) +ℤ (b.q *ℤ a.m); m = a.m *ℤ b.m }

pub product_above : (x y : ℤ) → pos 0 <ℤ x → pos 0 <ℤ y → pos 0 <ℤ (x *ℤ y)
product_above (pos a) (pos b) h k = record { lt = lt→ltb 0 (a * b) (NatL.mul-pos (ltb→lt 0 a h.lt) (ltb→lt 0 b k.lt)) }
product_above (pos a) (negsuc b) h k = elim k.lt [ ]
product_above (negsuc a) y h k = elim h.lt [ ]

pub raw_sum_is : (D : ℕ) (a b : Parts) → pos 0 <ℤ a.m → pos 0 <ℤ b.m → row_number D (raw_sum a b) ≡ add_e (row_number D a) (row_number D b)
raw_sum_is D a b h k = go a.p a.q a.m b.p b.q b.m h k
  where
    go : (p q m p' q' m' : ℤ) → pos 0 <ℤ m → pos 0 <ℤ m' → exact D ((p *ℤ m') +ℤ (p' *ℤ m)) ((q *ℤ m') +ℤ (q' *ℤ m)) (unsigned_abs (m *ℤ m')) ≡ add_e (exact D p q (unsigned_abs m)) (exact D p' q' (unsigned_abs m'))
    go p q (pos m) p' q' (pos m') h k = exact_add D p q p' q' m m' (ltb→lt 0 m h.lt) (ltb→lt 0 m' k.lt)
    go p q (pos m) p' q' (negsuc m') h k = elim k.lt [ ]
    go p q (negsuc m) p' q' m' h k = elim h.lt [ ]

pub plain_sum : (D : ℕ) (x y u v : ℤ) → Plain D x → Plain D y → Plain D ((x *ℤ u) +ℤ (y *ℤ v))
plain_sum D x y u v f g e = ap₂ (λ s t. (s *ℤ u) +ℤ (t *ℤ v)) (f e) (g e) ∙ solve₂ ℤ_ring (λ u v. lit 0 :* u :+ lit 0 :* v ≋ lit 0) tt u v

-- the parts of the sum as the machine works them out
pub sum_parts : (a b : Parts) (v : Words a) (w : Words b) (p q m : ℤ) → FitsSigned w64 p → FitsSigned w64 q → FitsSigned w64 m
    → p ≡ (to_z w64 (of_z w64 a.p) *ℤ to_z w64 (of_z w64 b.m)) +ℤ (to_z w64 (of_z w64 b.p) *ℤ to_z w64 (of_z w64 a.m))
    → q ≡ (to_z w64 (of_z w64 a.q) *ℤ to_z w64 (of_z w64 b.m)) +ℤ (to_z w64 (of_z w64 b.q) *ℤ to_z w64 (of_z w64 a.m))
    → m ≡ to_z w64 (of_z w64 a.m) *ℤ to_z w64 (of_z w64 b.m)
    → passed p q m ≡ raw_sum a b
sum_parts a b v w p q m fp fq fm ep eq em =
    passed_is p q m _ _ _ fp fq fm
    (two_words p a.p b.m b.p a.m v.p_fits w.m_fits w.p_fits v.m_fits ep)
    (two_words q a.q b.m b.q a.m v.q_fits w.m_fits w.q_fits v.m_fits eq)
    (product_words m a.m b.m v.m_fits w.m_fits em)

-- an answer for parts that stand for x is one for x
pub answer_for : {A : Type 0} (D : ℕ) (value : A → Exact D) (raw made : Parts) (x : Exact D) (r : Result A NumberFault) → raw ≡ made → row_number D made ≡ x → Answers value (row_number D raw) r → Answers value x r
answer_for D value raw made x r e v h = subst (λ y. Answers value y r) (ap (row_number D) e ∙ v) h

-- ---- the opposite
abbrev pub raw_opposite : Parts → Parts
raw_opposite row = record { p = neg_ℤ row.p; q = neg_ℤ row.q; m = row.m }

abs_opposite : (x : ℤ) → unsigned_abs (neg_ℤ x) ≡ unsigned_abs x
abs_opposite (pos zero) = refl
abs_opposite (pos (suc n)) = refl
abs_opposite (negsuc n) = refl

-- the form, over the sizes of p and q
abbrev form_of : ℕ → ℤ → ℕ → ℕ → Bool
form_of size m a b = int_lt (pos 0) m && (nat_le a size && nat_le b size && nat_le (unsigned_abs m) size) && gcd₃ a b (unsigned_abs m) == 1

pub opposite_form : (size : ℕ) (row : Parts) → T (has_form size row) → T (has_form size (raw_opposite row))
opposite_form size row f = subst T (ap₂ (form_of size row.m) (sym (abs_opposite row.p)) (sym (abs_opposite row.q))) f

pub opposite_is : (D : ℕ) (row : Parts) → pos 0 <ℤ row.m → row_number D (raw_opposite row) ≡ neg_e (row_number D row)
opposite_is D row h = go row.m h
  where
    go : (m : ℤ) → pos 0 <ℤ m → exact D (neg_ℤ row.p) (neg_ℤ row.q) (unsigned_abs m) ≡ neg_e (exact D row.p row.q (unsigned_abs m))
    go (pos m) h = exact_neg D row.p row.q m (ltb→lt 0 m h.lt)
    go (negsuc m) h = elim h.lt [ ]
