-- What is proved of exact numbers and of common divisors. Assumes nothing.
--
--   OrderedFieldLaws 0 1 + × − inv Pos   these make an ordered field (the laws of `OrderedField`, over operations that are given)
--   ExactIsOrderedField                  the exact numbers are one, for D = 0 and for every D that is no square
--   Plain D q                            the root part q is 0 where D is 0
--   SameNumber                           two triples mean the same number exactly where p·m' = p'·m and q·m' = q'·m
--   PositiveParts D p q                  the test on whole numbers by which (p + q√D)/m is positive
--   PositiveOfParts                      a triple is positive exactly where its parts pass that test
--   LowestParts D p q m                  m is above 0, and p, q, m have no common divisor but 1 (and q is 0 where D is 0)
--   LowestPartsUnique                    triples in lowest parts that mean the same number are the same triple
--   LowestPartsExist                     every exact number has one
--   GcdIsGreatest                        gcd and gcd₃ are the greatest common divisors
use Rattle.std.specs.Prelude.{◌≡◌, ℕ, ◌<◌, ◌≢◌, ◌⊎◌, ◌↔◌, ℤ, pos, ◌*ℤ◌, ◌≤ℤ◌, ◌<ℤ◌, unsigned_abs}
use Rattle.algebra.specs.Gcd.{gcd, gcd₃, IsGcd, IsGcd₃}
use Rattle.algebra.specs.Exact.{Exact, Radicand, exact, zero_e, one_e, add_e, neg_e, mul_e, inv_e, PosE}

pub record OrderedFieldLaws {A : Type 0} (zero one : A) (add mul : A → A → A) (neg inv : A → A) (Pos : A → Type 0) : Type 0 where
  pub is_set : IsSet A
  pub add_assoc : (a b c : A) → add (add a b) c ≡ add a (add b c)
  pub add_comm : (a b : A) → add a b ≡ add b a
  pub add-zero : (a : A) → add a zero ≡ a
  pub add-neg : (a : A) → add a (neg a) ≡ zero
  pub mul_assoc : (a b c : A) → mul (mul a b) c ≡ mul a (mul b c)
  pub mul_comm : (a b : A) → mul a b ≡ mul b a
  pub mul-one : (a : A) → mul a one ≡ a
  pub mul-add : (a b c : A) → mul a (add b c) ≡ add (mul a b) (mul a c)
  pub mul-inv : (a : A) → a ≢ zero → mul a (inv a) ≡ one
  pub inv-zero : inv zero ≡ zero
  pub one-zero : one ≢ zero
  pub pos_add : (a b : A) → Pos a → Pos b → Pos (add a b)
  pub pos_mul : (a b : A) → Pos a → Pos b → Pos (mul a b)
  -- exactly one of: zero, positive, the opposite is positive
  pub tri : (a : A) → (a ≡ zero) ⊎ (Pos a ⊎ Pos (neg a))
  pub pos_zero : ¬ Pos zero
  pub not_both : (a : A) → Pos a → ¬ Pos (neg a)
  pub pos_square : (a : A) → a ≢ zero → Pos (mul a a)

abbrev pub ExactIsOrderedField : Type 0
ExactIsOrderedField = (D : ℕ) → Radicand D → OrderedFieldLaws (zero_e D) (one_e D) add_e mul_e neg_e inv_e PosE

abbrev pub Plain : ℕ → ℤ → Type 0
Plain D q = D ≡ 0 → q ≡ pos 0

abbrev pub SameNumber : Type 0
SameNumber =
    (D : ℕ) (p q : ℤ) (m : ℕ) (p' q' : ℤ) (m' : ℕ) → 0 < m → 0 < m' → Plain D q → Plain D q'
    → (exact D p q m ≡ exact D p' q' m') ↔ ((p *ℤ pos m' ≡ p' *ℤ pos m) × (q *ℤ pos m' ≡ q' *ℤ pos m))

abbrev pub PositiveParts : ℕ → ℤ → ℤ → Type 0
PositiveParts D p q =
    ((pos 0 ≤ℤ p) × (pos 0 ≤ℤ q) × (¬ ((p ≡ pos 0) × (q ≡ pos 0))))
    ⊎ (((pos 0 <ℤ p) × (q <ℤ pos 0) × ((pos D *ℤ (q *ℤ q)) <ℤ (p *ℤ p)))
    ⊎ ((p <ℤ pos 0) × (pos 0 <ℤ q) × ((p *ℤ p) <ℤ (pos D *ℤ (q *ℤ q)))))

abbrev pub PositiveOfParts : Type 0
PositiveOfParts = (D : ℕ) (p q : ℤ) (m : ℕ) → 0 < m → Plain D q → PosE (exact D p q m) ↔ PositiveParts D p q

pub record LowestParts (D : ℕ) (p q : ℤ) (m : ℕ) : Type 0 where
  pub above : 0 < m
  pub plain : Plain D q
  pub coprime : gcd₃ (unsigned_abs p) (unsigned_abs q) m ≡ 1

abbrev pub LowestPartsUnique : Type 0
LowestPartsUnique =
    (D : ℕ) (p q : ℤ) (m : ℕ) (p' q' : ℤ) (m' : ℕ) → LowestParts D p q m → LowestParts D p' q' m'
    → exact D p q m ≡ exact D p' q' m' → (p ≡ p') × (q ≡ q') × (m ≡ m')

abbrev pub LowestPartsExist : Type 0
LowestPartsExist = (D : ℕ) (x : Exact D) → (p : ℤ) × (q : ℤ) × (m : ℕ) × LowestParts D p q m × (exact D p q m ≡ x)

abbrev pub GcdIsGreatest : Type 0
GcdIsGreatest = ((a b : ℕ) → IsGcd a b (gcd a b)) × ((a b c : ℕ) → IsGcd₃ a b c (gcd₃ a b c))
