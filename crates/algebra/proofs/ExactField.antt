-- The exact numbers as an ordered field, and any ordered field as a ring with an order. Assumes nothing.
--
--   exact_field D good   the ordered field of the exact numbers with √D
--   ring_of F            the ring of an ordered field, for the solver of ring identities
use Rattle.std.proofs.Common.{◌≡◌, ℕ, zero, suc, ◌≢◌, nat_abs, refl, ap, inl, inr, arith}
use Rattle.algebra.specs.Ring.{Ring, Ordered}
use Rattle.algebra.specs.Field.{OrderedField}
use Rattle.algebra.specs.Exact.{Exact, Radicand, zero_e, one_e}
use Rattle.algebra.specs.Laws.{OrderedFieldLaws, ExactIsOrderedField}
use Rattle.algebra.proofs.ExactRing.{exact_ring}
use Rattle.algebra.proofs.ExactOrder.{exact_ordered, exact_inverses}
use Rattle.algebra.proofs.OrderedRing as Ord
use Rattle.algebra.proofs.Sets.{exact_set}

one_ne_zero : (D : ℕ) → one_e D ≢ zero_e D
one_ne_zero D e = let d : ◌≡◌ {A = ℕ} 1 0 = ap (λ (x : Exact D). nat_abs x.re.num) e in omega arith

pub exact_laws : ExactIsOrderedField
exact_laws D good =
    let R = exact_ring D in let O = exact_ordered D good in let I = exact_inverses D good in
    record {
      is_set = exact_set;
      add_assoc = R.add_assoc;
      add_comm = R.add_comm;
      add-zero = R.add-zero;
      add-neg = R.add-neg;
      mul_assoc = R.mul_assoc;
      mul_comm = R.mul_comm;
      mul-one = R.mul-one;
      mul-add = R.mul-add;
      mul-inv = I.mul-inv;
      inv-zero = I.inv-zero;
      one-zero = one_ne_zero D;
      pos_add = O.pos_add;
      pos_mul = O.pos_mul;
      tri = λ a. elim (O.tri a) [ inl p ↦ inr (inl p) | inr (inl e) ↦ inl e | inr (inr n) ↦ inr (inr n) ];
      pos_zero = O.not_zero;
      not_both = Ord.not_both R O;
      pos_square = Ord.square_pos R O;
    }

-- operations that keep the laws, as one record
abbrev pub field_of : {A : Type 0} {zero one : A} {add mul : A → A → A} {neg inv : A → A} {Pos : A → Type 0} → OrderedFieldLaws zero one add mul neg inv Pos → OrderedField
field_of {A} {zero} {one} {add} {mul} {neg} {inv} {Pos} laws = record {
  Car = A;
  is_set = laws.is_set;
  𝟘 = zero;
  𝟙 = one;
  ◌⊕◌ = add;
  ◌⊗◌ = mul;
  neg = neg;
  inv = inv;
  add_assoc = laws.add_assoc;
  add_comm = laws.add_comm;
  add-zero = laws.add-zero;
  add-neg = laws.add-neg;
  mul_assoc = laws.mul_assoc;
  mul_comm = laws.mul_comm;
  mul-one = laws.mul-one;
  mul-add = laws.mul-add;
  mul-inv = laws.mul-inv;
  inv-zero = laws.inv-zero;
  one-zero = laws.one-zero;
  Pos = Pos;
  pos_add = laws.pos_add;
  pos_mul = laws.pos_mul;
  tri = laws.tri;
  pos_zero = laws.pos_zero;
  not_both = laws.not_both;
  pos_square = laws.pos_square;
}

abbrev pub exact_field : (D : ℕ) → Radicand D → OrderedField
exact_field D good = field_of (exact_laws D good)

-- an ordered field as a ring: the natural numbers are sums of 𝟙
abbrev pub times_one : (F : OrderedField) → ℕ → F.Car
times_one F zero = F.𝟘
times_one F (suc n) = F.◌⊕◌ (times_one F n) F.𝟙

abbrev pub ring_of : OrderedField → Ring
ring_of F = record {
  car = F.Car;
  zero = F.𝟘;
  one = F.𝟙;
  add = F.◌⊕◌;
  neg = F.neg;
  mul = F.◌⊗◌;
  nat = times_one F;
  add_comm = F.add_comm;
  add_assoc = F.add_assoc;
  add-zero = F.add-zero;
  add-neg = F.add-neg;
  mul_comm = F.mul_comm;
  mul_assoc = F.mul_assoc;
  mul-one = F.mul-one;
  mul-add = F.mul-add;
  nat_zero = refl;
  nat_suc = λ n. refl;
}

abbrev pub order_of : (F : OrderedField) → Ordered (ring_of F)
order_of F = record {
  Pos = F.Pos;
  tri = λ a. elim (F.tri a) [ inl e ↦ inr (inl e) | inr (inl p) ↦ inl p | inr (inr n) ↦ inr (inr n) ];
  not_zero = F.pos_zero;
  pos_add = F.pos_add;
  pos_mul = F.pos_mul;
}
