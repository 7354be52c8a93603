-- Commutative rings, orders on them and inverses, each apart, for theorems that need no more. Assumes nothing.
--
--   Ring         a commutative ring; `nat n` is the natural number n in it
--   Ordered R    an order that sums and products of positives keep
--   Inverses R   1/x for each x but 0, and 0 there
use Rattle.std.specs.Prelude.{◌≡◌, ℕ, suc, ◌≢◌, ◌⊎◌}

pub record Ring : Type 1 where
  pub car : Type 0
  pub zero : car
  pub one : car
  pub add : car → car → car
  pub neg : car → car
  pub mul : car → car → car
  pub nat : ℕ → car
  pub add_comm : (x y : car) → add x y ≡ add y x
  pub add_assoc : (x y z : car) → add (add x y) z ≡ add x (add y z)
  pub add-zero : (x : car) → add x zero ≡ x
  pub add-neg : (x : car) → add x (neg x) ≡ zero
  pub mul_comm : (x y : car) → mul x y ≡ mul y x
  pub mul_assoc : (x y z : car) → mul (mul x y) z ≡ mul x (mul y z)
  pub mul-one : (x : car) → mul x one ≡ x
  pub mul-add : (x y z : car) → mul x (add y z) ≡ add (mul x y) (mul x z)
  pub nat_zero : nat 0 ≡ zero
  pub nat_suc : (n : ℕ) → nat (suc n) ≡ add (nat n) one

-- An order that sums and products of positives keep: exactly one of Pos x, x ≡ 0 and Pos (−x) holds.
pub record Ordered (R : Ring) : Type 1 where
  pub Pos : R.car → Type 0
  pub tri : (x : R.car) → Pos x ⊎ ((x ≡ R.zero) ⊎ Pos (R.neg x))
  pub not_zero : ¬ Pos R.zero
  pub pos_add : (x y : R.car) → Pos x → Pos y → Pos (R.add x y)
  pub pos_mul : (x y : R.car) → Pos x → Pos y → Pos (R.mul x y)

-- 1/x for each x but 0, and 0 there
pub record Inverses (R : Ring) : Type 1 where
  pub inv : R.car → R.car
  pub mul-inv : (x : R.car) → x ≢ R.zero → R.mul x (inv x) ≡ R.one
  pub inv-zero : inv R.zero ≡ R.zero
