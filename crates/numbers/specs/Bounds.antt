-- Products and sums of two products stay in a signed word of 64 bits where there is room. Assumes nothing.
use Rattle.std.specs.Prelude.{◌≡◌, ℕ, ◌+◌, ◌*◌, ◌≤◌, ℤ, ◌+ℤ◌, ◌*ℤ◌, FitsSigned, unsigned_abs}
use Rattle.std.proofs.Common.{sym, ◌∙◌, ap₂, subst, arith, to_z, of_z}
use Rattle.std.proofs.Math.Nat as NatL
use Rattle.std.specs.Int.{w64}
use Rattle.std.proofs.lemmas.Int.{ints}
use Rattle.algebra.proofs.Integers.{abs_mul}
use Rattle.numbers.specs.Steps.{Room, Small}
use Rattle.numbers.specs.Machine.{fits, word}

pub abs_add : (x y : ℤ) → unsigned_abs (x +ℤ y) ≤ unsigned_abs x + unsigned_abs y
abs_add x y = omega (arith, ints)

pub products_fit : (a b c d : ℤ) → Small a b → Small c d → FitsSigned w64 ((a *ℤ b) +ℤ (c *ℤ d))
products_fit a b c d h k =
    fits ((a *ℤ b) +ℤ (c *ℤ d)) (let s = abs_add (a *ℤ b) (c *ℤ d) in let e = abs_mul a b in let f = abs_mul c d in omega arith)

pub products_bound : (a b c d : ℤ) → unsigned_abs ((a *ℤ b) +ℤ (c *ℤ d)) ≤ unsigned_abs a * unsigned_abs b + unsigned_abs c * unsigned_abs d
products_bound a b c d = let s = abs_add (a *ℤ b) (c *ℤ d) in let e = abs_mul a b in let f = abs_mul c d in omega arith

-- THE bound, over the sizes: where a product of factors of these sizes has room, so has every product of smaller ones
pub small : (A B : ℕ) (x y : ℤ) → Room (A * B) → unsigned_abs x ≤ A → unsigned_abs y ≤ B → Small x y
small A B x y r h k = let b : unsigned_abs x * unsigned_abs y ≤ A * B = NatL.mul-le-mul h k in omega arith

-- the same of factors as they are passed in words
pub small_words : (A B : ℕ) (x y : ℤ) → FitsSigned w64 x → FitsSigned w64 y → Room (A * B) → unsigned_abs x ≤ A → unsigned_abs y ≤ B → Small (to_z w64 (of_z w64 x)) (to_z w64 (of_z w64 y))
small_words A B x y f g r h k = subst (λ (z : ℤ). Small z (to_z w64 (of_z w64 y))) (sym (word x f)) (subst (Small x) (sym (word y g)) (small A B x y r h k))

-- a sum of two products as it comes from words
pub two_words : (r a b c d : ℤ) → FitsSigned w64 a → FitsSigned w64 b → FitsSigned w64 c → FitsSigned w64 d
    → r ≡ (to_z w64 (of_z w64 a) *ℤ to_z w64 (of_z w64 b)) +ℤ (to_z w64 (of_z w64 c) *ℤ to_z w64 (of_z w64 d)) → r ≡ (a *ℤ b) +ℤ (c *ℤ d)
two_words r a b c d fa fb fc fd e = e ∙ ap₂ ◌+ℤ◌ (ap₂ ◌*ℤ◌ (word a fa) (word b fb)) (ap₂ ◌*ℤ◌ (word c fc) (word d fd))

pub product_words : (r a b : ℤ) → FitsSigned w64 a → FitsSigned w64 b → r ≡ to_z w64 (of_z w64 a) *ℤ to_z w64 (of_z w64 b) → r ≡ a *ℤ b
product_words r a b fa fb e = e ∙ ap₂ ◌*ℤ◌ (word a fa) (word b fb)
