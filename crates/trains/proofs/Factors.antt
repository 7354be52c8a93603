-- The factors of a train by their places, and how large they are. Assumes nothing.
use Rattle.std.proofs.Common.{◌≡◌, ℕ, ◌+◌, ◌-◌, ◌*◌, ◌^◌, ◌<◌, ◌≤◌, ℤ, ◌*ℤ◌, neg_ℤ, nat_abs, sym, ap, ◌∙◌, subst, ap₂, mul-le-mul, arith, w64, SFits, to_z, of_z}
use Rattle.numbers.specs.Machine.{fits}
use Rattle.std.proofs.lemmas.Int.{to_z-of_z}
use Rattle.algebra.proofs.Integers.{abs_mul}
use Rattle.control.specs.Matrix.{join}
use Rattle.control.proofs.Lists.{join_left, join_right}
use Rattle.lines.specs.Whole.{cell}
use Rattle.feed_types.specs.declared.types.Train.{Train}
use Rattle.trains.specs.Weights.{factor}

pub factor_move : (first nx : ℕ) (t : Train) (a : ℕ) → a < first → factor first nx t a ≡ cell t.moves a
factor_move first nx t a h = join_left first (cell t.moves) (join nx (cell t.late) (λ _. neg_ℤ t.aim)) a h

after_moves : (first nx : ℕ) (t : Train) (a : ℕ) → first ≤ a → factor first nx t a ≡ join nx (cell t.late) (λ _. neg_ℤ t.aim) (a - first)
after_moves first nx t a h =
    let e : a ≡ first + (a - first) = omega arith in
    ap (factor first nx t) e ∙ join_right first (cell t.moves) (join nx (cell t.late) (λ _. neg_ℤ t.aim)) (a - first)

pub factor_late : (first nx : ℕ) (t : Train) (a : ℕ) → first ≤ a → a - first < nx → factor first nx t a ≡ cell t.late (a - first)
factor_late first nx t a h l = after_moves first nx t a h ∙ join_left nx (cell t.late) (λ _. neg_ℤ t.aim) (a - first) l

pub factor_aim : (first nx : ℕ) (t : Train) (a : ℕ) → first ≤ a → nx ≤ a - first → factor first nx t a ≡ neg_ℤ t.aim
factor_aim first nx t a h l =
    let e : a - first ≡ nx + (a - first - nx) = omega arith in
    after_moves first nx t a h ∙ ap (join nx (cell t.late) (λ _. neg_ℤ t.aim)) e ∙ join_right nx (cell t.late) (λ _. neg_ℤ t.aim) (a - first - nx)

pub abs_product : (x y : ℤ) (a b : ℕ) → nat_abs x ≤ a → nat_abs y ≤ b → nat_abs (x *ℤ y) ≤ a * b
abs_product x y a b h l = subst (λ (k : ℕ). k ≤ a * b) (sym (abs_mul x y)) (mul-le-mul h l)

-- ---- a small number is itself, to the bits of a word and back
abbrev pub word : ℤ → ℤ
word z = to_z w64 (of_z w64 z)

pub word_is : (z : ℤ) → nat_abs z < 2 ^ 63 → word z ≡ z
word_is z h = to_z-of_z w64 z (fits z h)

-- a weight times two factors
module _ (w f g : ℤ) (hw : nat_abs w ≤ 65535) (hf : nat_abs f ≤ 32768) (hg : nat_abs g ≤ 32768) where
  two_bound : nat_abs (w *ℤ f) ≤ 65535 * 32768
  two_bound = abs_product w f 65535 32768 hw hf

  pub share_bound : nat_abs ((w *ℤ f) *ℤ g) ≤ 65535 * 32768 * 32768
  share_bound = abs_product (w *ℤ f) g (65535 * 32768) 32768 two_bound hg

  product_is : word (word w *ℤ word f) *ℤ word g ≡ (w *ℤ f) *ℤ g
  product_is = ap₂ ◌*ℤ◌ (ap word (ap₂ ◌*ℤ◌ (word_is w (omega arith)) (word_is f (omega arith))) ∙ word_is (w *ℤ f) (let h = two_bound in omega arith)) (word_is g (omega arith))

  pub share_fits : SFits w64 (word (word w *ℤ word f) *ℤ word g)
  share_fits = subst (SFits w64) (sym product_is) (fits ((w *ℤ f) *ℤ g) (let h = share_bound in omega arith))

  pub share_is : word (word (word w *ℤ word f) *ℤ word g) ≡ (w *ℤ f) *ℤ g
  share_is = ap word product_is ∙ word_is ((w *ℤ f) *ℤ g) (let h = share_bound in omega arith)
