-- The upper half of the recursion's matrices, worked from the upper half alone. Assumes nothing.
use mathlib.Core.Path.{◌≡◌, refl, sym, ap, ◌∙◌}
use Prim.Native.Nat.{ℕ, suc, ◌+◌, ◌<◌, ◌≤◌}
use native.Mathlib.Omega.{arith}
use Rattle.algebra.specs.Field.{OrderedField}
use Rattle.control.specs.Matrix.{sum, SameUpper}
use Rattle.control.specs.Elimination.{scaled, eliminate, reduced}
use Rattle.control.specs.Line.{Line, width, Lawful}
use Rattle.control.specs.Recursion.{M_of, P, T, M, reduced_M, factor}
use Rattle.control.specs.Theorems.{UpperHalf}
use Rattle.control.proofs.Elimination.{upper_scaled, upper_eliminate, upper_reduced}
use Rattle.control.proofs.Elimination as elimination
use Rattle.control.proofs.Stops.{P_step, P_end, P_symmetric, M_symmetric}

module _ {K : OrderedField} (L : Line K) (lawful : Lawful L) where
  infixl 60 ◌⊕◌
  infixl 70 ◌⊗◌
  open K use {Car, ◌⊕◌, ◌⊗◌, neg, inv}
  open L use {nu, nx, end, F, G}

  each_entry : (n a c : ℕ) → M L n a c ≡ G n a c ⊕ sum K (suc nx) (λ k. F n k a ⊗ T L n k c)
  unfolding M_of
  each_entry n a c = refl

  no_input : (n a c : ℕ) → reduced_M L n 0 a c ≡ M L n a c
  unfolding reduced
  no_input n a c = refl

  at_factor : (n i c : ℕ) (A : ℕ → ℕ → Car) → i < c → c < width L → SameUpper K (width L) i A (reduced_M L n i) → A i c ⊗ inv (A i i) ≡ factor L n i c
  unfolding scaled
  at_factor n i c A l q same = upper_scaled K (width L) i A (reduced_M L n i) same c (omega arith) q

  one_input : (n i a c : ℕ) (A : ℕ → ℕ → Car) → i < a → a ≤ c → c < width L → SameUpper K (width L) i A (reduced_M L n i)
      → A a c ⊕ neg (A i a ⊗ factor L n i c) ≡ reduced_M L n (suc i) a c
  unfolding reduced eliminate
  one_input n i a c A l q v same =
      ap (λ t. A a c ⊕ neg (A i a ⊗ t)) (sym (upper_scaled K (width L) i A (reduced_M L n i) same c (omega arith) v))
      ∙ upper_eliminate K (width L) i A (reduced_M L n i) same a c l q v

  what_remains : (n a c : ℕ) (A : ℕ → ℕ → Car) → n < end → a ≤ c → c < suc nx → SameUpper K (width L) nu A (reduced_M L n nu)
      → (A (nu + a) (nu + c) ≡ P L n a c) × (A (nu + a) (nu + c) ≡ P L n c a)
  what_remains n a c A h l q same =
      let e : A (nu + a) (nu + c) ≡ P L n a c = same (nu + a) (nu + c) (omega arith) (omega arith) (omega arith) ∙ ap (λ B. B a c) (sym (P_step L n h)) in
      (e, e ∙ P_symmetric L lawful n (omega arith) a c (omega arith) q)

  pub upper_half_lem : UpperHalf L
  upper_half_lem = record {
    P_symmetric = P_symmetric L lawful;
    M_symmetric = M_symmetric L lawful;
    reduced_symmetric = λ n i h. elimination.reduced_symmetric K (width L) (M L n) (M_symmetric L lawful n h) i;
    last_stop = λ a c. ap (λ A. A a c) (P_end L end refl);
    each_entry = each_entry;
    no_input = no_input;
    at_pivot = λ n i A l same. same i i (omega arith) (omega arith) (omega arith);
    at_factor = at_factor;
    one_input = one_input;
    all_inputs = λ n i A same. upper_reduced K (width L) A (M L n) same i;
    what_remains = what_remains;
  }
