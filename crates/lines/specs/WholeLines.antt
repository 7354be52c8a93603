-- A line of whole numbers that are small is lawful, and marks nothing of another level. Assumes nothing.
use Rattle.std.specs.Prelude.{◌≡◌, ℕ, zero, suc, ◌+◌, ◌≤◌, min, max, Bool, true, false, cond, ◌&&◌, T, ℤ, pos, Some, None, Option, ◌≢◌, nat_lt, unsigned_abs, refl}
use Rattle.std.proofs.Common.{sym, ◌∙◌, ap, ap₂, subst, arith}
use Rattle.std.proofs.Math.Nat as NatL
use Rattle.std.proofs.lemmas.Bool.Decides.{nat_tests}
use Rattle.algebra.specs.Exact.{Exact, exact, whole_e, zero_e, one_e}
use Rattle.algebra.proofs.Triples.{exact_zero}
use Rattle.numbers.specs.Answers.{Held}
use Rattle.lines.specs.declared.faults.Mark.{Mark}
use Rattle.lines.specs.Kinds.{Finds, look_up, kept, entry_of}
use Rattle.lines.specs.Laws.{Means, Lawful, Own, Levelled, bottom, place_mark, Unmarked, in_F, in_G}
use Rattle.lines.specs.Meaning.{holds, marked, Meaning, order_of}
use Rattle.lines.specs.Whole.{whole_F, whole_G, whole_line, Small}
use Rattle.lines.specs.Finding.{entry_means}

pub whole_zero : (D : ℕ) → whole_e D (pos 0) ≡ zero_e D
unfolding whole_e
whole_zero D = exact_zero D 1 (omega arith)

pub whole_one : (D : ℕ) → whole_e D (pos 1) ≡ one_e D
unfolding whole_e exact Rattle.algebra.specs.Rational.over
whole_one zero = refl
whole_one (suc D) = refl

-- ---- tests
pub when : {X : Type 0} (b : Bool) (x y : X) → T b → cond b x y ≡ x
when true x y t = refl
when false x y t = elim t [ ]

pub unless : {X : Type 0} (b : Bool) (x y : X) → ¬ T b → cond b x y ≡ y
unless true x y n = absurd (n tt)
unless false x y n = refl

-- ---- the mark of an entry is the one it was given
kept_mark : {A : Type 0} (m e : Mark) (o : Option A) → kept m o ≡ marked e → e ≡ m
kept_mark m e (Some k) h = absurd cc
kept_mark m e None h = cc

pub entry_mark : {A : Type 0} {D : ℕ} (find : ℤ → ℤ → ℕ → Option A) (m e : Mark) (x : Exact D) → entry_of find m x ≡ marked e → e ≡ m
unfolding entry_of
entry_mark find m e x h = kept_mark m e (look_up find x) h

module _ {A : Type 0} {D : ℕ} (value : A → Exact D) (find : ℤ → ℤ → ℕ → Option A) (finds : Finds value find)
    (wholes : (w : ℤ) → unsigned_abs w ≤ 9999 → Held value (whole_e D w)) (end nx nu : ℕ) (f g : ℕ → ℕ → ℕ → ℤ) where
  abbrev here : Meaning A
  here = whole_line D find end nx nu f g

  means : (m : Mark) (w v : ℤ) (x : Exact D) → w ≡ v → Small v → whole_e D v ≡ x → Means value (entry_of find m (whole_e D w)) x
  means m w v x e s h =
      subst (λ (y : Exact D). Means value (entry_of find m (whole_e D w)) y) (ap (whole_e D) e ∙ h) (entry_means value find finds (whole_e D w) m (subst (λ (y : ℤ). Held value (whole_e D y)) (sym e) (wholes v s)))

  pub whole_lawful : Lawful value here
  whole_lawful = record {
    outside_F = λ n k c o. means (place_mark 0 n k c) (whole_F end nx nu f n k c) (pos 0) (zero_e D)
        (grind (arith, nat_tests))
        (omega arith) (whole_zero D);
    outside_G = λ n a c o. means (place_mark 0 n (min a c) (max a c)) (whole_G end nx nu g n a c) (pos 0) (zero_e D)
        (grind (arith, nat_tests))
        (omega arith) (whole_zero D);
    last_row = λ n c h i. means (place_mark 0 n nx c) (whole_F end nx nu f n nx c) (pos 0) (zero_e D)
        (grind (arith, nat_tests))
        (omega arith) (whole_zero D);
    corner = λ n h. means (place_mark 0 n nx (nu + nx)) (whole_F end nx nu f n nx (nu + nx)) (pos 1) (one_e D)
        (grind (arith, nat_tests))
        (omega arith) (whole_one D);
    mirror = λ n a c. ap₂ (λ (lo hi : ℕ). entry_of find (place_mark 0 n lo hi) (whole_e D (cond (nat_lt hi (order_of end nx nu n)) (g n lo hi) (pos 0)))) (NatL.min_comm a c) (NatL.max_comm a c);
  }

  pub whole_own : Own here
  whole_own = record {
    marks_F = λ n k c e h. entry_mark find (place_mark 0 n k c) e (whole_e D (whole_F end nx nu f n k c)) h;
    marks_G = λ n a c e h. entry_mark find (place_mark 0 n (min a c) (max a c)) e (whole_e D (whole_G end nx nu g n a c)) h;
  }

  pub whole_levelled : Levelled here
  whole_levelled = bottom refl whole_own

  -- small numbers are held, so nothing is marked
  held_unmarked : (m e : Mark) (w : ℤ) → Small w → entry_of find m (whole_e D w) ≢ marked e
  held_unmarked m e w s h =
      let k = entry_means value find finds (whole_e D w) m (wholes w s) in
      let same : holds k.0 ≡ marked e = sym k.1.0 ∙ h in
      cc

  pub whole_unmarked : ((n k c : ℕ) → Small (f n k c)) → ((n a c : ℕ) → Small (g n a c)) → Unmarked here
  whole_unmarked small_f small_g e (in_F n k c h) =
      held_unmarked (place_mark 0 n k c) e (whole_F end nx nu f n k c) (let p = small_f n k c in grind (arith, nat_tests)) h
  whole_unmarked small_f small_g e (in_G n a c h) =
      held_unmarked (place_mark 0 n (min a c) (max a c)) e (whole_G end nx nu g n a c) (let p = small_g n (min a c) (max a c) in grind (arith, nat_tests)) h
