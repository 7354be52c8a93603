-- A steady line is a lawful line, and has no mark where its numbers are small. Assumes nothing.
use Rattle.std.specs.Prelude.{◌≡◌, ℕ, ◌+◌, ◌≤◌, Bool, true, false, cond, ◌&&◌, T, List, take, drop, ℤ, pos, Option, ◌==◌, unsigned_abs, refl}
use Rattle.std.proofs.Common.{sym, ◌∙◌, subst, arith}
use Rattle.std.proofs.Math.Decide.{dec_lt}
use Rattle.std.proofs.lemmas.Bool.Decides.{nat_tests}
use Rattle.std.proofs.lemmas.List.{get_or_past, get_or-take, get_or-drop, length-take}
use Rattle.algebra.specs.Exact.{Exact, whole_e, zero_e}
use Rattle.numbers.specs.Answers.{Held}
use Rattle.lines.specs.declared.faults.Mark.{Mark}
use Rattle.lines.specs.Kinds.{Finds}
use Rattle.lines.specs.Laws.{Means, Lawful, Own, Levelled, bottom, Unmarked, in_F, in_G}
use Rattle.lines.specs.Meaning.{Entry, holds, marked, Meaning, InG}
use Rattle.lines.specs.Steadies.{steady_F, steady_G, steady_line, weighted}
use Rattle.lines.specs.Tables.{upper}
use Rattle.lines.specs.Whole.{Small, SmallFrom, whole_line}
use Rattle.lines.specs.WholeLines.{unless, whole_lawful, whole_own, whole_unmarked}

module _ {A : Type 0} {D : ℕ} (value : A → Exact D) (w : A) (m : Meaning A) where
  abbrev place : ℕ → ℕ → ℕ → Bool
  place n a c = n == m.end && a == 0 && c == 0

  swapped : (p x y : Bool) (e e' : Entry A) → e ≡ e' → cond (p && x && y) (holds w) e ≡ cond (p && y && x) (holds w) e'
  swapped false x y e e' h = h
  swapped true false false e e' h = h
  swapped true false true e e' h = h
  swapped true true false e e' h = h
  swapped true true true e e' h = refl

  unheld : (b : Bool) (e : Entry A) (k : Mark) → cond b (holds w) e ≡ marked k → e ≡ marked k
  unheld true e k h = absurd cc
  unheld false e k h = h

  -- the lateness at the last stop has a place there
  inside : (n a c : ℕ) → T (place n a c) → InG m n a c
  inside n a c t = (grind (arith, nat_tests), grind (arith, nat_tests))

  pub weighted_lawful : Lawful value m → Lawful value (weighted w m)
  weighted_lawful l = record {
    outside_F = l.outside_F;
    outside_G = λ n a c o. subst (λ (e : Entry A). Means value e (zero_e D)) (sym (unless (place n a c) (holds w) (m.G n a c) (λ t. o (inside n a c t)))) (l.outside_G n a c o);
    last_row = l.last_row;
    corner = l.corner;
    mirror = λ n a c. swapped (n == m.end) (a == 0) (c == 0) (m.G n a c) (m.G n c a) (l.mirror n a c);
  }

  pub weighted_own : Own m → Own (weighted w m)
  weighted_own o = record {
    marks_F = o.marks_F;
    marks_G = λ n a c e h. o.marks_G n a c e (unheld (place n a c) (m.G n a c) e h);
  }

  pub weighted_unmarked : Unmarked m → Unmarked (weighted w m)
  weighted_unmarked u e (in_F n k c h) = u e (in_F n k c h)
  weighted_unmarked u e (in_G n a c h) = u e (in_G n a c (unheld (place n a c) (m.G n a c) e h))

module _ {A : Type 0} {D : ℕ} (value : A → Exact D) (find : ℤ → ℤ → ℕ → Option A) (finds : Finds value find)
    (wholes : (w : ℤ) → unsigned_abs w ≤ 9999 → Held value (whole_e D w)) (end : ℕ) (fs gs : List ℤ) (w : A) where
  abbrev below : Meaning A
  below = whole_line D find end 1 1 (steady_F fs) (steady_G end gs)

  pub steady_lawful : Lawful value (steady_line D find end fs gs w)
  steady_lawful = weighted_lawful value w below (whole_lawful value find finds wholes end 1 1 (steady_F fs) (steady_G end gs))

  pub steady_levelled : Levelled (steady_line D find end fs gs w)
  steady_levelled = bottom refl (weighted_own value w below (whole_own value find finds wholes end 1 1 (steady_F fs) (steady_G end gs)))

  pub steady_unmarked : SmallFrom 0 fs → SmallFrom 0 gs → Unmarked (steady_line D find end fs gs w)
  steady_unmarked f g =
      weighted_unmarked value w below
      (whole_unmarked value find finds wholes end 1 1 (steady_F fs) (steady_G end gs) (λ n k c. f c (omega arith))
      (λ n a c. let p = g (upper 3 a c) (omega arith) in grind (arith, nat_tests)))

-- a part of a list of small numbers
pub part_small : (j i n : ℕ) (zs : List ℤ) → j ≤ i → SmallFrom j zs → SmallFrom 0 (take n (drop i zs))
part_small j i n zs h s k _ =
    elim (dec_lt k n) [
      | yes l ↦ subst Small (sym (get_or-take n (drop i zs) k (pos 0) l ∙ get_or-drop i zs k (pos 0))) (s (i + k) (omega arith))
      | no g ↦ subst Small (sym (get_or_past (take n (drop i zs)) k (pos 0) (omega (arith, length-take n (drop i zs))))) (omega arith)
    ]
