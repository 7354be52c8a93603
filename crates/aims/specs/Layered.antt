-- The line with aims is lawful, and its marks are its own or those of the line below. Assumes nothing.
use Rattle.std.specs.Prelude.{◌≡◌, ℕ, zero, suc, ◌+◌, ◌-◌, min, max, Bool, true, false, cond, ◌⊎◌, ℤ, Option, ◌==◌, refl}
use Rattle.std.proofs.Common.{sym, ◌∙◌, ap, ap₂, subst, inl, inr, arith}
use Rattle.std.proofs.Math.Nat as NatL
use Rattle.std.proofs.lemmas.Bool.Decides.{nat_tests}
use Rattle.algebra.specs.Exact.{Exact, whole_e, zero_e, add_e, neg_e, mul_e}
use Rattle.lines.specs.Kinds.{entry_of}
use Rattle.lines.specs.Laws.{Means, Lawful, Levelled, layer, Marks, in_F, in_G, G_mark, place_mark}
use Rattle.lines.specs.Meaning.{Entry, holds, marked, Meaning, order}
use Rattle.lines.specs.declared.faults.Mark.{Mark}
use Rattle.lines.specs.WholeLines.{unless, entry_mark}
use Rattle.aims.specs.Aimed.{column, corner, bordered, aims_line, raised, states_aimed}
use Rattle.aims.specs.Entries.{after, less, times_whole}

-- where a mark comes from: the entry, or the work after it
pub after_mark : {A : Type 0} (P : Type 0) (x : Entry A) (f : A → Entry A) (e : Mark) → after x f ≡ marked e → (x ≡ marked e → P) → ((k : A) → x ≡ holds k → f k ≡ marked e → P) → P
after_mark P (holds k) f e h p q = q k refl h
after_mark P (marked m) f e h p q = p h

module _ {A : Type 0} {D : ℕ} (value : A → Exact D) (find : ℤ → ℤ → ℕ → Option A) where
  pub less_mark : (m : Mark) (s k : A) (t : ℤ) (e : Mark) → less value find m s k t ≡ marked e → e ≡ m
  less_mark m s k t e h =
      after_mark (e ≡ m) (times_whole value find m k t) _ e h
      (λ p. after_mark (e ≡ m) (entry_of find m (whole_e D t)) _ e p (λ q. entry_mark find m e (whole_e D t) q) (λ v _ q. entry_mark find m e (mul_e (value k) (value v)) q))
      (λ p _ q. entry_mark find m e (add_e (value s) (neg_e (value p))) q)

module _ {A : Type 0} {D : ℕ} (value : A → Exact D) (find : ℤ → ℤ → ℕ → Option A) (t : ℕ → ℕ → ℤ) (b : Meaning A) where
  abbrev here : Meaning A
  here = aims_line value find t b

  module _ (m : Mark) (n last first : ℕ) (e : Mark) where
    abbrev From : Type 0
    From = (e ≡ m) ⊎ Marks b e

    column_mark : (a j : ℕ) → column value find t b m n a last first j ≡ marked e → From
    column_mark a zero h = inr (in_G n a last h)
    column_mark a (suc j) h =
        after_mark From (column value find t b m n a last first j) _ e h (column_mark a j)
        (λ s _ p. after_mark From (b.G n a (first + j)) _ e p (λ q. inr (in_G n a (first + j) q)) (λ k _ q. inl (less_mark value find m s k (t n j) e q)))

    corner_mark : (j : ℕ) → corner value find t b m n last first j ≡ marked e → From
    corner_mark zero h = inr (in_G n last last h)
    corner_mark (suc j) h =
        after_mark From (corner value find t b m n last first j) _ e h (corner_mark j)
        (λ s _ p. after_mark From (column value find t b m n (first + j) last first (states_aimed b.nx)) _ e p (column_mark (first + j) (states_aimed b.nx))
        (λ new _ q. after_mark From (b.G n (first + j) last) _ e q (λ r. inr (in_G n (first + j) last r))
        (λ old _ r. after_mark From (entry_of find m (add_e (value new) (value old))) _ e r (λ u. inl (entry_mark find m e (add_e (value new) (value old)) u)) (λ k _ u. inl (less_mark value find m s k (t n j) e u)))))

  bordered_mark : (m : Mark) (n a last : ℕ) (e : Mark) (x : Bool) → cond x (corner value find t b m n last (last - b.nx) (states_aimed b.nx)) (column value find t b m n a last (last - b.nx) (states_aimed b.nx)) ≡ marked e → (e ≡ m) ⊎ Marks b e
  bordered_mark m n a last e true h = corner_mark m n last (last - b.nx) e (states_aimed b.nx) h
  bordered_mark m n a last e false h = column_mark m n last (last - b.nx) e a (states_aimed b.nx) h

  placed_mark : (n a c : ℕ) (e : Mark) (x : Bool) → cond x (bordered value find t b (G_mark here n a c) n (min a c) (max a c)) (b.G n a c) ≡ marked e → (e ≡ G_mark here n a c) ⊎ Marks b e
  placed_mark n a c e true h = bordered_mark (G_mark here n a c) n (min a c) (max a c) e (min a c == max a c) h
  placed_mark n a c e false h = inr (in_G n a c h)

  pub aims_levelled : Levelled b → Levelled here
  aims_levelled l = layer l refl (record {
    marks_F = λ n k c e h. inr (in_F n k c h);
    marks_G = λ n a c e h. placed_mark n a c e (suc (max a c) == order b n) h;
  })

  pub aims_lawful : Lawful value b → Lawful value here
  aims_lawful l = record {
    outside_F = l.outside_F;
    outside_G = λ n a c o. subst (λ (x : Entry A). Means value x (zero_e D))
        (sym (unless (suc (max a c) == order b n) _ (b.G n a c) (λ h. o (grind (arith, nat_tests), grind (arith, nat_tests))))) (l.outside_G n a c o);
    last_row = l.last_row;
    corner = l.corner;
    mirror = λ n a c.
        ap₂ (λ (lo hi : ℕ). cond (suc hi == order b n) (bordered value find t b (place_mark (raised b.level) n lo hi) n lo hi) (b.G n a c)) (NatL.min_comm a c) (NatL.max_comm a c)
        ∙ ap (λ (x : Entry A). cond (suc (max c a) == order b n) (bordered value find t b (place_mark (raised b.level) n (min c a) (max c a)) n (min c a) (max c a)) x) (l.mirror n a c);
  }
