-- The line with trains is lawful, and its marks are its own or those of the line below. Assumes nothing.
use Rattle.std.specs.Prelude.{◌≡◌, ℕ, suc, ◌-◌, min, max, Bool, true, false, cond, ◌&&◌, ◌⊎◌, ℤ, Option, nat_lt, refl}
use Rattle.std.proofs.Common.{sym, ◌∙◌, ap, ap₂, subst, inl, inr, arith}
use Rattle.std.proofs.Math.Nat as NatL
use Rattle.std.proofs.lemmas.Bool.Decides.{nat_tests}
use Rattle.algebra.specs.Exact.{Exact, whole_e, zero_e, add_e}
use Rattle.lines.specs.Kinds.{entry_of}
use Rattle.lines.specs.Laws.{Means, Lawful, Levelled, layer, Marks, in_F, in_G, G_mark, place_mark}
use Rattle.lines.specs.Meaning.{Entry, marked, Meaning, order}
use Rattle.lines.specs.declared.faults.Mark.{Mark}
use Rattle.lines.specs.WholeLines.{unless, entry_mark}
use Rattle.aims.specs.Aimed.{raised}
use Rattle.aims.specs.Layered.{after_mark}
use Rattle.feed_types.specs.Reading.{Register}
use Rattle.trains.specs.Trained.{weighs, added, trains_line}
use Rattle.trains.specs.Weights.{weighed}

module _ {A : Type 0} {D : ℕ} (value : A → Exact D) (find : ℤ → ℤ → ℕ → Option A) (r : Register) (b : Meaning A) where
  abbrev here : Meaning A
  here = trains_line value find r b

  added_mark : (m e : Mark) (x : Entry A) (z : ℤ) → added value find r b m x z ≡ marked e → (e ≡ m) ⊎ (x ≡ marked e)
  added_mark m e x z h =
      after_mark ((e ≡ m) ⊎ (x ≡ marked e)) x _ e h inr
      (λ y _ p. after_mark ((e ≡ m) ⊎ (x ≡ marked e)) (entry_of find m (whole_e D z)) _ e p (λ q. inl (entry_mark find m e (whole_e D z) q)) (λ v _ q. inl (entry_mark find m e (add_e (value y) (value v)) q)))

  placed_mark : (n a c : ℕ) (e : Mark) (z : ℤ) (x : Bool) → cond x (added value find r b (G_mark here n a c) (b.G n a c) z) (b.G n a c) ≡ marked e → (e ≡ G_mark here n a c) ⊎ Marks b e
  placed_mark n a c e z true h = elim (added_mark (G_mark here n a c) e (b.G n a c) z h) [ inl p ↦ inl p | inr p ↦ inr (in_G n a c p) ]
  placed_mark n a c e z false h = inr (in_G n a c h)

  pub trains_levelled : Levelled b → Levelled here
  trains_levelled l = layer l refl (record {
    marks_F = λ n k c e h. inr (in_F n k c h);
    marks_G = λ n a c e h. placed_mark n a c e _ (weighs r.sizes b && nat_lt (max a c) (order b n)) h;
  })

  abbrev place : ℕ → ℕ → ℕ → Entry A → Entry A
  place n lo hi x = cond (weighs r.sizes b && nat_lt hi (order b n)) (added value find r b (place_mark (raised b.level) n lo hi) x (weighed n (order b n - suc b.nx) b.nx r.trains lo hi)) x

  pub trains_lawful : Lawful value b → Lawful value here
  trains_lawful l = record {
    outside_F = l.outside_F;
    outside_G = λ n a c o. subst (λ (x : Entry A). Means value x (zero_e D))
        (sym (unless (weighs r.sizes b && nat_lt (max a c) (order b n)) _ (b.G n a c) (λ h. o (grind (arith, nat_tests), grind (arith, nat_tests))))) (l.outside_G n a c o);
    last_row = l.last_row;
    corner = l.corner;
    mirror = λ n a c. ap₂ (λ (lo hi : ℕ). place n lo hi (b.G n a c)) (NatL.min_comm a c) (NatL.max_comm a c) ∙ ap (place n (min c a) (max c a)) (l.mirror n a c);
  }
