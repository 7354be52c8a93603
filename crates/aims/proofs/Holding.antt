-- What the line with aims holds, the line below holds. Assumes nothing.
use Rattle.std.proofs.Common.{◌≡◌, ℕ, zero, suc, ◌-◌, min, max, Bool, true, false, cond, T, eqb, ℤ, Option, sym, refl, ◌∙◌, subst, ap₂, arith, eqb→eq}
use native.Mathlib.Decide.{dec_lt}
use Rattle.algebra.specs.Exact.{Exact}
use Rattle.lines.specs.Laws.{Lawful, place_mark}
use Rattle.lines.specs.Meaning.{Entry, holds, Meaning, order}
use Rattle.lines.specs.declared.faults.Mark.{Mark}
use Rattle.aims.specs.Aimed.{column, corner, aims_line, raised, states_aimed}
use Rattle.aims.specs.Shifting.{HeldStop}
use Rattle.aims.proofs.Shifted.{after_held}

-- a table that is its own mirror, read above the diagonal
pub ordered : {X : Type 0} (f : ℕ → ℕ → X) → ((a c : ℕ) → f a c ≡ f c a) → (a c : ℕ) → f (min a c) (max a c) ≡ f a c
ordered f same a c =
    elim (dec_lt a c) [
      | yes p ↦ (let lo : min a c ≡ a = omega arith in let hi : max a c ≡ c = omega arith in ap₂ f lo hi)
      | no p ↦ (let lo : min a c ≡ c = omega arith in let hi : max a c ≡ a = omega arith in ap₂ f lo hi ∙ same c a)
    ]

module _ {A : Type 0} {D : ℕ} (value : A → Exact D) (find : ℤ → ℤ → ℕ → Option A) (t : ℕ → ℕ → ℤ) (b : Meaning A) where
  abbrev Holds : Entry A → Type 0
  Holds e = (k : A) × (e ≡ holds k)

  module _ (m : Mark) (n last first : ℕ) where
    column_begins : (a j : ℕ) → Holds (column value find t b m n a last first j) → Holds (b.G n a last)
    column_begins a zero h = h
    column_begins a (suc j) (k, e) = let s = after_held (column value find t b m n a last first j) _ k e in column_begins a j (s.0, s.1.0)

    corner_begins : (j : ℕ) → Holds (corner value find t b m n last first j) → Holds (b.G n last last)
    corner_begins zero h = h
    corner_begins (suc j) (k, e) = let s = after_held (corner value find t b m n last first j) _ k e in corner_begins j (s.0, s.1.0)

  pub held_below : Lawful value b → (n : ℕ) → HeldStop (aims_line value find t b) n → HeldStop b n
  held_below lawful n all a c h = go (eqb (suc (max a c)) (order b n)) (all a c h)
    where
      m : Mark
      m = place_mark (raised b.level) n (min a c) (max a c)

      first : ℕ
      first = max a c - b.nx

      mirrored : Holds (b.G n (min a c) (max a c)) → Holds (b.G n a c)
      mirrored (k, e) = (k, sym (ordered (b.G n) (lawful.mirror n) a c) ∙ e)

      border : (x : Bool) → eqb (min a c) (max a c) ≡ x
          → Holds (cond x (corner value find t b m n (max a c) first (states_aimed b.nx)) (column value find t b m n (min a c) (max a c) first (states_aimed b.nx))) → Holds (b.G n (min a c) (max a c))
      border true e p = subst (λ (i : ℕ). Holds (b.G n i (max a c))) (sym (eqb→eq (min a c) (max a c) (subst T (sym e) tt))) (corner_begins m n (max a c) first (states_aimed b.nx) p)
      border false e p = column_begins m n (max a c) first (min a c) (states_aimed b.nx) p

      go : (x : Bool) → Holds (cond x (cond (eqb (min a c) (max a c)) (corner value find t b m n (max a c) first (states_aimed b.nx)) (column value find t b m n (min a c) (max a c) first (states_aimed b.nx))) (b.G n a c)) → Holds (b.G n a c)
      go true p = mirrored (border (eqb (min a c) (max a c)) refl p)
      go false p = p
