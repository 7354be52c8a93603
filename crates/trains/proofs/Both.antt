-- Trains over aims: both laws together. Assumes nothing.
use Rattle.std.proofs.Common.{◌≡◌, ℕ, suc, ◌-◌, min, max, Bool, true, false, cond, ◌&&◌, ltb, ℤ, Some, None, Option, ap, ◌∙◌}
use Rattle.feed_types.specs.declared.types.Sizes.{Sizes}
use Rattle.algebra.specs.Exact.{Exact, Radicand, zero_e, add_e}
use Rattle.lines.specs.Laws.{place_mark}
use Rattle.lines.specs.Meaning.{holds, Meaning, order}
use Rattle.aims.specs.Aimed.{aims_line, raised}
use Rattle.aims.specs.Shifting.{HeldStop, Shifts}
use Rattle.aims.proofs.Shifted.{after_held}
use Rattle.feed_types.specs.Reading.{Register}
use Rattle.trains.specs.Adding.{book_cost, Adds, ShiftsAndAdds}
use Rattle.trains.specs.Trained.{weighs, Fits, added, trains_line}
use Rattle.trains.specs.Weights.{weighed}

module _ {A : Type 0} {D : ℕ} (value : A → Exact D) (find : ℤ → ℤ → ℕ → Option A) (r : Register) (m : Meaning A) where
  -- what the layer holds, the line below holds
  pub held_below : (n : ℕ) → HeldStop (trains_line value find r m) n → HeldStop m n
  held_below n all a c h = go (weighs r.sizes m && ltb (max a c) (order m n)) (all a c h)
    where
      sum : ℤ
      sum = weighed n (order m n - suc m.nx) m.nx r.trains (min a c) (max a c)

      go : (x : Bool) → (k : A) × (cond x (added value find r m (place_mark (raised m.level) n (min a c) (max a c)) (m.G n a c) sum) (m.G n a c) ≡ holds k) → (k : A) × (m.G n a c ≡ holds k)
      go true (k, e) = let y = after_held (m.G n a c) _ k e in (y.0, y.1.0)
      go false (k, e) = (k, e)

pub shifts_and_adds : {A : Type 0} {D : ℕ} (good : Radicand D) (value : A → Exact D) (find : ℤ → ℤ → ℕ → Option A) (r : Register) (b : Meaning A) (t : ℕ → ℕ → ℤ)
    → Shifts good value (aims_line value find t b) b t → Adds good value (trains_line value find r (aims_line value find t b)) (aims_line value find t b) r.trains
    → ShiftsAndAdds good value (trains_line value find r (aims_line value find t b)) b t r.trains
shifts_and_adds {A} {D} good value find r b t s a = record {
  stage = λ n u x h all. a.stage n u x h all
      ∙ ap (λ (y : Exact D). add_e y (book_cost good b.nx b.nu n r.trains u x)) (s.stage n u x h (held_below value find r (aims_line value find t b) n all));
  final = λ x all. a.final x all
      ∙ ap (λ (y : Exact D). add_e y (book_cost good b.nx 0 b.end r.trains (λ _. zero_e D) x)) (s.final x (held_below value find r (aims_line value find t b) b.end all));
  travel = λ n u x k. a.travel n u x k ∙ s.travel n u x k;
}

-- the layer has the sizes of the line below
pub fits_below : {A : Type 0} {D : ℕ} (value : A → Exact D) (find : ℤ → ℤ → ℕ → Option A) (t : ℕ → ℕ → ℤ) (b : Meaning A) (o : Option Sizes) → Fits o (aims_line value find t b) → Fits o b
fits_below value find t b None h = h
fits_below value find t b (Some s) h = h
