-- The entry of a place, from what was asked and worked for it. Assumes nothing.
use Rattle.std.proofs.Common.{◌≡◌, ℕ, suc, ◌-◌, min, max, ◌&&◌, T, ltb, ℤ, Option, Result, refl, sym, ◌∙◌, subst, ap₂}
use Rattle.algebra.specs.Exact.{Exact}
use Rattle.lines.specs.Laws.{place_mark}
use Rattle.lines.specs.Meaning.{Entry, holds, Meaning, Answer, order}
use Rattle.lines.specs.declared.faults.LineFault.{LineFault}
use Rattle.lines.specs.declared.faults.Mark.{Mark}
use Rattle.lines.specs.WholeLines.{when}
use Rattle.aims.specs.Aimed.{raised}
use Rattle.aims.proofs.Aiming.{after_holds}
use Rattle.feed_types.specs.Reading.{Register}
use Rattle.trains.specs.Trained.{weighs, plus_whole, added, trains_line}
use Rattle.trains.specs.Weights.{weighed}

pub placed : {A : Type 0} {D : ℕ} (value : A → Exact D) (find : ℤ → ℤ → ℕ → Option A) (r : Register) (b : Meaning A) (n a c : ℕ) (m : Mark) (y : A) (z : ℤ) (x : Result A LineFault)
    → m ≡ place_mark (raised b.level) n (min a c) (max a c) → b.G n a c ≡ holds y → T (weighs r.sizes b && ltb (max a c) (order b n)) → z ≡ weighed n (order b n - suc b.nx) b.nx r.trains (min a c) (max a c)
    → Answer (plus_whole value find m y z) x → Answer ((trains_line value find r b).G n a c) x
placed {A} value find r b n a c m y z x em eg t ez h =
    let sum = weighed n (order b n - suc b.nx) b.nx r.trains (min a c) (max a c) in
    let at = place_mark (raised b.level) n (min a c) (max a c) in
    let e : (trains_line value find r b).G n a c ≡ plus_whole value find m y z =
    when (weighs r.sizes b && ltb (max a c) (order b n)) (added value find r b at (b.G n a c) sum) (b.G n a c) t
    ∙ after_holds (b.G n a c) _ y (plus_whole value find at y sum) eg refl
    ∙ sym (ap₂ (λ (k : Mark) (w : ℤ). plus_whole value find k y w) em ez) in
    subst (λ (w : Entry A). Answer w x) (sym e) h
