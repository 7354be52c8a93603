-- Shapes that the test calls the same are the same. Assumes nothing.
use Rattle.std.proofs.Common.{◌≡◌, ℕ, Bool, true, false, ◌&&◌, T, eqb, ap, ◌∙◌, ap₂, eqb→eq}
use Rattle.study_terms.specs.Shapes.{Shape, same_shape}

both : (a b : Bool) → T (a && b) → T a × T b
both true b h = (tt, h)
both false b h = absurd h

pub same_shapes : (s t : Shape) → T (same_shape s t) → s ≡ t
same_shapes s t h =
    let p = both (eqb s.end t.end && eqb s.nx t.nx) (eqb s.nu t.nu) h in
    let q = both (eqb s.end t.end) (eqb s.nx t.nx) p.0 in
    let make : ℕ → ℕ → ℕ → Shape = λ e x u. record { end = e; nx = x; nu = u } in
    ap₂ (λ e x. make e x s.nu) (eqb→eq s.end t.end q.0) (eqb→eq s.nx t.nx q.1)
    ∙ ap (make t.end t.nx) (eqb→eq s.nu t.nu p.1)
