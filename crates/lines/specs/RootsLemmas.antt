-- A number with a root is found by its lowest parts. Assumes nothing.
use Rattle.std.specs.Prelude.{ℕ, pos, refl}
use Rattle.algebra.specs.Exact.{exact}
use Rattle.numbers.specs.Forms.{has_form}
use Rattle.numbers.specs.RootValues.{root_value}
use Rattle.numbers.specs.Roots.{root_size, Under}
use Rattle.numbers.specs.RootKind.{holds_exactly}
use Rattle.lines.specs.Kinds.{Finds}
use Rattle.lines.specs.Roots.{find_root}
use Rattle.lines.specs.FractionsLemmas.{picked, formed}

pub root_finds : (X : Type 0) (D : ℕ) → Under D → Finds (root_value {X = X} D) find_root
root_finds X D u p q m l =
    picked (root_value {X = X} D) (exact D p q m) (has_form root_size (record { p = p; q = q; m = pos m })) (λ t. record { row = record { p = p; q = q; m = pos m }; radicand = record {}; form = t })
    (λ t. refl) (λ n h. let s = (holds_exactly X D u p q m l).0 h in n (formed D root_size p q m l s.0 s.1 s.2))
