-- The number with a root that has given lowest parts. Assumes nothing.
--
--   find_root p q m   (p + q√D)/m where it has the form, else none
use Rattle.std.specs.Prelude.{ℕ, ℤ, pos, Option}
use Rattle.numbers.specs.Forms.{has_form}
use Rattle.numbers.specs.Roots.{root_size}
use Rattle.numbers.specs.declared.root.Root.{Root}
use Rattle.lines.specs.Kinds.{pick}

abbrev pub find_root : {X : Type 0} → ℤ → ℤ → ℕ → Option (Root X)
find_root p q m = pick (has_form root_size (record { p = p; q = q; m = pos m })) (λ t. record { row = record { p = p; q = q; m = pos m }; radicand = record {}; form = t })
