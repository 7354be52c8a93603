-- A fraction is found by its lowest parts. Assumes nothing.
use Rattle.std.specs.Prelude.{◌≡◌, ℕ, ◌≤◌, Bool, true, false, ◌&&◌, T, ℤ, pos, ◌==◌, int_lt, nat_le, unsigned_abs, refl}
use Rattle.std.proofs.Common.{sym, ap, subst, le→leb, lt→ltb}
use Rattle.algebra.specs.Exact.{Exact, exact}
use Rattle.algebra.specs.Laws.{LowestParts}
use Rattle.algebra.proofs.Booleans.{and_join}
use Rattle.numbers.specs.Answers.{Held}
use Rattle.numbers.specs.Forms.{has_form, within, lowest, plain_row}
use Rattle.numbers.specs.Fractions.{fraction_size, fraction_value}
use Rattle.numbers.specs.declared.Parts.{Parts}
use Rattle.numbers.specs.FractionKind.{holds_exactly}
use Rattle.lines.specs.Fractions.{find_fraction}
use Rattle.lines.specs.Kinds.{Found, Finds, pick}

-- what is picked by a test that decides
pub picked : {A : Type 0} {D : ℕ} (value : A → Exact D) (x : Exact D) (b : Bool) (f : T b → A) → ((t : T b) → value (f t) ≡ x) → (¬ T b → ¬ Held value x) → Found value x (pick b f)
picked value x true f some none = some tt
picked value x false f some none = none (λ t. elim t [ ])

-- lowest parts of limited size have the form
pub formed : (D size : ℕ) (p q : ℤ) (m : ℕ) → LowestParts D p q m → unsigned_abs p ≤ size → unsigned_abs q ≤ size → m ≤ size → T (has_form size (record { p = p; q = q; m = pos m }))
formed D size p q m l hp hq hm =
    let r : Parts = record { p = p; q = q; m = pos m } in
    let w : T (within size r) = and_join (nat_le (unsigned_abs p) size && nat_le (unsigned_abs q) size) (nat_le m size) (and_join (nat_le (unsigned_abs p) size) (nat_le (unsigned_abs q) size) (le→leb (unsigned_abs p) size hp) (le→leb (unsigned_abs q) size hq)) (le→leb m size hm) in
    and_join (int_lt (pos 0) (pos m) && within size r) (lowest r) (and_join (int_lt (pos 0) (pos m)) (within size r) (lt→ltb 0 m l.above) w) (subst (λ (n : ℕ). T (n == 1)) (sym l.coprime) tt)

pub fraction_finds : Finds fraction_value find_fraction
fraction_finds p q m l =
    let z : q ≡ pos 0 = l.plain refl in
    picked fraction_value (exact 0 p q m) (has_form fraction_size (plain_row p (pos m))) (λ t. record { p = p; m = pos m; form = t })
    (λ t. ap (λ (y : ℤ). exact 0 p y m) (sym z))
    (λ n h. let s = (holds_exactly p q m l).0 h in n (subst (λ (y : ℤ). T (has_form fraction_size (record { p = p; q = y; m = pos m }))) z (formed 0 fraction_size p q m l s.0 s.1 s.2)))
