use Rattle.std.proofs.Common.{◌≡◌, ℕ, ◌^◌, ◌<◌, ℤ, pos, ◌-ℤ◌, neg_ℤ, nat_abs, sym, ap, ◌∙◌, subst, arith, w64, to_z, of_z}
use Rattle.std.proofs.lemmas.Int.{ints}
use Rattle.algebra.specs.Exact.{neg_e}
use Rattle.numbers.specs.Rows.{row_number}
use Rattle.numbers.specs.Steps.{Room}
use Rattle.numbers.specs.Forms.{Formed}
use Rattle.numbers.specs.declared.Parts.{Parts}
use Rattle.numbers.specs.Machine.{word}
use Rattle.numbers.specs.RowSums.{raw_opposite, opposite_form, opposite_is, square_room}
use Rattle.numbers.proofs.RowProducts.{square_room'}
use Rattle.numbers.proofs.Given.{Given, given}
use Rattle.numbers.proofs.rows.opposite.Goals as goal

-- the row as the machine works it out
abbrev worked : Parts → Parts
worked row = record { p = to_z w64 (of_z w64 (pos 0 -ℤ to_z w64 (of_z w64 row.p))); q = to_z w64 (of_z w64 (pos 0 -ℤ to_z w64 (of_z w64 row.q))); m = to_z w64 (of_z w64 row.m) }

turned : (x : ℤ) → nat_abs x < 2 ^ 62 → to_z w64 (of_z w64 (pos 0 -ℤ to_z w64 (of_z w64 x))) ≡ neg_ℤ x
turned x h = omega (arith, ints)

worked_is : (S : ℕ) (row : Parts) → Room S → Given S row → worked row ≡ raw_opposite row
worked_is S row r k =
    let ps = k.p.size_is in let qs = k.q.size_is in
    let p = turned row.p (omega arith) in let q = turned row.q (omega arith) in let m = word row.m k.m.fits in
    λ i. record { p = p i; q = q i; m = m i }

pub made-requires : goal.made-requires
made-requires g c =
    let D = g.K.InRows.radicand in let S = g.K.InRows.SIZE in let room = g.met.K.InRows.room in let row = c.parts-p.result in let f = c.parts-p.ensures.formed in
    let e = worked_is S row (square_room S (square_room' D S room)) (given D S row room f) in
    subst (Formed D S) (sym e) (opposite_form S row f.0, λ z. ap neg_ℤ (f.1 z))

pub returns : goal.returns
returns g c =
    let D = g.K.InRows.radicand in let S = g.K.InRows.SIZE in let room = g.met.K.InRows.room in let row = c.parts-p.result in
    let k = given D S row room c.parts-p.ensures.formed in
    c.made.ensures ∙ ap (row_number D) (worked_is S row (square_room S (square_room' D S room)) k) ∙ opposite_is D row k.above ∙ ap neg_e c.parts-p.ensures.means
