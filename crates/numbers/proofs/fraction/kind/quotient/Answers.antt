use Rattle.std.proofs.Common.{◌≡◌, ◌≤◌, ◌≢◌, ℤ, pos, ◌*ℤ◌, nat_abs, ◌<ℤ◌, sym, refl, ap, ◌∙◌, subst, ap₂, arith, lit<, w64, SFits, to_z, of_z, rules}
use Rattle.std.proofs.lemmas.Int.{ints}
use Rattle.numbers.specs.Rows.{row_number}
use Rattle.numbers.specs.Steps.{sign, Room}
use Rattle.numbers.specs.Forms.{plain_row}
use Rattle.numbers.specs.Fractions.{fraction_size, fraction_row, fraction_value}
use Rattle.numbers.specs.declared.fraction.Fraction.{Fraction}
use Rattle.numbers.specs.declared.Parts.{Parts}
use Rattle.numbers.specs.Machine.{word}
use Rattle.numbers.specs.Bounds.{product_words}
use Rattle.numbers.specs.RowSums.{answer_for}
use Rattle.numbers.specs.RowKinds.{quotient_answer}
use Rattle.numbers.specs.FractionKind.{formed}
use Rattle.numbers.specs.Signs.{abs_turned}
use Rattle.numbers.specs.FractionSteps.{zero_row, nonzero_row, quotient_row, below_above}
use Rattle.numbers.proofs.Given.{Given, Part, given, product_room}
use Rattle.numbers.proofs.fraction.kind.quotient.Goals as goal

row : (k : Fraction) → Given fraction_size (fraction_row k)
row k = given 0 fraction_size (fraction_row k) (lit< tt) (formed k)

pub returns-then-b-eq0 : goal.returns-then-b-eq0
returns-then-b-eq0 c =
    let b = c.args.b in
    let f : SFits w64 b.p = search rules in
    let e : b.p ≡ pos 0 = omega (arith, ints) in
    ap (λ (z : ℤ). row_number 0 (plain_row z b.m)) e ∙ zero_row b.m (row b).above

pub turned-requires-2 : goal.turned-requires-2
turned-requires-2 c = let b = c.args.b in let p = (row b).p in let s = p.size_is in subst (λ (z : ℤ). Room (nat_abs z)) (sym (word b.p p.fits)) (omega arith)

-- what `turned` gives, without words
turned_is : (b : Fraction) (x r : ℤ) → SFits w64 x → r ≡ sign (to_z w64 (of_z w64 b.p)) *ℤ to_z w64 (of_z w64 x) → r ≡ sign b.p *ℤ x
turned_is b x r f e = e ∙ ap₂ (λ (y z : ℤ). sign y *ℤ z) (word b.p (row b).p.fits) (word x f)

turned_size : (b : Fraction) (x r : ℤ) → r ≡ sign b.p *ℤ x → nat_abs x ≤ fraction_size → nat_abs r ≤ fraction_size
turned_size b x r e h = let k = ap nat_abs e ∙ abs_turned x b.p in omega arith

pub times-p-requires : goal.times-p-requires
times-p-requires c =
    let a = c.args.a in let b = c.args.b in let r = c.turned.result in
    let m : Part fraction_size r = record { fits = search rules; size_is = turned_size b b.m r (turned_is b b.m r (row b).m.fits c.turned.ensures) (row b).m.size_is } in
    product_room (row a).p m (lit< tt)

pub times-m-requires : goal.times-m-requires
times-m-requires c =
    let a = c.args.a in let b = c.args.b in let r = c.turned-2.result in
    let p : Part fraction_size r = record { fits = search rules; size_is = turned_size b b.p r (turned_is b b.p r (row b).p.fits c.turned-2.ensures) (row b).p.size_is } in
    product_room (row a).m p (lit< tt)

-- the parts worked out
module _ (a b : Fraction) (t u p m : ℤ) (ft : SFits w64 t) (fu : SFits w64 u) (fp : SFits w64 p) (fm : SFits w64 m)
    (et : t ≡ sign (to_z w64 (of_z w64 b.p)) *ℤ to_z w64 (of_z w64 b.m)) (eu : u ≡ sign (to_z w64 (of_z w64 b.p)) *ℤ to_z w64 (of_z w64 b.p))
    (ep : p ≡ to_z w64 (of_z w64 a.p) *ℤ to_z w64 (of_z w64 t)) (em : m ≡ to_z w64 (of_z w64 a.m) *ℤ to_z w64 (of_z w64 u)) where
  parts : plain_row (to_z w64 (of_z w64 p)) (to_z w64 (of_z w64 m)) ≡ plain_row (a.p *ℤ (sign b.p *ℤ b.m)) (a.m *ℤ (sign b.p *ℤ b.p))
  parts = ap₂ plain_row
      (word p fp ∙ product_words p a.p t (row a).p.fits ft ep ∙ ap (λ z. a.p *ℤ z) (turned_is b b.m t (row b).m.fits et))
      (word m fm ∙ product_words m a.m u (row a).m.fits fu em ∙ ap (λ z. a.m *ℤ z) (turned_is b b.p u (row b).p.fits eu))

nonzero : (b : Fraction) → SFits w64 b.p → ¬ (of_z w64 b.p ≡ 0) → b.p ≢ pos 0
nonzero b f n e = n (ap (of_z w64) e)

pub fitted-requires-clause-above : goal.fitted-requires-clause-above
fitted-requires-clause-above c =
    let a = c.args.a in let b = c.args.b in
    let ft : SFits w64 c.turned.result = search rules in
    let fu : SFits w64 c.turned-2.result = search rules in
    let fp : SFits w64 c.times-p.result = search rules in
    let fm : SFits w64 c.times-m.result = search rules in
    let e = parts a b c.turned.result c.turned-2.result c.times-p.result c.times-m.result ft fu fp fm c.turned.ensures c.turned-2.ensures c.times-p.ensures c.times-m.ensures in
    subst (λ (z : Parts). pos 0 <ℤ z.m) (sym e) (below_above a.m b.p (row a).above (nonzero b (row b).p.fits c.if-b-eq0.false))

pub returns : goal.returns
returns c =
    let a = c.args.a in let b = c.args.b in
    let ft : SFits w64 c.turned.result = search rules in
    let fu : SFits w64 c.turned-2.result = search rules in
    let fp : SFits w64 c.times-p.result = search rules in
    let fm : SFits w64 c.times-m.result = search rules in
    let e = parts a b c.turned.result c.turned-2.result c.times-p.result c.times-m.result ft fu fp fm c.turned.ensures c.turned-2.ensures c.times-p.ensures c.times-m.ensures in
    let n = nonzero b (row b).p.fits c.if-b-eq0.false in
    quotient_answer fraction_value (fraction_value a) (fraction_value b) _ c.fitted.result (nonzero_row b.p b.m (row b).above n) (quotient_row a.p a.m b.p b.m (row a).above (row b).above n)
    (answer_for 0 fraction_value _ _ _ c.fitted.result e refl c.fitted.ensures)
