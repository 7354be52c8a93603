use Rattle.std.proofs.Common.{◌≡◌, ◌⊎◌, ℤ, pos, sym, ap, ◌∙◌, ap₂, inl, inr, arith, w64, of_z}
use Rattle.std.proofs.lemmas.Int.{ints}
use Rattle.numbers.specs.Rows.{row_number}
use Rattle.numbers.specs.RootValues.{root_value}
use Rattle.numbers.specs.declared.Parts.{Parts}
use Rattle.numbers.specs.RowKinds.{quotient_answer}
use Rattle.numbers.specs.RootKind.{plain}
use Rattle.numbers.specs.RootSteps.{zero_row, nonzero_row, root_words, root_above}
use Rattle.numbers.proofs.root.kind.quotient.Goals as goal

pub returns-then-b-eq0-2 : goal.returns-then-b-eq0-2
returns-then-b-eq0-2 g c =
    let b = c.args.b.row in let w = root_words b c.args.b.form in let pf = w.p_fits in let qf = w.q_fits in
    let p : b.p ≡ pos 0 = omega (arith, ints) in
    let q : b.q ≡ pos 0 = omega (arith, ints) in
    ap₂ (λ (x y : ℤ). row_number g.R.Radicand.radicand (record { p = x; q = y; m = b.m })) p q ∙ zero_row g.R.Radicand.radicand b.m (root_above b c.args.b.form)

-- not both parts of the divisor are 0
nonzero : (b : Parts) → ((of_z w64 b.p ≡ 0) × (of_z w64 b.q ≡ 0 → ⊥)) ⊎ (of_z w64 b.p ≡ 0 → ⊥) → ¬ ((b.p ≡ pos 0) × (b.q ≡ pos 0))
nonzero b (inl h) e = h.1 (ap (of_z w64) e.1)
nonzero b (inr h) e = h (ap (of_z w64) e.0)

pub raw_quotient-requires : goal.raw_quotient-requires
raw_quotient-requires g c = nonzero c.args.b.row c.else-b-eq0.either

pub returns : goal.returns
returns g c =
    let D = g.R.Radicand.radicand in let b = c.args.b.row in
    quotient_answer (root_value D) _ _ _ c.fitted.result (nonzero_row D b (root_above b c.args.b.form) (plain D g.R.Radicand.small b.q) (nonzero b c.else-b-eq0.either)) (sym c.raw_quotient.ensures.value) c.fitted.ensures
