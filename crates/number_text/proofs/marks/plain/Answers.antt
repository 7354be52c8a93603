use Rattle.std.proofs.Common.{◌≡◌, ℕ, ◌<◌, List, ℤ, pos, nat_abs, ◌<ℤ◌, Some, sym, refl, ap, ap₂, ◌∙◌, subst, subst₂, inl, inr, arith, w64, SFits, to_z, of_z, rules}
use Rattle.std.proofs.lemmas.Int.{ints, to_z-of_z}
use Rattle.std.proofs.lemmas.Str.Pattern.{split_parts}
use Rattle.number_text.specs.Spelling.{Plain}
use Rattle.number_text.specs.Readings.{PlainAnswer}
use Rattle.number_text.proofs.Shapes.{plain_whole, plain_over}
use Rattle.number_text.proofs.marks.plain.Goals as goal
use Rattle.number_text.proofs.marks.plain.Goals.{in-Some+in_ok-whole-in-Some+in_ok-divisor-in-Some, in-None+in_ok-whole-in-None}

pub returns-in_err-whole-in-Some : goal.returns-in_err-whole-in-Some
returns-in_err-whole-in-Some c =
    let bs = c.args.text.now in
    subst (PlainAnswer (Plain bs)) (sym c.from_residual.ensures)
    (λ p m h. c.in_err-whole-in-Some.ensures p (plain_over bs (c.in-Some.above, c.in-Some.below) c.in-Some.ensures.cases p m h).0)

pub returns-in_err-divisor-in-Some : goal.returns-in_err-divisor-in-Some
returns-in_err-divisor-in-Some c =
    let bs = c.args.text.now in
    subst (PlainAnswer (Plain bs)) (sym c.from_residual-in_err-divisor-in-Some.ensures)
    (λ p m h. let o = plain_over bs (c.in-Some.above, c.in-Some.below) c.in-Some.ensures.cases p m h in c.in_err-divisor-in-Some.ensures m o.1 o.2)

pub returns-in_err-whole-in-None : goal.returns-in_err-whole-in-None
returns-in_err-whole-in-None c =
    let bs = c.args.text.now in
    subst (PlainAnswer (Plain bs)) (sym c.from_residual-in_err-whole-in-None.ensures)
    (λ p m h. c.in_err-whole-in-None.ensures p (plain_whole bs c.in-None.ensures.cases p m h).0)

-- the row as it is made from words
made : (bs : List ℕ) (z y : ℤ) → SFits w64 z → SFits w64 y → pos 0 <ℤ y → Plain bs z (nat_abs y)
    → (pos 0 <ℤ to_z w64 (of_z w64 y)) × (pos 0 ≡ pos 0) × Plain bs (to_z w64 (of_z w64 z)) (nat_abs (to_z w64 (of_z w64 y)))
made bs z y f g o h =
    let v = sym (to_z-of_z w64 z f) in let u = sym (to_z-of_z w64 y g) in
    (subst (λ (x : ℤ). pos 0 <ℤ x) u o, refl, subst₂ (λ (x y : ℤ). Plain bs x (nat_abs y)) v u h)

above_zero : (y : ℤ) → pos 0 <ℤ y → 0 < nat_abs y
above_zero y h = omega (arith, ints)

pub returns : goal.returns
returns c =
    let bs = c.args.text.now in
    let G : ℤ × ℤ × ℤ → Type 0 = λ x. (pos 0 <ℤ to_z w64 (of_z w64 x.2)) × (to_z w64 (of_z w64 x.1) ≡ pos 0) × Plain bs (to_z w64 (of_z w64 x.0)) (nat_abs (to_z w64 (of_z w64 x.2))) in
    elim c.match-split_once.branch [
      | in-Some+in_ok-whole-in-Some+in_ok-divisor-in-Some w ↦
          let z = w.in_ok-whole-in-Some.field-0 in let y = w.in_ok-divisor-in-Some.field-0 in let d = w.in_ok-divisor-in-Some.ensures in
          let fz : SFits w64 z = search rules in
          let fy : SFits w64 y = search rules in
          let e = (split_parts 47 bs (Some (w.in-Some.above, w.in-Some.below)) w.in-Some.ensures.cases (omega arith)).0 in
          subst G (sym (w.p-is ∙ ap₂ (λ (x y : ℤ). (x, pos 0, y)) (to_z-of_z w64 z fz) (to_z-of_z w64 y fy))) (made bs z y fz fy d.0 (inr (w.in-Some.above.now, w.in-Some.below.now, e, (w.in_ok-whole-in-Some.ensures, d.1, above_zero y d.0))))
      | in-None+in_ok-whole-in-None w ↦
          let z = w.in_ok-whole-in-None.field-0 in
          let fz : SFits w64 z = search rules in
          subst G (sym (w.p-is ∙ ap (λ (x : ℤ). (x, pos 0, pos 1)) (to_z-of_z w64 z fz))) (made bs z (pos 1) fz (omega (arith, ints)) (record { lt = tt }) (inl (w.in_ok-whole-in-None.ensures, refl)))
    ]
