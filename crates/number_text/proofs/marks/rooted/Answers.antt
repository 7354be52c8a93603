use Rattle.std.proofs.Common.{◌≡◌, ℕ, zero, suc, ◌<◌, List, None, ℤ, pos, nat_abs, ◌<ℤ◌, sym, refl, ap, ◌∙◌, subst, subst₂, arith, w64, SFits, to_z, of_z, rules}
use Rattle.std.proofs.lemmas.Int.{ints, to_z-of_z}
use Rattle.std.proofs.lemmas.Str.Pattern.{strip_prefix_char}
use Rattle.number_text.specs.Spelling.{Natural, Positive, Rooted}
use Rattle.number_text.specs.Readings.{RootedAnswer}
use Rattle.number_text.proofs.Numerals.{positive_unique}
use Rattle.number_text.proofs.Shapes.{no_close_mark, no_root_mark, rooted_parts, parts_rooted}
use Rattle.number_text.proofs.marks.rooted.Goals as goal
use Rattle.number_text.proofs.marks.rooted.Goals.{then-d-eq0-via-then-d-eq0, then-d-eq0-via-else-d-eq0+in_ok-positive+then-branch-d}

pub returns-in_err-strip_prefix : goal.returns-in_err-strip_prefix
returns-in_err-strip_prefix c D e =
    let bs = c.args.text.now in
    subst (RootedAnswer D bs) (sym c.from_residual.ensures) (λ p q m h. strip_prefix_char 40 bs None c.in_err-strip_prefix.ensures.cases (omega arith) _ h.2)

pub returns-in_err-inside : goal.returns-in_err-inside
returns-in_err-inside c D e =
    let bs = c.args.text.now in let r = c.in_ok-strip_prefix in
    subst (RootedAnswer D bs) (sym c.from_residual-in_err-inside.ensures) (λ p q m. no_close_mark D bs r.field-0 r.ensures.cases p q m c.in_err-inside.ensures.cases)

pub returns-in_err-above : goal.returns-in_err-above
returns-in_err-above c D e =
    let bs = c.args.text.now in let r = c.in_ok-strip_prefix in let x = c.in_ok-inside in
    subst (RootedAnswer D bs) (sym c.from_residual-in_err-above.ensures) (λ p q m. no_root_mark D bs r.field-0 r.ensures.cases p q m (x.inside, x.below) x.ensures.cases c.in_err-above.ensures.cases)

pub returns-in_err-positive : goal.returns-in_err-positive
returns-in_err-positive c D e =
    let bs = c.args.text.now in let r = c.in_ok-strip_prefix in let x = c.in_ok-inside in let y = c.in_ok-above in
    subst (RootedAnswer D bs) (sym c.from_residual-in_err-positive.ensures)
    (λ p q m h. let k = rooted_parts D bs r.field-0 r.ensures.cases p q m (x.inside, x.below) x.ensures.cases (y.above, y.root) y.ensures.cases h in c.in_err-positive.ensures (pos D) (D, k.1, refl))

pub returns-then-d-eq0 : goal.returns-then-d-eq0
returns-then-d-eq0 c D e p q m h =
    let bs = c.args.text.now in let r = c.in_ok-strip_prefix in let x = c.in_ok-inside in let y = c.in_ok-above in
    let k = rooted_parts D bs r.field-0 r.ensures.cases p q m (x.inside, x.below) x.ensures.cases (y.above, y.root) y.ensures.cases h in
    let o : 0 < D = k.4 in
    elim c.then-d-eq0.branch [
      | then-d-eq0-via-then-d-eq0 w ↦ omega (arith, ints)
      | then-d-eq0-via-else-d-eq0+in_ok-positive+then-branch-d w ↦
          w.if-branch-d.true (ap (of_z w64) (positive_unique y.root.now w.in_ok-positive.field-0 (pos D) w.in_ok-positive.ensures (D, k.1, refl) ∙ sym e))
    ]

pub returns-in_err-p : goal.returns-in_err-p
returns-in_err-p c D e =
    let bs = c.args.text.now in let r = c.in_ok-strip_prefix in let x = c.in_ok-inside in let y = c.in_ok-above in
    subst (RootedAnswer D bs) (sym c.from_residual-in_err-p.ensures)
    (λ p q m h. let k = rooted_parts D bs r.field-0 r.ensures.cases p q m (x.inside, x.below) x.ensures.cases (y.above, y.root) y.ensures.cases h in c.in_err-p.ensures p q k.0)

pub returns-in_err-m : goal.returns-in_err-m
returns-in_err-m c D e =
    let bs = c.args.text.now in let r = c.in_ok-strip_prefix in let x = c.in_ok-inside in let y = c.in_ok-above in
    subst (RootedAnswer D bs) (sym c.from_residual-in_err-m.ensures)
    (λ p q m h. let k = rooted_parts D bs r.field-0 r.ensures.cases p q m (x.inside, x.below) x.ensures.cases (y.above, y.root) y.ensures.cases h in c.in_err-m.ensures m k.2 k.3)

natural_at : (bs : List ℕ) (D : ℕ) → Positive bs (pos D) → Natural bs D
natural_at bs D (n, h, e) = subst (Natural bs) (sym (let k : D ≡ n = omega (arith, ints) in k)) h

above_zero : (m : ℤ) → pos 0 <ℤ m → 0 < nat_abs m
above_zero m h = omega (arith, ints)

nonzero : (D : ℕ) (d : ℤ) → d ≡ pos D → ¬ (of_z w64 d ≡ 0) → 0 < D
nonzero zero d e n = absurd (n (ap (of_z w64) e))
nonzero (suc D) d e n = omega arith

pub returns : goal.returns
returns c D e =
    let bs = c.args.text.now in let r = c.in_ok-strip_prefix in let x = c.in_ok-inside in let y = c.in_ok-above in
    let p = c.in_ok-p.p in let q = c.in_ok-p.q in let m = c.in_ok-m.m in
    let fp : SFits w64 p = search rules in
    let fq : SFits w64 q = search rules in
    let fm : SFits w64 m = search rules in
    let fz : SFits w64 c.in_ok-positive.field-0 = search rules in
    let z = sym (to_z-of_z w64 c.in_ok-positive.field-0 fz) ∙ ap (to_z w64) c.if-branch-d.false ∙ to_z-of_z w64 c.args.d c.ranges.d ∙ e in
    let n = natural_at y.root.now D (subst (Positive y.root.now) z c.in_ok-positive.ensures) in
    let o = c.in_ok-m.ensures in
    let k = parts_rooted D bs r.field-0 r.ensures.cases p q (nat_abs m) (x.inside, x.below) x.ensures.cases (y.above, y.root) y.ensures.cases c.in_ok-p.ensures n o.1 (above_zero m o.0) (nonzero D c.args.d e c.if-d-eq0.false) in
    let w = sym (to_z-of_z w64 m fm) in (
      subst (λ (x : ℤ). pos 0 <ℤ x) w o.0,
      subst₂ (λ (x y : ℤ). Rooted D bs x y (nat_abs (to_z w64 (of_z w64 m)))) (sym (to_z-of_z w64 p fp)) (sym (to_z-of_z w64 q fq)) (subst (λ (x : ℤ). Rooted D bs p q (nat_abs x)) w k),
    )
