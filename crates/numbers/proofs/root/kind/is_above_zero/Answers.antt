use Rattle.std.proofs.Common.{◌≡◌, true, false, T, ℤ, pos, negsuc, ◌+ℤ◌, ◌≤ℤ◌, ◌<ℤ◌, sym, ap, ◌∙◌, subst, arith, w64, SFits, to_z, of_z, rules}
use lib.Dec.{leb-zero}
use lib.Signed.{lt_z, le_z}
use Rattle.std.proofs.lemmas.Int.{ints}
use Rattle.algebra.specs.Exact.{PosE}
use Rattle.numbers.specs.Answers.{Decides}
use Rattle.numbers.specs.Rows.{row_number}
use Rattle.numbers.specs.Machine.{word}
use Rattle.numbers.specs.RootKind.{plain}
use Rattle.numbers.specs.RootSteps.{root_sizes, root_words, root_above}
use Rattle.numbers.proofs.RootSigns.{both_above, both_below, p_above, q_above, positive_row}
use Rattle.numbers.proofs.root.kind.is_above_zero.Goals as goal

-- tests as orders
at_least : (x : ℤ) → SFits w64 x → le_z (pos 0) (to_z w64 (of_z w64 x)) ≡ true → pos 0 ≤ℤ x
at_least x f e = subst (λ (z : ℤ). pos 0 ≤ℤ z) (word x f) (record { le = subst T (sym e) tt })

not_at_least : (x : ℤ) → SFits w64 x → le_z (pos 0) (to_z w64 (of_z w64 x)) ≡ false → x <ℤ pos 0
not_at_least x f e = go x (ap (le_z (pos 0)) (sym (word x f)) ∙ e)
  where
    go : (x : ℤ) → le_z (pos 0) x ≡ false → x <ℤ pos 0
    go (pos n) e = absurd (subst T e (subst T (sym (leb-zero n)) tt))
    go (negsuc n) e = record { lt = tt }

pub returns-then-k-ge0-2 : goal.returns-then-k-ge0-2
returns-then-k-ge0-2 g c =
    let D = g.R.Radicand.radicand in let row = c.args.k.row in let f = c.args.k.form in
    let s = root_sizes row f in let ps = s.p_size in let qs = s.q_size in let w = root_words row f in
    let e : to_z w64 (of_z w64 (to_z w64 (of_z w64 row.p) +ℤ to_z w64 (of_z w64 row.q))) ≡ row.p +ℤ row.q = omega (arith, ints) in
    subst (λ (z : ℤ). Decides (lt_z (pos 0) z) (PosE (row_number D row))) (sym e)
    (positive_row D row _ (root_above row f) (plain D g.R.Radicand.small row.q) (both_above D row.p row.q (at_least row.p w.p_fits c.if-k-ge0.true) (at_least row.q w.q_fits c.if-k-ge0-2.true)))

pub returns-then-k-ge0 : goal.returns-then-k-ge0
returns-then-k-ge0 g c =
    let D = g.R.Radicand.radicand in let row = c.args.k.row in let f = c.args.k.form in let w = root_words row f in
    let fr : SFits w64 c.conjugate_whole.result = search rules in
    subst (λ (z : ℤ). Decides (lt_z (pos 0) z) (PosE (row_number D row))) (sym (word c.conjugate_whole.result fr ∙ c.conjugate_whole.ensures.value))
    (positive_row D row _ (root_above row f) (plain D g.R.Radicand.small row.q) (p_above D row.p row.q (at_least row.p w.p_fits c.if-k-ge0.true) (not_at_least row.q w.q_fits c.if-k-ge0-2.false)))

pub returns-then-k-lt0 : goal.returns-then-k-lt0
returns-then-k-lt0 g c =
    let D = g.R.Radicand.radicand in let row = c.args.k.row in let f = c.args.k.form in let w = root_words row f in let qf = w.q_fits in
    let q : row.q <ℤ pos 0 = omega (arith, ints) in
    positive_row D row false (root_above row f) (plain D g.R.Radicand.small row.q) (both_below D row.p row.q (not_at_least row.p w.p_fits c.if-k-ge0.false) q)

pub returns : goal.returns
returns g c =
    let D = g.R.Radicand.radicand in let row = c.args.k.row in let f = c.args.k.form in let w = root_words row f in let qf = w.q_fits in
    let fr : SFits w64 c.conjugate_whole-2.result = search rules in
    let q : pos 0 ≤ℤ row.q = omega (arith, ints) in
    subst (λ (z : ℤ). Decides (lt_z z (pos 0)) (PosE (row_number D row))) (sym (word c.conjugate_whole-2.result fr ∙ c.conjugate_whole-2.ensures.value))
    (positive_row D row _ (root_above row f) (plain D g.R.Radicand.small row.q) (q_above D row.p row.q (not_at_least row.p w.p_fits c.if-k-ge0.false) q))
