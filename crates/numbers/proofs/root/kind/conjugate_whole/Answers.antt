use Rattle.std.proofs.Common.{◌≡◌, ◌*◌, ◌≤◌, ℕ, ℤ, pos, ◌+ℤ◌, ◌-ℤ◌, ◌*ℤ◌, neg_ℤ, nat_abs, sym, ap, ◌∙◌, subst, arith, lit<, w64, SFits, to_z, of_z, rules}
use Rattle.std.proofs.lemmas.Int.{ints}
use Rattle.algebra.proofs.RingSolver.{◌:+◌, ◌:*◌, ◌:-◌, :neg, ◌≋◌, solve₅}
use Rattle.algebra.proofs.Integers.{ℤ_ring}
use Rattle.numbers.specs.Steps.{Small}
use Rattle.numbers.specs.Roots.{root_size, Under}
use Rattle.numbers.specs.Machine.{word}
use Rattle.numbers.specs.Bounds.{small_words, two_words, product_words, products_bound}
use Rattle.numbers.proofs.RowProducts.{under_size}
use Rattle.numbers.specs.RootSteps.{conjugate, conjugate_size, root_sizes, root_words}
use Rattle.numbers.proofs.root.kind.conjugate_whole.Goals as goal

abs_neg : (D : ℕ) → nat_abs (neg_ℤ (pos D)) ≡ D
abs_neg D = omega (arith, ints)

-- −D as the machine works it out
neg_word : (D : ℕ) (d : ℤ) → d ≡ pos D → Under D → to_z w64 (of_z w64 (pos 0 -ℤ to_z w64 (of_z w64 d))) ≡ to_z w64 (of_z w64 (neg_ℤ (pos D)))
neg_word D d e u = let l = u.1 in omega (arith, ints)

neg_fits : (D : ℕ) → Under D → SFits w64 (neg_ℤ (pos D))
neg_fits D u = let l = u.1 in omega (arith, ints)

pub times-requires : goal.times-requires
times-requires g c =
    let D = g.R.Radicand.radicand in let u = g.R.Radicand.small in let y = c.args.a.row.q in let n = abs_neg D in let l = u.1 in
    subst (λ (z : ℤ). Small z (to_z w64 (of_z w64 y))) (sym (neg_word D c.D.result (c.D.ensures ∙ g.R.Radicand.is) u))
    (small_words 99 root_size (neg_ℤ (pos D)) y (neg_fits D u) (root_words c.args.a.row c.args.a.form).q_fits (lit< tt) (omega arith) (root_sizes c.args.a.row c.args.a.form).q_size)

under_is : (D : ℕ) (d y t : ℤ) → d ≡ pos D → Under D → SFits w64 y → t ≡ to_z w64 (of_z w64 (pos 0 -ℤ to_z w64 (of_z w64 d))) *ℤ to_z w64 (of_z w64 y) → t ≡ neg_ℤ (pos D) *ℤ y
under_is D d y t e u fy h = product_words t (neg_ℤ (pos D)) y (neg_fits D u) fy (h ∙ ap (λ z. z *ℤ to_z w64 (of_z w64 y)) (neg_word D d e u))

pub two_products-requires : goal.two_products-requires
two_products-requires g c =
    let D = g.R.Radicand.radicand in let u = g.R.Radicand.small in let a = c.args.a.row in let b = c.args.b.row in
    let s = root_sizes a c.args.a.form in let r = root_sizes b c.args.b.form in let v = root_words a c.args.a.form in let w = root_words b c.args.b.form in
    let ft : SFits w64 c.times.result = search rules in
    let e = under_is D c.D.result a.q c.times.result (c.D.ensures ∙ g.R.Radicand.is) u v.q_fits c.times.ensures in
    let k : nat_abs (neg_ℤ (pos D) *ℤ a.q) ≤ nat_abs (neg_ℤ (pos D)) * root_size = under_size (neg_ℤ (pos D)) a.q root_size s.q_size in
    let n = abs_neg D in let l = u.1 in
    let t : nat_abs c.times.result ≤ 99 * root_size = subst (λ (z : ℤ). nat_abs z ≤ 99 * root_size) (sym e) (omega arith) in
    record {
      first = small_words root_size root_size a.p b.p v.p_fits w.p_fits (lit< tt) s.p_size r.p_size;
      second = small_words (99 * root_size) root_size c.times.result b.q ft w.q_fits (lit< tt) t r.q_size;
    }

pub returns : goal.returns
returns g c =
    let D = g.R.Radicand.radicand in let u = g.R.Radicand.small in let a = c.args.a.row in let b = c.args.b.row in
    let s = root_sizes a c.args.a.form in let k = root_sizes b c.args.b.form in let v = root_words a c.args.a.form in let w = root_words b c.args.b.form in
    let t = c.times.result in let r = c.two_products.result in
    let ft : SFits w64 t = search rules in
    let fr : SFits w64 r = search rules in
    let et = under_is D c.D.result a.q t (c.D.ensures ∙ g.R.Radicand.is) u v.q_fits c.times.ensures in
    let er : r ≡ (a.p *ℤ b.p) +ℤ ((neg_ℤ (pos D) *ℤ a.q) *ℤ b.q) = two_words r a.p b.p t b.q v.p_fits w.p_fits ft w.q_fits c.two_products.ensures.value ∙ ap (λ z. (a.p *ℤ b.p) +ℤ (z *ℤ b.q)) et in
    let same : (a.p *ℤ b.p) +ℤ ((neg_ℤ (pos D) *ℤ a.q) *ℤ b.q) ≡ conjugate a.p a.q b.p b.q (pos D) = solve₅ ℤ_ring (λ x y u v d. x :* u :+ :neg d :* y :* v ≋ x :* u :- d :* (y :* v)) tt a.p a.q b.p b.q (pos D) in
    let bound = products_bound a.p b.p (neg_ℤ (pos D) *ℤ a.q) b.q in
    let n = abs_neg D in let l = u.1 in
    let most = conjugate_size root_size a.p a.q b.p b.q (neg_ℤ (pos D)) s.p_size s.q_size k.p_size k.q_size (omega arith) in
    let z : nat_abs r ≤ 100 * (root_size * root_size) = subst (λ (w : ℤ). nat_abs w ≤ 100 * (root_size * root_size)) (sym er) (omega arith) in
    record { value = word r fr ∙ er ∙ same; bound = subst (λ (w : ℤ). nat_abs w ≤ 100 * (root_size * root_size)) (sym (word r fr)) z }
