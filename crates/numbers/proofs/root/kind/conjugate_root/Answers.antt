use Rattle.std.proofs.Common.{◌≡◌, ◌*◌, ◌≤◌, ℤ, pos, ◌+ℤ◌, ◌-ℤ◌, ◌*ℤ◌, neg_ℤ, nat_abs, sym, ap, ◌∙◌, subst, arith, lit<, w64, SFits, to_z, of_z, rules}
use native.Mathlib.Nat as NatL
use Rattle.std.proofs.lemmas.Int.{ints}
use Rattle.algebra.proofs.RingSolver.{◌:+◌, ◌:*◌, ◌:-◌, :neg, ◌≋◌, solve₄}
use Rattle.algebra.proofs.Integers.{ℤ_ring}
use Rattle.numbers.specs.Steps.{Small}
use Rattle.numbers.specs.Roots.{root_size}
use Rattle.numbers.specs.Machine.{word}
use Rattle.numbers.specs.Bounds.{small_words, two_words, products_bound}
use Rattle.numbers.specs.RootSteps.{across, root_sizes, root_words}
use Rattle.numbers.proofs.root.kind.conjugate_root.Goals as goal

-- −p as the machine works it out
neg_word : (p : ℤ) → nat_abs p ≤ root_size → to_z w64 (of_z w64 (pos 0 -ℤ to_z w64 (of_z w64 p))) ≡ to_z w64 (of_z w64 (neg_ℤ p))
neg_word p h = omega (arith, ints)

neg_fits : (p : ℤ) → nat_abs p ≤ root_size → SFits w64 (neg_ℤ p)
neg_fits p h = omega (arith, ints)

neg_size : (p : ℤ) → nat_abs p ≤ root_size → nat_abs (neg_ℤ p) ≤ root_size
neg_size p h = omega (arith, ints)

pub two_products-requires : goal.two_products-requires
two_products-requires g c =
    let a = c.args.a.row in let b = c.args.b.row in
    let s = root_sizes a c.args.a.form in let r = root_sizes b c.args.b.form in let v = root_words a c.args.a.form in let w = root_words b c.args.b.form in
    record {
      first = small_words root_size root_size a.q b.p v.q_fits w.p_fits (lit< tt) s.q_size r.p_size;
      second = subst (λ (z : ℤ). Small z (to_z w64 (of_z w64 b.q))) (sym (neg_word a.p s.p_size)) (small_words root_size root_size (neg_ℤ a.p) b.q (neg_fits a.p s.p_size) w.q_fits (lit< tt) (neg_size a.p s.p_size) r.q_size);
    }

pub returns : goal.returns
returns g c =
    let a = c.args.a.row in let b = c.args.b.row in let r = c.two_products.result in
    let s = root_sizes a c.args.a.form in let k = root_sizes b c.args.b.form in let v = root_words a c.args.a.form in let w = root_words b c.args.b.form in
    let fr : SFits w64 r = search rules in
    let er : r ≡ (a.q *ℤ b.p) +ℤ (neg_ℤ a.p *ℤ b.q) =
    two_words r a.q b.p (neg_ℤ a.p) b.q v.q_fits w.p_fits (neg_fits a.p s.p_size) w.q_fits (c.two_products.ensures.value ∙ ap (λ z. (to_z w64 (of_z w64 a.q) *ℤ to_z w64 (of_z w64 b.p)) +ℤ (z *ℤ to_z w64 (of_z w64 b.q))) (neg_word a.p s.p_size)) in
    let same : (a.q *ℤ b.p) +ℤ (neg_ℤ a.p *ℤ b.q) ≡ across a b = solve₄ ℤ_ring (λ p q u v. q :* u :+ :neg p :* v ≋ q :* u :- p :* v) tt a.p a.q b.p b.q in
    let bound = products_bound a.q b.p (neg_ℤ a.p) b.q in
    let x : nat_abs a.q * nat_abs b.p ≤ root_size * root_size = NatL.mul-le-mul s.q_size k.p_size in
    let y : nat_abs (neg_ℤ a.p) * nat_abs b.q ≤ root_size * root_size = NatL.mul-le-mul (neg_size a.p s.p_size) k.q_size in
    let z : nat_abs r ≤ 100 * (root_size * root_size) = subst (λ (w : ℤ). nat_abs w ≤ 100 * (root_size * root_size)) (sym er) (omega arith) in
    record { value = word r fr ∙ er ∙ same; bound = subst (λ (w : ℤ). nat_abs w ≤ 100 * (root_size * root_size)) (sym (word r fr)) z }
