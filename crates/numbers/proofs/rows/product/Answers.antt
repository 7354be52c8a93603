use Rattle.std.proofs.Common.{◌≡◌, ◌*◌, ◌≤◌, ℤ, pos, ◌*ℤ◌, nat_abs, ◌<ℤ◌, sym, ap, ◌∙◌, ap₂, subst, arith, w64, SFits, rules}
use Rattle.algebra.specs.Exact.{mul_e}
use Rattle.algebra.specs.Laws.{Plain}
use Rattle.numbers.specs.Rows.{row_number}
use Rattle.numbers.specs.declared.Parts.{Parts}
use Rattle.numbers.specs.Bounds.{product_words}
use Rattle.numbers.specs.RowSums.{product_above, answer_for}
use Rattle.numbers.proofs.RowProducts.{raw_product, raw_product_is, plain_product, under_room, under_square_room, product_parts, under_size}
use Rattle.numbers.proofs.Given.{Part, given, pair, product_room}
use Rattle.numbers.proofs.rows.product.Goals as goal

pub times-under-requires : goal.times-under-requires
times-under-requires g c =
    let D = g.K.InRows.radicand in let S = g.K.InRows.SIZE in let k = g.met.K.InRows in let d = c.D.result in
    let e : nat_abs d ≡ D = ap nat_abs (c.D.ensures ∙ k.is) in
    let under : Part D d = record { fits = search rules; size_is = omega arith } in
    product_room under (given D S c.parts-a.result k.room c.parts-a.ensures.formed).q (under_room D S k.room)

pub two_products-p-requires : goal.two_products-p-requires
two_products-p-requires g c =
    let D = g.K.InRows.radicand in let S = g.K.InRows.SIZE in let met = g.met.K.InRows in let x = c.parts-a.result in let d = c.D.result in let u = c.times-under.result in
    let k = pair D S x c.parts-b.result met.room c.parts-a.ensures.formed c.parts-b.ensures.formed in let a = k.left in let b = k.right in
    let fd : SFits w64 d = search rules in
    let us : nat_abs u ≤ D * S = subst (λ (z : ℤ). nat_abs z ≤ D * S) (sym (product_words u d x.q fd a.q.fits c.times-under.ensures ∙ ap (λ z. z *ℤ x.q) (c.D.ensures ∙ met.is))) (under_size (pos D) x.q S a.q.size_is) in
    let under : Part (D * S) u = record { fits = search rules; size_is = us } in
    record { first = product_room a.p b.p k.room; second = product_room under b.q (under_square_room D S met.room) }

pub two_products-q-requires : goal.two_products-q-requires
two_products-q-requires g c =
    let k = pair g.K.InRows.radicand g.K.InRows.SIZE c.parts-a.result c.parts-b.result g.met.K.InRows.room c.parts-a.ensures.formed c.parts-b.ensures.formed in let a = k.left in let b = k.right in
    record { first = product_room a.p b.q k.room; second = product_room a.q b.p k.room }

pub times-m-requires : goal.times-m-requires
times-m-requires g c =
    let k = pair g.K.InRows.radicand g.K.InRows.SIZE c.parts-a.result c.parts-b.result g.met.K.InRows.room c.parts-a.ensures.formed c.parts-b.ensures.formed in
    product_room k.left.m k.right.m k.room

pub fitted-requires : goal.fitted-requires
fitted-requires g c =
    let D = g.K.InRows.radicand in let x = c.parts-a.result in let y = c.parts-b.result in
    let k = pair D g.K.InRows.SIZE x y g.met.K.InRows.room c.parts-a.ensures.formed c.parts-b.ensures.formed in let a = k.left in let b = k.right in
    let e = product_parts c.D.result x y (search rules) a.fits b.fits c.times-under.result c.two_products-p.result c.two_products-q.result c.times-m.result (search rules) (search rules) (search rules) (search rules)
    c.times-under.ensures c.two_products-p.ensures.value c.two_products-q.ensures.value c.times-m.ensures in
    record {
      above = subst (λ (z : Parts). pos 0 <ℤ z.m) (sym e) (product_above x.m y.m a.above b.above);
      plain = subst (λ (z : Parts). Plain D z.q) (sym e) (plain_product D x.p x.q y.p y.q c.parts-a.ensures.formed.1 c.parts-b.ensures.formed.1);
    }

pub returns : goal.returns
returns g c =
    let D = g.K.InRows.radicand in let met = g.met.K.InRows in let x = c.parts-a.result in let y = c.parts-b.result in
    let k = pair D g.K.InRows.SIZE x y met.room c.parts-a.ensures.formed c.parts-b.ensures.formed in let a = k.left in let b = k.right in
    let e = product_parts c.D.result x y (search rules) a.fits b.fits c.times-under.result c.two_products-p.result c.two_products-q.result c.times-m.result (search rules) (search rules) (search rules) (search rules)
    c.times-under.ensures c.two_products-p.ensures.value c.two_products-q.ensures.value c.times-m.ensures in
    answer_for D g.K.InRows.value _ (raw_product c.D.result x y) _ c.fitted.result e
    (ap (λ z. row_number D (raw_product z x y)) (c.D.ensures ∙ met.is) ∙ raw_product_is D x y a.above b.above ∙ ap₂ mul_e c.parts-a.ensures.means c.parts-b.ensures.means)
    c.fitted.ensures
