use Rattle.std.proofs.Common.{pos, ◌<ℤ◌, sym, ◌∙◌, ap₂, subst, rules}
use Rattle.algebra.specs.Exact.{add_e}
use Rattle.algebra.specs.Laws.{Plain}
use Rattle.numbers.specs.declared.Parts.{Parts}
use Rattle.numbers.specs.RowSums.{sum_parts, raw_sum, raw_sum_is, product_above, plain_sum, answer_for}
use Rattle.numbers.proofs.Given.{pair, product_room}
use Rattle.numbers.proofs.rows.sum.Goals as goal

pub two_products-p-requires : goal.two_products-p-requires
two_products-p-requires g c =
    let k = pair g.K.InRows.radicand g.K.InRows.SIZE c.parts-a.result c.parts-b.result g.met.K.InRows.room c.parts-a.ensures.formed c.parts-b.ensures.formed in let a = k.left in let b = k.right in
    record { first = product_room a.p b.m k.room; second = product_room b.p a.m k.room }

pub two_products-q-requires : goal.two_products-q-requires
two_products-q-requires g c =
    let k = pair g.K.InRows.radicand g.K.InRows.SIZE c.parts-a.result c.parts-b.result g.met.K.InRows.room c.parts-a.ensures.formed c.parts-b.ensures.formed in let a = k.left in let b = k.right in
    record { first = product_room a.q b.m k.room; second = product_room b.q a.m k.room }

pub times-m-requires : goal.times-m-requires
times-m-requires g c =
    let k = pair g.K.InRows.radicand g.K.InRows.SIZE c.parts-a.result c.parts-b.result g.met.K.InRows.room c.parts-a.ensures.formed c.parts-b.ensures.formed in
    product_room k.left.m k.right.m k.room

pub fitted-requires : goal.fitted-requires
fitted-requires g c =
    let x = c.parts-a.result in let y = c.parts-b.result in
    let k = pair g.K.InRows.radicand g.K.InRows.SIZE x y g.met.K.InRows.room c.parts-a.ensures.formed c.parts-b.ensures.formed in let a = k.left in let b = k.right in
    let e = sum_parts x y a.fits b.fits c.two_products-p.result c.two_products-q.result c.times-m.result (search rules) (search rules) (search rules) c.two_products-p.ensures.value c.two_products-q.ensures.value c.times-m.ensures in
    record {
      above = subst (λ (z : Parts). pos 0 <ℤ z.m) (sym e) (product_above x.m y.m a.above b.above);
      plain = subst (λ (z : Parts). Plain g.K.InRows.radicand z.q) (sym e) (plain_sum g.K.InRows.radicand x.q y.q y.m x.m c.parts-a.ensures.formed.1 c.parts-b.ensures.formed.1);
    }

pub returns : goal.returns
returns g c =
    let D = g.K.InRows.radicand in let x = c.parts-a.result in let y = c.parts-b.result in
    let k = pair D g.K.InRows.SIZE x y g.met.K.InRows.room c.parts-a.ensures.formed c.parts-b.ensures.formed in let a = k.left in let b = k.right in
    let e = sum_parts x y a.fits b.fits c.two_products-p.result c.two_products-q.result c.times-m.result (search rules) (search rules) (search rules) c.two_products-p.ensures.value c.two_products-q.ensures.value c.times-m.ensures in
    answer_for D g.K.InRows.value _ (raw_sum x y) _ c.fitted.result e
    (raw_sum_is D x y a.above b.above ∙ ap₂ add_e c.parts-a.ensures.means c.parts-b.ensures.means)
    c.fitted.ensures
