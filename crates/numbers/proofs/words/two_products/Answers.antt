use Rattle.std.proofs.Common.{◌+ℤ◌, refl, w64, SFits, rules}
use Rattle.std.proofs.lemmas.Int.{to_z-of_z}
use Rattle.numbers.specs.Bounds.{products_fit, products_bound}
use Rattle.numbers.proofs.words.two_products.Goals as goal

pub overflow_add-result : goal.overflow_add-result
overflow_add-result c =
    let fa = c.ranges.a in
    let fb = c.ranges.b in
    let fc = c.ranges.c in
    let fd = c.ranges.d in
    let fr : SFits w64 c.times.result = search rules in
    let fs : SFits w64 c.times-2.result = search rules in
    let e = simp to_z-of_z at c.times.ensures in
    let e' = simp to_z-of_z at c.times-2.ensures in
    simp to_z-of_z (simp (e, e') (products_fit c.args.a c.args.b c.args.c c.args.d c.requires.first c.requires.second))

pub returns : goal.returns
returns c =
    let fa = c.ranges.a in
    let fb = c.ranges.b in
    let fc = c.ranges.c in
    let fd = c.ranges.d in
    let fr : SFits w64 c.times.result = search rules in
    let fs : SFits w64 c.times-2.result = search rules in
    let e = simp to_z-of_z at c.times.ensures in
    let e' = simp to_z-of_z at c.times-2.ensures in
    let s = products_fit c.args.a c.args.b c.args.c c.args.d c.requires.first c.requires.second in
    let t : SFits w64 (c.times.result +ℤ c.times-2.result) = simp (e, e') s in
    simp to_z-of_z (simp (e, e') record { value = refl; bound = products_bound c.args.a c.args.b c.args.c c.args.d })
