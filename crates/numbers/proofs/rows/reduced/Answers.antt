use Rattle.std.proofs.Common.{◌≡◌, ℕ, ◌<◌, ◌^◌, pos, nat_abs, ◌<ℤ◌, sym, subst, arith, w64, SFits, rules}
use Rattle.std.proofs.lemmas.Int.{ints}
use Rattle.algebra.specs.Gcd.{gcd₃}
use Rattle.numbers.specs.declared.Parts.{Parts}
use Rattle.numbers.specs.Forms.{LowestOf}
use Rattle.numbers.specs.Lowering.{zero_lowest, divided_lowest, divisor_above, divisor_bound}
use Rattle.numbers.specs.Machine.{divides_well, divides_to}
use Rattle.numbers.proofs.rows.reduced.Goals as goal

abbrev divisor : Parts → ℕ
divisor row = gcd₃ (nat_abs row.p) (nat_abs row.q) (nat_abs row.m)

divisor_small : (row : Parts) → pos 0 <ℤ row.m → SFits w64 row.m → divisor row < 2 ^ 63
divisor_small row h f = let b = divisor_bound row h in omega (arith, ints)

pub returns-then-raw-eq0-2 : goal.returns-then-raw-eq0-2
returns-then-raw-eq0-2 c =
    let raw = c.args.raw in
    let fp : SFits w64 raw.p = search rules in
    let fq : SFits w64 raw.q = search rules in
    zero_lowest raw c.requires (omega (arith, ints)) (omega (arith, ints))

pub overflow_cast-divisor : goal.overflow_cast-divisor
overflow_cast-divisor c =
    let e = c.divisor_of-divisor.ensures in
    let f : SFits w64 c.args.raw.m = search rules in
    let s = divisor_small c.args.raw c.requires f in
    omega (arith, ints)

pub nonzero_div-result : goal.nonzero_div-result
nonzero_div-result c =
    let raw = c.args.raw in
    let fp : SFits w64 raw.p = search rules in
    let fm : SFits w64 raw.m = search rules in
    divides_well raw.p c.divisor_of-divisor.result (divisor raw) fp (divisor_small raw c.requires fm) c.divisor_of-divisor.ensures (divisor_above raw c.requires)

pub nonzero_div-result-2 : goal.nonzero_div-result-2
nonzero_div-result-2 c =
    let raw = c.args.raw in
    let fq : SFits w64 raw.q = search rules in
    let fm : SFits w64 raw.m = search rules in
    divides_well raw.q c.divisor_of-divisor.result (divisor raw) fq (divisor_small raw c.requires fm) c.divisor_of-divisor.ensures (divisor_above raw c.requires)

pub nonzero_div-result-3 : goal.nonzero_div-result-3
nonzero_div-result-3 c =
    let raw = c.args.raw in
    let fm : SFits w64 raw.m = search rules in
    divides_well raw.m c.divisor_of-divisor.result (divisor raw) fm (divisor_small raw c.requires fm) c.divisor_of-divisor.ensures (divisor_above raw c.requires)

pub returns : goal.returns
returns c =
    let raw = c.args.raw in let r = c.divisor_of-divisor.result in let e = c.divisor_of-divisor.ensures in
    let fp : SFits w64 raw.p = search rules in
    let fq : SFits w64 raw.q = search rules in
    let fm : SFits w64 raw.m = search rules in
    let s = divisor_small raw c.requires fm in
    let p = divides_to raw.p r (divisor raw) fp s e in
    let q = divides_to raw.q r (divisor raw) fq s e in
    let m = divides_to raw.m r (divisor raw) fm s e in
    let same : ◌≡◌ {A = Parts} _ _ = λ i. record { p = p i; q = q i; m = m i } in
    subst (LowestOf raw) (sym same) (divided_lowest raw.p raw.q raw.m c.requires)
