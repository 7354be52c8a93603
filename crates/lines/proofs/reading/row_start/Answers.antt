use Rattle.std.proofs.Common.{◌≡◌, ℕ, zero, suc, ◌+◌, ◌-◌, ◌*◌, ◌≤◌, mul-le-mul, arith}
use Rattle.lines.specs.Tables.{rows}
use Rattle.lines.proofs.reading.row_start.Goals as goal

one_row : (r a d : ℕ) → r + r ≡ a * (a + 2 * d + 1) → (r + d) + (r + d) ≡ suc a * (a + 2 * d)
one_row r a d h = omega arith

-- twice the rows are a rectangle
twice : (w a : ℕ) → a ≤ w → rows w a + rows w a ≡ a * (2 * w + 1 - a)
twice w zero h = omega arith
twice w (suc a) h =
    let d = w - a in
    let e : 2 * w + 1 - a ≡ a + 2 * d + 1 = omega arith in
    let f : 2 * w + 1 - suc a ≡ a + 2 * d = omega arith in
    rw f (one_row (rows w a) a d (rw e at (twice w a (omega arith))))

few : (w a : ℕ) → w ≤ 511 → rows w a ≤ 511 * a
few w zero h = omega arith
few w (suc a) h = omega (arith, few w a h)

pub overflow_mul-result : goal.overflow_mul-result
overflow_mul-result c =
    let a : c.args.a ≤ 511 = omega arith in
    let b : 2 * c.args.w + 1 - c.args.a ≤ 1023 = omega arith in
    omega (arith, mul-le-mul a b)

pub returns : goal.returns
returns c = record {
  value = omega (arith, twice c.args.w c.args.a c.requires.row);
  bound = omega (arith, twice c.args.w c.args.a c.requires.row, few c.args.w c.args.a c.requires.order);
}
