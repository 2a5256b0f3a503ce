use Rattle.std.proofs.Common.{◌≤◌, ◌^◌, length, arith}
use Rattle.std.proofs.Math.Nat.{pow-le-pow_right}
use Rattle.byteorder.specs.Numbers.{big_from-lt}
use Rattle.tca_report.proofs.input.extraction.read_unsigned.Goals as goal

pub returns-clause-small : goal.returns-clause-small
returns-clause-small c = λ le.
    let v = c.args.value.now in
    let most : length v ≤ 4 = omega (arith, c.if-value-most.false) in
    let a = big_from-lt 0 (length v) v (λ k. omega (arith, c.type_inv.value k)) in
    let power : 256 ^ length v ≤ 256 ^ 4 = pow-le-pow_right {n = 256} (omega arith) {i = length v} {j = 4} most in
    omega (arith, a, power, c.read_number.ensures)
