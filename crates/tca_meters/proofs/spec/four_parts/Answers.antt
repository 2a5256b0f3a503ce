use Rattle.std.proofs.Common.{ap, length, arith}
use Rattle.tca_meters.proofs.SpecParts.{some_part}
use Rattle.tca_meters.proofs.spec.four_parts.Goals as goal

pub returns-in-Some : goal.returns-in-Some
returns-in-Some c = λ four. omega (
  arith,
  four,
  ap length c.in_ok-first.ensures,
  ap length c.in_ok-second.ensures,
  ap length c.in_ok-third.ensures,
  ap length c.in-Some.ensures,
  some_part c.in-Some.field-0.1.now,
)
