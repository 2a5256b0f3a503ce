use Rattle.std.proofs.Common.{◌<◌, length, arith}
use Rattle.std.proofs.lemmas.Bool.Decides.{nat_tests}
use Rattle.tca_wire.proofs.Lending.{none_first, has_first}
use Rattle.tca_wire.proofs.framer.first_frame.Goals as goal

pub returns-then-is_empty-clause-none : goal.returns-then-is_empty-clause-none
returns-then-is_empty-clause-none c =
    none_first c.args.octets.now (grind (arith, nat_tests, c.is_empty.ensures, c.if-is_empty.true))

pub said_length-requires : goal.said_length-requires
said_length-requires c =
    let some : 0 < length c.args.octets.now = grind (arith, nat_tests, c.is_empty.ensures, c.if-is_empty.false) in
    omega (arith, (has_first c.args.octets.now c.requires some).room)

pub split_at-requires : goal.split_at-requires
split_at-requires c =
    let some : 0 < length c.args.octets.now = grind (arith, nat_tests, c.is_empty.ensures, c.if-is_empty.false) in
    omega (arith, (has_first c.args.octets.now c.requires some).within, c.said_length.ensures)

pub returns-clause-some : goal.returns-clause-some
returns-clause-some c =
    let some : 0 < length c.args.octets.now = grind (arith, nat_tests, c.is_empty.ensures, c.if-is_empty.false) in
    rw (c.split_at.ensures.front, c.split_at.ensures.back, c.said_length.ensures) (has_first c.args.octets.now c.requires some).frames

pub returns-clause-behind : goal.returns-clause-behind
returns-clause-behind c =
    let some : 0 < length c.args.octets.now = grind (arith, nat_tests, c.is_empty.ensures, c.if-is_empty.false) in
    rw (c.split_at.ensures.back, c.said_length.ensures) (has_first c.args.octets.now c.requires some).behind
