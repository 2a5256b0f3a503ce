use Rattle.std.proofs.Common.{◌≡◌, true, rules, arith}
use Rattle.tca_meters.specs.Termed.{ascend_from}
use Rattle.tca_meters.proofs.Slots.{are_slots}
use Rattle.tca_meters.proofs.termed.Termed.new.Goals as goal

pub invariant_of-result : goal.invariant_of-result
invariant_of-result c =
    let told : ascend_from 0 c.args.terms.now ≡ true = search rules in
    rw c.with-later.ensures (are_slots c.args.first c.args.terms.now (omega arith) told)
