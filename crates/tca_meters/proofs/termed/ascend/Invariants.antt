use Rattle.std.proofs.Common.{◌≡◌, drop}
use Rattle.tca_meters.specs.Termed.{ascend_from}
use Rattle.tca_meters.proofs.termed.ascend.Given as goal

abbrev pub invariant-loop-start : goal.invariant-loop-start
invariant-loop-start l = ascend_from 0 l.terms ≡ ascend_from l.last (drop l.start-index l.terms)
