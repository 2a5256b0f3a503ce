use Rattle.std.proofs.Common.{◌≡◌, [], take}
use Rattle.tca_ingest.specs.Works.{calls_left}
use Rattle.tca_ingest.proofs.in_order.are_empty.Given as goal

abbrev pub invariant-loop-calls : goal.invariant-loop-calls
invariant-loop-calls l = calls_left (take l.calls-index l.left) ≡ []
