use Rattle.std.proofs.Common.{◌≡◌, map, take}
use Rattle.tca_ingest.proofs.workers.lent.Given as goal

abbrev pub invariant-loop-input : goal.invariant-loop-input
invariant-loop-input l = map (λ s. s.now) l.list.items ≡ take l.input-index l.inputs
