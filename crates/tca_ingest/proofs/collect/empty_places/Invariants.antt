use Rattle.std.proofs.Common.{take}
use Rattle.tca_ingest.specs.Works.{AreResultsAt}
use Rattle.tca_ingest.proofs.collect.empty_places.Given as goal

abbrev pub invariant-loop-input : goal.invariant-loop-input
invariant-loop-input l = AreResultsAt (take l.input-index l.inputs) l.places.items
