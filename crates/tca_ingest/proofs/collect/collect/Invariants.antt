use Rattle.tca_ingest.specs.Works.{AreResultsAt}
use Rattle.tca_ingest.proofs.collect.collect.Given as goal

abbrev pub invariant-loop : goal.invariant-loop
invariant-loop g l =
    (goal.iterator-loop g).can_next l.iterator' × (goal.iterator-loop g).is_finite l.iterator' × AreResultsAt l.inputs l.places.items
