use Rattle.std.proofs.Common.{◌≡◌, Some}
use Rattle.std.specs.List.{AllZip}
use Rattle.tca_ingest.specs.Works.{AreNumbered}
use Rattle.tca_ingest.proofs.collect.filled.Given as goal

abbrev pub invariant-loop-place : goal.invariant-loop-place
invariant-loop-place l =
    (goal.iterator-loop-place).can_next l.place-iterator ×
    (goal.iterator-loop-place).is_finite l.place-iterator ×
    AllZip (λ place d. place ≡ Some d.result) l.yielded l.done.items ×
    AreNumbered l.done.items
