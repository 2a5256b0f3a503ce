use Rattle.std.proofs.Common.{◌≡◌, false, take}
use Rattle.std.specs.List.{AllByRecursion}
use Rattle.tca_log.specs.inside.Spans.{is_of}
use Rattle.tca_log.proofs.spans.place_of.Given as goal

abbrev pub invariant-loop-at : goal.invariant-loop-at
invariant-loop-at l = AllByRecursion (λ s. is_of s l.identity ≡ false) (take l.at l.spans)
