use Rattle.std.proofs.Common.{◌≡◌, ◌++◌, drop}
use Rattle.tca_audit.specs.inside.Repeats.{repeats}
use Rattle.tca_audit.proofs.disputes.repeated.Given as goal

abbrev pub invariant-loop-at : goal.invariant-loop-at
invariant-loop-at l = l.list.items ++ repeats (drop l.at l.sorted) ≡ repeats l.sorted
