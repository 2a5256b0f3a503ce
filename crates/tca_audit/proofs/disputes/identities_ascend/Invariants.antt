use Rattle.std.proofs.Common.{take}
use Rattle.std.specs.Prelude.{map}
use Rattle.std.specs.List.Sorted.{IsStrictlySortedBy}
use Rattle.tca_report.specs.report.Identities.{identity_cmp, identity_of}
use Rattle.tca_audit.proofs.disputes.identities_ascend.Given as goal

abbrev pub invariant-loop-at : goal.invariant-loop-at
invariant-loop-at l = IsStrictlySortedBy identity_cmp (take l.at (map identity_of l.reports))
