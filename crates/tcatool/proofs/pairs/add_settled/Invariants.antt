use Rattle.std.proofs.Common.{◌≡◌, ◌≤◌, ◌*◌, ◌++◌, List, length, map}
use Rattle.std.specs.Prelude.{sum_by}
use Rattle.tca_log.specs.Disputes.{undisputed}
use Rattle.tca_report.specs.report.Reports.{PacketReport}
use Rattle.tcatool.specs.Paired.{pairs_of}
use Rattle.tcatool.specs.inside.Pairing.{usage_so_far}
use Rattle.tcatool.proofs.pairs.add_settled.Given as goal

-- the settled reports before those that are left were added
abbrev pub invariant-loop-report : goal.invariant-loop-report
invariant-loop-report l =
    (seen : List PacketReport)
    × (seen ++ l.report-iterator ≡ undisputed l.log)
    × (l.usages.items ≡ map (usage_so_far l.log seen) (pairs_of l.log))
    × (sum_by (λ r. r.octets) seen ≤ 4294967296 * length seen)
