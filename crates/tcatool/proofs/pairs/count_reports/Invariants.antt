use Rattle.std.proofs.Common.{◌≡◌, ◌++◌, List, [], map}
use Rattle.tca_report.specs.report.Reports.{PacketReport}
use Rattle.tcatool.specs.Paired.{pairs_of}
use Rattle.tcatool.specs.inside.Pairing.{usage_so_far}
use Rattle.tcatool.proofs.pairs.count_reports.Given as goal

-- the reports before those that are left were counted
abbrev pub invariant-loop-report : goal.invariant-loop-report
invariant-loop-report l = (seen : List PacketReport) × (seen ++ l.report-iterator ≡ l.log) × (l.usages.items ≡ map (usage_so_far seen []) (pairs_of l.log))
