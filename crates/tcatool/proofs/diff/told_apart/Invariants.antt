use Rattle.std.proofs.Common.{◌≤◌, take}
use Rattle.tcatool.proofs.Differing.{IsTold}
use Rattle.tcatool.proofs.diff.told_apart.Given as goal

-- the first reports were told apart
abbrev pub invariant-loop-report : goal.invariant-loop-report
invariant-loop-report l = record {
  told : IsTold l.a l.b (take l.report-index l.all) l.rows.items l.counts.only_a l.counts.only_b l.counts.both;
  only_a : l.counts.only_a ≤ l.report-index;
  only_b : l.counts.only_b ≤ l.report-index;
  both : l.counts.both ≤ l.report-index;
}
