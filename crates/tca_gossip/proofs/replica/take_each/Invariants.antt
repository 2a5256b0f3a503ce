use Rattle.std.proofs.Common.{◌≡◌, ◌≤◌, true, take, length}
use Rattle.tca_gossip.specs.Replicas.{take_all, fresh_of}
use Rattle.tca_gossip.proofs.replica.take_each.Given as goal

abbrev pub invariant-loop-report : goal.invariant-loop-report
invariant-loop-report l = record {
  state : l.contents.replica ≡ take_all l.fn.contents.replica (take l.report-index l.reports);
  fresh : l.fresh ≡ length (fresh_of l.fn.contents.replica.log (take l.report-index l.reports));
  count : l.taken ≡ l.report-index;
  within : l.fresh ≤ l.taken;
  stays : l.fn.contents.billing.kept ≡ true → l.contents.billing.kept ≡ true;
}
