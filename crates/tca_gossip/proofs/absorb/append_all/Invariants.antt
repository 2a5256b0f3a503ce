use Rattle.std.proofs.Common.{◌≡◌, true, take}
use Rattle.tca_gossip.specs.Replicas.{appended, with_origin}
use Rattle.tca_gossip.proofs.absorb.append_all.Given as goal

abbrev pub invariant-loop-report : goal.invariant-loop-report
invariant-loop-report l = record {
  state : l.contents.replica ≡ appended l.fn.contents.replica (with_origin l.origin (take l.report-index l.reports));
  count : l.taken ≡ l.report-index;
  stays : l.fn.contents.billing.kept ≡ true → l.contents.billing.kept ≡ true;
}
