use Rattle.std.proofs.Common.{◌≡◌, map, take}
use Rattle.tca_gossip.specs.Replicas.{fresh_of}
use Rattle.tca_gossip.proofs.Newcomers.{open_of}
use Rattle.tca_gossip.proofs.fresh.fresh_among.Given as goal

abbrev pub invariant-loop-report : goal.invariant-loop-report
invariant-loop-report l = record {
  left : l.is_new.items ≡ map (open_of l.log (take l.report-index l.reports)) l.set;
  fresh_is : l.fresh.items ≡ fresh_of l.log (take l.report-index l.reports);
}
