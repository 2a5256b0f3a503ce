use Rattle.std.proofs.Common.{List, subst, sym, arith}
use Rattle.std.specs.List.Sorted.{IsStrictlySortedBy}
use Rattle.tca_report.specs.report.Reports.{PacketReport, report_cmp}
use Rattle.tca_join.proofs.Sets.{rises_in_order}
use Rattle.tca_report.proofs.lemmas.report.Order.{report_total}
use Rattle.tca_gossip.proofs.Newcomers.{fresh_bring, none_taken, set_brings}
use Rattle.tca_gossip.proofs.contents.Contents.take_by_set.Goals as goal

pub returns-then-len-eq0-clause-state : goal.returns-then-len-eq0-clause-state
returns-then-len-eq0-clause-state c = none_taken c.args.self.now.replica c.args.reports.now c.in_ok-fresh.fresh (rw (← c.self.view_is) c.in_ok-fresh.ensures) (omega (arith, c.len.ensures, c.if-len-eq0.true))

pub put_fresh-requires-clause-same : goal.put_fresh-requires-clause-same
put_fresh-requires-clause-same c =
    rw (← c.self.view_is) (set_brings c.self.inside.log c.in_ok-set.set c.args.reports.now c.in_ok-set.ensures c.in_ok-fresh.fresh c.self.invariant.replica.log_rises c.in_ok-fresh.ensures)

pub put_fresh-requires-clause-new : goal.put_fresh-requires-clause-new
put_fresh-requires-clause-new c =
    rw (← c.self.view_is) (fresh_bring c.self.inside.log c.in_ok-set.set c.args.reports.now c.in_ok-set.ensures c.in_ok-fresh.fresh c.self.invariant.replica.log_rises c.in_ok-fresh.ensures)

pub put_fresh-requires-clause-rises : goal.put_fresh-requires-clause-rises
put_fresh-requires-clause-rises c = subst (λ (rs : List PacketReport). IsStrictlySortedBy report_cmp rs) (sym c.in_ok-set.ensures) (rises_in_order report_cmp report_total c.args.reports.now)
