use Rattle.std.proofs.Common.{◌≡◌, ◌∙◌, List, IfOk, drop, subst, ap}
use Rattle.tca_report.specs.report.Reports.{PacketReport}
use Rattle.tca_join.proofs.Differ.{rest_is}
use Rattle.tca_gossip.proofs.delta.reports_from.Goals as goal

pub returns-then-from-eq0 : goal.returns-then-from-eq0
returns-then-from-eq0 c = rw c.if-from-eq0.true c.share.ensures

pub returns : goal.returns
returns c =
    let rest = c.in_ok-list.ensures.items ∙ rest_is c.items.result.now c.args.from ∙ ap (drop c.args.from) c.items.ensures in
    subst (λ (l : List PacketReport). IfOk c.of.result (λ reports. reports ≡ l)) rest c.of.ensures
