use Rattle.std.proofs.Common.{◌≡◌, ◌++◌, ◌∙◌, List, IfOk, length, subst, sym, ap, arith}
use Rattle.tca_join.specs.Sets.{in_order}
use Rattle.tca_report.specs.report.Reports.{PacketReport, report_cmp}
use Rattle.tca_gossip.specs.Replicas.{fresh_of}
use Rattle.tca_gossip.proofs.Newcomers.{all_fresh, set_alike, set_rises}
use Rattle.tca_gossip.proofs.fresh.fresh_in.Goals as goal

pub count_new-requires : goal.count_new-requires
count_new-requires c = set_rises c.args.set.now c.args.reports.now c.requires

pub returns-then-count_new-set : goal.returns-then-count_new-set
returns-then-count_new-set c =
    let log = c.args.log.now in
    let reports = c.args.reports.now in
    let alike : in_order report_cmp (log ++ c.args.set.now) ≡ in_order report_cmp (log ++ reports) = set_alike log c.args.set.now reports c.requires in
    let whole : fresh_of log reports ≡ reports =
    all_fresh log reports c.count_new.ensures.rises (omega (arith, c.count_new.ensures.count, ap length alike, c.if-set-list.true, c.if-count_new-set.true, ap length c.as_slice-list.ensures)) in
    subst (λ (l : List PacketReport). IfOk c.share.result (λ fresh. fresh ≡ l)) (sym whole) c.share.ensures

pub returns : goal.returns
returns c =
    let news = c.in_ok-fresh.ensures ∙ ap (λ (l : List PacketReport). fresh_of c.args.log.now l) c.as_slice-list.ensures in
    subst (λ (l : List PacketReport). IfOk c.of.result (λ fresh. fresh ≡ l)) news c.of.ensures
