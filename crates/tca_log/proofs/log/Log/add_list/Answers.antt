use Rattle.std.proofs.lemmas.Grind.{common_steps}
use Rattle.std.proofs.Common.{rules, ◌≡◌, ◌<◌, ◌++◌, ◌∙◌, Option, List, length, ap, subst, sym, arith}
use Rattle.std.specs.Prelude.{IfErr, IfSome, OnOk}
use Rattle.std.specs.List.Sorted.{IsStrictlySortedBy}
use Rattle.tca_join.specs.Sets.{in_order}
use Rattle.tca_join.proofs.Merge.{in_order_of_rising}
use Rattle.tca_join.proofs.Sets.{rises_in_order}
use Rattle.tca_report.specs.report.Reports.{PacketReport, report_cmp, most_reports}
use Rattle.tca_report.proofs.lemmas.report.Order.{report_total, report_exact}
use Rattle.tca_log.specs.declared.fault.LogFault.TheVariants.{Full}
use Rattle.tca_log.proofs.Gathering.{union_set}
use Rattle.tca_log.proofs.log.Log.add_list.Goals as goal

pub returns-then-branch-clause-ok : goal.returns-then-branch-clause-ok
returns-then-branch-clause-ok g c =
    let list = c.args.list in
    let took = c.if-branch.true in
    c.in_ok-take_shared.ensures.new took
    ∙ sym (ap (λ (l : List PacketReport). in_order report_cmp (l ++ list)) (c.in_ok-take_shared.ensures.none took) ∙ in_order_of_rising report_cmp report_total report_exact list (c.in_ok-take_shared.ensures.rises took))

pub returns-in_err-take_shared-clause-full : goal.returns-in_err-take_shared-clause-full
returns-in_err-take_shared-clause-full g c = grind (arith, common_steps)

pub add_set-requires : goal.add_set-requires
add_set-requires g c =
    let list = c.args.list in
    let set : c.in-Some.set ≡ in_order report_cmp list = subst (λ (o : Option (List PacketReport)). IfSome o (λ s. s ≡ in_order report_cmp list)) c.in-Some.is c.in_ok-set.ensures.set in
    subst (λ (rs : List PacketReport). IsStrictlySortedBy report_cmp rs) (sym set) (rises_in_order report_cmp report_total list)

pub returns-in-Some-clause-ok : goal.returns-in-Some-clause-ok
returns-in-Some-clause-ok g c =
    let old = c.args.self.now in
    let list = c.args.list in
    let set : c.in-Some.set ≡ in_order report_cmp list = subst (λ (o : Option (List PacketReport)). IfSome o (λ s. s ≡ in_order report_cmp list)) c.in-Some.is c.in_ok-set.ensures.set in
    let same : in_order report_cmp (old ++ c.in-Some.set) ≡ in_order report_cmp (old ++ list) = ap (λ (l : List PacketReport). in_order report_cmp (old ++ l)) set ∙ union_set old list in
    let stays : c.take_shared.new.self ≡ old = search rules in
    subst (λ (l : List PacketReport). OnOk c.add_set.result (c.add_set.new.self ≡ l)) (ap (λ (l : List PacketReport). in_order report_cmp (l ++ c.in-Some.set)) stays ∙ same) c.add_set.ensures.ok

pub returns-in-Some-clause-full : goal.returns-in-Some-clause-full
returns-in-Some-clause-full g c =
    let old = c.args.self.now in
    let list = c.args.list in
    let set : c.in-Some.set ≡ in_order report_cmp list = subst (λ (o : Option (List PacketReport)). IfSome o (λ s. s ≡ in_order report_cmp list)) c.in-Some.is c.in_ok-set.ensures.set in
    let same : in_order report_cmp (old ++ c.in-Some.set) ≡ in_order report_cmp (old ++ list) = ap (λ (l : List PacketReport). in_order report_cmp (old ++ l)) set ∙ union_set old list in
    let stays : c.take_shared.new.self ≡ old = search rules in
    subst (λ (l : List PacketReport). IfErr c.add_set.result (λ e. e ≡ Full → most_reports < length l)) (ap (λ (l : List PacketReport). in_order report_cmp (l ++ c.in-Some.set)) stays ∙ same) c.add_set.ensures.full

pub returns-in_err-reports-clause-full : goal.returns-in_err-reports-clause-full
returns-in_err-reports-clause-full g c = grind (arith, common_steps)

pub returns-then-branch-clause-count : goal.returns-then-branch-clause-count
returns-then-branch-clause-count g c = search rules
