use Rattle.std.proofs.Common.{◌≡◌, ◌≤◌, ◌∙◌, List, length, subst, sym}
use Rattle.std.specs.List.{flat_map}
use Rattle.std.specs.List.Sorted.{IsStrictlySortedBy}
use Rattle.tca_join.proofs.Sets.{rises_in_order}
use Rattle.tca_report.specs.report.Reports.{PacketReport, report_cmp, most_reports}
use Rattle.tca_report.proofs.lemmas.report.Order.{report_total}
use Rattle.tca_program.specs.Unions.{union_of}
use Rattle.tca_commands.proofs.replicated.compare.Goals as goal

pub returns-then-are_log-clause-whole : goal.returns-then-are_log-clause-whole
returns-then-are_log-clause-whole c =
    let held : flat_map (λ rs. rs) c.args.lists.items ≡ c.args.log = subst (λ (ls : List (List PacketReport)). flat_map (λ rs. rs) ls ≡ c.args.log) c.deref.ensures.value (c.are_log.ensures.chained c.if-are_log.true) in
    let union : union_of c.args.lists.items ≡ c.args.log = subst (λ (ls : List (List PacketReport)). union_of ls ≡ c.args.log) c.deref.ensures.value (c.are_log.ensures.union c.if-are_log.true) in
    c.in_ok-chain_all.ensures ∙ held ∙ sym union

pub returns-then-are_log-clause-held : goal.returns-then-are_log-clause-held
returns-then-are_log-clause-held c =
    let held : flat_map (λ rs. rs) c.args.lists.items ≡ c.args.log = subst (λ (ls : List (List PacketReport)). flat_map (λ rs. rs) ls ≡ c.args.log) c.deref.ensures.value (c.are_log.ensures.chained c.if-are_log.true) in
    c.in_ok-chain_all.ensures ∙ held

pub returns-then-are_log-clause-rises : goal.returns-then-are_log-clause-rises
returns-then-are_log-clause-rises c =
    let held : flat_map (λ rs. rs) c.args.lists.items ≡ c.args.log = subst (λ (ls : List (List PacketReport)). flat_map (λ rs. rs) ls ≡ c.args.log) c.deref.ensures.value (c.are_log.ensures.chained c.if-are_log.true) in
    let union : union_of c.args.lists.items ≡ c.args.log = subst (λ (ls : List (List PacketReport)). union_of ls ≡ c.args.log) c.deref.ensures.value (c.are_log.ensures.union c.if-are_log.true) in
    subst (λ (rs : List PacketReport). IsStrictlySortedBy report_cmp rs) (sym (c.in_ok-chain_all.ensures ∙ held ∙ sym union)) (rises_in_order report_cmp report_total _)

pub returns-then-are_log-clause-limit : goal.returns-then-are_log-clause-limit
returns-then-are_log-clause-limit c =
    let held : flat_map (λ rs. rs) c.args.lists.items ≡ c.args.log = subst (λ (ls : List (List PacketReport)). flat_map (λ rs. rs) ls ≡ c.args.log) c.deref.ensures.value (c.are_log.ensures.chained c.if-are_log.true) in
    subst (λ (rs : List PacketReport). length rs ≤ most_reports) (sym (c.in_ok-chain_all.ensures ∙ held)) c.are_log.ensures.limit
