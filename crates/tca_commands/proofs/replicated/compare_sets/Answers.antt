use Rattle.std.proofs.lemmas.Grind.{common_steps}
use Rattle.std.proofs.lemmas.Result.{IfErr-weaker, IfOk-weaker}
use Rattle.std.proofs.Common.{◌≡◌, ◌≢◌, ◌≤◌, ◌∙◌, None, List, length, subst, sym, arith}
use Rattle.std.specs.List.{flat_map}
use Rattle.std.specs.List.Sorted.{IsStrictlySortedBy}
use Rattle.tca_join.proofs.Sets.{rises_in_order}
use Rattle.tca_report.specs.report.Reports.{PacketReport, report_cmp, most_reports}
use Rattle.tca_report.proofs.lemmas.report.Order.{report_total}
use Rattle.tca_ingest.specs.declared.fault.CloseFault.TheVariants.{Clash}
use Rattle.tca_commands.specs.Replicated.{IsExchangeRefused}
use Rattle.tca_program.specs.Unions.{refusal, union_of}
use Rattle.tca_program.specs.declared.fault.Family.TheVariants as family
use Rattle.tca_commands.proofs.RefusalLaws.{in_run, of_close}
use Rattle.tca_commands.proofs.replicated.compare_sets.Goals as goal

pub returns-clause-whole : goal.returns-clause-whole
returns-clause-whole c = IfOk-weaker c.check_held.result _ _ (λ x h. h.0 ∙ c.in_ok-reports.ensures) c.check_held.ensures.held

pub returns-clause-held : goal.returns-clause-held
returns-clause-held c = IfOk-weaker c.check_held.result _ _ (λ x h. h.1) c.check_held.ensures.held

pub returns-clause-rises : goal.returns-clause-rises
returns-clause-rises c =
    IfOk-weaker c.check_held.result _ _ (λ x h. subst (λ (rs : List PacketReport). IsStrictlySortedBy report_cmp rs) (sym (h.0 ∙ c.in_ok-reports.ensures)) (rises_in_order report_cmp report_total _)) c.check_held.ensures.held

pub returns-clause-limit : goal.returns-clause-limit
returns-clause-limit c =
    IfOk-weaker c.check_held.result _ _ (λ x h. subst (λ (rs : List PacketReport). length rs ≤ most_reports) (sym h.1) c.check_held.ensures.limit) c.check_held.ensures.held

pub returns-clause-refused : goal.returns-clause-refused
returns-clause-refused c =
    IfErr-weaker c.check_held.result (λ e. (e ≡ refusal None family.Close 3) × (c.in_ok-reports.reports.items ≢ c.args.log)) IsExchangeRefused
    (λ e h. in_run e (of_close e (Clash 0) h.0)) c.check_held.ensures.differs

pub returns-then-are_log-clause-whole : goal.returns-then-are_log-clause-whole
returns-then-are_log-clause-whole c =
    let held : flat_map (λ rs. rs) c.args.sets.items ≡ c.args.log = subst (λ (ls : List (List PacketReport)). flat_map (λ rs. rs) ls ≡ c.args.log) c.deref.ensures.value (c.are_log.ensures.chained c.if-are_log.true) in
    let union : union_of c.args.sets.items ≡ c.args.log = subst (λ (ls : List (List PacketReport)). union_of ls ≡ c.args.log) c.deref.ensures.value (c.are_log.ensures.union c.if-are_log.true) in
    c.in_ok-chain_all.ensures ∙ held ∙ sym union

pub returns-then-are_log-clause-held : goal.returns-then-are_log-clause-held
returns-then-are_log-clause-held c =
    let held : flat_map (λ rs. rs) c.args.sets.items ≡ c.args.log = subst (λ (ls : List (List PacketReport)). flat_map (λ rs. rs) ls ≡ c.args.log) c.deref.ensures.value (c.are_log.ensures.chained c.if-are_log.true) in
    c.in_ok-chain_all.ensures ∙ held

pub returns-then-are_log-clause-rises : goal.returns-then-are_log-clause-rises
returns-then-are_log-clause-rises c =
    let held : flat_map (λ rs. rs) c.args.sets.items ≡ c.args.log = subst (λ (ls : List (List PacketReport)). flat_map (λ rs. rs) ls ≡ c.args.log) c.deref.ensures.value (c.are_log.ensures.chained c.if-are_log.true) in
    let union : union_of c.args.sets.items ≡ c.args.log = subst (λ (ls : List (List PacketReport)). union_of ls ≡ c.args.log) c.deref.ensures.value (c.are_log.ensures.union c.if-are_log.true) in
    subst (λ (rs : List PacketReport). IsStrictlySortedBy report_cmp rs) (sym (c.in_ok-chain_all.ensures ∙ held ∙ sym union)) (rises_in_order report_cmp report_total _)

pub returns-then-are_log-clause-limit : goal.returns-then-are_log-clause-limit
returns-then-are_log-clause-limit c =
    let held : flat_map (λ rs. rs) c.args.sets.items ≡ c.args.log = subst (λ (ls : List (List PacketReport)). flat_map (λ rs. rs) ls ≡ c.args.log) c.deref.ensures.value (c.are_log.ensures.chained c.if-are_log.true) in
    subst (λ (rs : List PacketReport). length rs ≤ most_reports) (sym (c.in_ok-chain_all.ensures ∙ held)) c.are_log.ensures.limit

pub returns-in_err-reports-clause-whole : goal.returns-in_err-reports-clause-whole
returns-in_err-reports-clause-whole c = grind (arith, common_steps)

pub returns-in_err-reports-clause-held : goal.returns-in_err-reports-clause-held
returns-in_err-reports-clause-held c = grind (arith, common_steps)

pub returns-in_err-reports-clause-rises : goal.returns-in_err-reports-clause-rises
returns-in_err-reports-clause-rises c = grind (arith, common_steps)

pub returns-in_err-reports-clause-limit : goal.returns-in_err-reports-clause-limit
returns-in_err-reports-clause-limit c = grind (arith, common_steps)

pub returns-in_err-reports-clause-differs : goal.returns-in_err-reports-clause-differs
returns-in_err-reports-clause-differs c = grind (arith, common_steps)

pub returns-in_err-reports-clause-refused : goal.returns-in_err-reports-clause-refused
returns-in_err-reports-clause-refused c = grind (arith, common_steps)
