use Rattle.std.proofs.Common.{rules, ◌≡◌, ◌≤◌, List, [], ◌∷◌, ◌++◌, append_assoc, sym, ap, subst, ◌∙◌}
use Rattle.std.specs.Prelude.{IsTrue}
use Rattle.std.proofs.lemmas.List.{append-nil}
use Rattle.std.specs.List.Sorted.{IsStrictlySortedBy}
use Rattle.tca_report.specs.report.Reports.{PacketReport, report_cmp}
use Rattle.tca_report.specs.report.Identities.{identity_of}
use Rattle.tca_report.specs.declared.report.Identity.{Identity}
use Rattle.tca_report.proofs.lemmas.report.Order.{report_total}
use Rattle.tca_log.specs.inside.Logs.{count_at}
use Rattle.tca_log.proofs.AscendingIdentities.{below_first, below_more, none_alone, none_disputed}
use Rattle.tca_log.proofs.AscendingReports.{rises_alone, rises_none, rises_snoc}
use Rattle.tca_log.proofs.ascending.all_ascend.Goals as goal

pub returns-in_default-clause-rises : goal.returns-in_default-clause-rises
returns-in_default-clause-rises c = λ e. subst (λ (l : List PacketReport). IsStrictlySortedBy report_cmp l) (search rules) (rises_none report_cmp)

pub returns-in_default-clause-alone : goal.returns-in_default-clause-alone
returns-in_default-clause-alone c = λ e. none_disputed c.args.reports.now (subst (λ (l : List PacketReport). (i : Identity) → count_at l i ≤ 1) (search rules) none_alone)

pub loop-report-init : goal.loop-report-init
loop-report-init c = record {
  seen = [];
  split = search rules;
  rises = rises_alone report_cmp c.in-Some.first.now;
  below = below_first c.in-Some.first.now;
}

pub loop-report-preserved : goal.loop-report-preserved
loop-report-preserved c =
    let r = c.in-Some-report.report.now in
    let l = c.loop-report.invariant in
    let before = c.loop-report.before in
    let yes : IsTrue c.follows.result = search rules in
    record {
      seen = l.seen ++ before ∷ [];
      split = append_assoc (l.seen ++ before ∷ []) (r ∷ []) c.next-in-loop-report.new.self ∙ ap (λ (rs : List PacketReport). (l.seen ++ before ∷ []) ++ rs) (sym c.in-Some-report.ensures.steps) ∙ l.split;
      rises = rises_snoc report_cmp report_total before r l.seen (c.follows.ensures.report yes) l.rises;
      below = below_more (l.seen ++ before ∷ []) (identity_of before) r l.below (c.follows.ensures.identity yes);
    }

pub returns-clause-rises : goal.returns-clause-rises
returns-clause-rises c = λ e.
    let seen = c.loop-report.invariant.seen ++ c.loop-report.before ∷ [] in
    let all : seen ≡ c.args.reports.now = sym (append-nil seen) ∙ ap (λ (l : List PacketReport). seen ++ l) (sym c.in-None.ensures.steps.0) ∙ c.loop-report.invariant.split in
    subst (λ (l : List PacketReport). IsStrictlySortedBy report_cmp l) all c.loop-report.invariant.rises

pub returns-clause-alone : goal.returns-clause-alone
returns-clause-alone c = λ e.
    let seen = c.loop-report.invariant.seen ++ c.loop-report.before ∷ [] in
    let all : seen ≡ c.args.reports.now = sym (append-nil seen) ∙ ap (λ (l : List PacketReport). seen ++ l) (sym c.in-None.ensures.steps.0) ∙ c.loop-report.invariant.split in
    none_disputed c.args.reports.now (subst (λ (l : List PacketReport). (i : Identity) → count_at l i ≤ 1) all c.loop-report.invariant.below.alone)
