use Rattle.std.proofs.Common.{rules, ◌≡◌, ◌≤◌, List, [], ◌∷◌, ◌++◌, append_assoc, sym, ap, subst, ◌∙◌}
use Rattle.std.proofs.lemmas.List.{append-nil}
use Rattle.std.specs.declared.cmp.Ordering.TheVariants.{Less}
use Rattle.tca_report.specs.report.Reports.{PacketReport}
use Rattle.tca_report.specs.report.Identities.{identity_cmp, identity_of}
use Rattle.tca_report.specs.declared.report.Identity.{Identity}
use Rattle.tca_log.specs.inside.Logs.{count_at}
use Rattle.tca_log.proofs.AscendingIdentities.{below_first, below_more, none_alone, none_disputed}
use Rattle.tca_log.proofs.ascending.identities_ascend.Goals as goal

pub returns-in_default : goal.returns-in_default
returns-in_default g c = λ e. none_disputed c.args.reports.now.rows (subst (λ (l : List PacketReport). (i : Identity) → count_at l i ≤ 1) (search rules) none_alone)

pub loop-report-init : goal.loop-report-init
loop-report-init g c = record {
  seen = c.in-Some.first.now ∷ [];
  split = search rules;
  below = rw c.identity-before.ensures (below_first c.in-Some.first.now);
}

pub loop-report-preserved : goal.loop-report-preserved
loop-report-preserved g c =
    let r = c.in-Some-report.report.now in
    let l = c.loop-report.invariant in
    let rises : identity_cmp c.loop-report.before (identity_of r) ≡ Less = search rules in
    record {
      seen = l.seen ++ r ∷ [];
      split = append_assoc l.seen (r ∷ []) c.next-in-loop-report.new.self ∙ ap (λ (rs : List PacketReport). l.seen ++ rs) (sym c.in-Some-report.ensures.steps) ∙ l.split;
      below = rw c.identity-identity.ensures (below_more l.seen c.loop-report.before r l.below rises);
    }

pub returns : goal.returns
returns g c = λ e.
    let seen = c.loop-report.invariant.seen in
    let all : seen ≡ c.args.reports.now.rows = sym (append-nil seen) ∙ ap (λ (l : List PacketReport). seen ++ l) (sym c.in-None.ensures.steps.0) ∙ c.loop-report.invariant.split in
    none_disputed c.args.reports.now.rows (subst (λ (l : List PacketReport). (i : Identity) → count_at l i ≤ 1) all c.loop-report.invariant.below.alone)
