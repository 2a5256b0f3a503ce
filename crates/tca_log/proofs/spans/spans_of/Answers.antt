use Rattle.std.proofs.Common.{rules, ◌≡◌, List, [], ◌∷◌, ◌++◌, length, append_assoc, sym, ap, subst, ◌∙◌, arith}
use Rattle.std.specs.List.{AllByRecursion}
use Rattle.std.proofs.lemmas.List.{append-nil}
use Rattle.tca_join.proofs.Sets.{all_more}
use Rattle.tca_report.specs.report.Reports.{PacketReport}
use Rattle.tca_report.specs.report.Identities.{identity_of}
use Rattle.tca_log.specs.inside.Spans.{IsAmong}
use Rattle.tca_log.proofs.Marked.{all_and_one}
use Rattle.tca_log.proofs.spans.spans_of.Goals as goal

pub loop-report-init : goal.loop-report-init
loop-report-init g c = record { seen = []; split = search rules; few = omega (arith, ap length c.new-spans.ensures.items); among = tt }

pub loop-report-preserved : goal.loop-report-preserved
loop-report-preserved g c =
    let r = c.in-Some.report.now in
    let seen = c.loop-report.invariant.seen in
    let spans = c.widen.new.spans.items in
    let fits : IsAmong spans (identity_of r) = subst (IsAmong spans) c.identity.ensures (c.in_ok-widen.ensures.new c.if-not-branch.false) in
    record {
      seen = seen ++ r ∷ [];
      split = append_assoc seen (r ∷ []) c.next.new.self ∙ ap (λ (l : List PacketReport). seen ++ l) (sym c.in-Some.ensures.steps) ∙ c.loop-report.invariant.split;
      few = c.widen.ensures.few;
      among = all_and_one (λ q. IsAmong spans (identity_of q)) seen r (all_more (λ (q : PacketReport). IsAmong c.loop-report.spans.items (identity_of q)) (λ (q : PacketReport). IsAmong spans (identity_of q)) (λ q h. c.widen.ensures.old (identity_of q) h) seen c.loop-report.invariant.among) fits;
    }

pub returns-clause-among : goal.returns-clause-among
returns-clause-among g c =
    let seen = c.loop-report.invariant.seen in
    let all : seen ≡ c.args.reports.now.rows = sym (append-nil seen) ∙ ap (λ (l : List PacketReport). seen ++ l) (sym c.in-None.ensures.steps.0) ∙ c.loop-report.invariant.split in
    subst (AllByRecursion (λ (q : PacketReport). IsAmong c.loop-report.spans.items (identity_of q))) all c.loop-report.invariant.among
