use Rattle.std.proofs.Common.{◌≡◌, ◌∙◌, ◌∷◌, ◌++◌, ◌+◌, [], List, take, drop, true, false, sym, ap, append_assoc, rules}
use Rattle.std.specs.Prelude.{not}
use Rattle.std.specs.Cmp.{tied_itself}
use Rattle.std.specs.Ordering.{is_eq}
use Rattle.std.proofs.lemmas.List.{take_more, take-append-drop}
use Rattle.tca_report.specs.report.Reports.{PacketReport, report_cmp}
use Rattle.tca_report.proofs.lemmas.report.Order.{report_total}
use Rattle.tca_commands.proofs.Walking.{next_same}
use Rattle.tca_commands.proofs.replicated.come_next.Goals as goal

pub loop-report-preserved : goal.loop-report-preserved
loop-report-preserved c =
    let l = c.loop-report in
    let reports = c.args.reports.now in
    let first = take l.report-index reports in
    let same : c.in-Some.held.now ≡ c.report-item.result = search rules in
    let more : take (l.report-index + 1) reports ≡ first ++ c.report-item.result ∷ [] = take_more reports l.report-index c.report-item.result c.loop-report-test.true ∙ ap (λ (r : PacketReport). first ++ r ∷ []) (sym c.report-item.is) in
    l.invariant ∙ ap (λ (rs : List PacketReport). first ++ rs) c.in-Some.ensures.steps
    ∙ ap (λ (r : PacketReport). first ++ r ∷ c.next.new.self) same
    ∙ sym (append_assoc first (c.report-item.result ∷ []) c.next.new.self)
    ∙ ap (λ (rs : List PacketReport). rs ++ c.next.new.self) (sym more)

pub returns-then-ne-clause-others : goal.returns-then-ne-clause-others
returns-then-ne-clause-others c = λ rest whole.
    let l = c.loop-report in
    let reports = c.args.reports.now in
    let first = take l.report-index reports in
    let held = c.in-Some.held.now in
    let item = c.report-item.result in
    let behind = drop (l.report-index + 1) reports in
    let more : take (l.report-index + 1) reports ≡ first ++ item ∷ [] = take_more reports l.report-index item c.loop-report-test.true ∙ ap (λ (r : PacketReport). first ++ r ∷ []) (sym c.report-item.is) in
    let all : reports ++ rest ≡ first ++ item ∷ (behind ++ rest) =
    ap (λ (rs : List PacketReport). rs ++ rest) (sym (take-append-drop (l.report-index + 1) reports) ∙ ap (λ (rs : List PacketReport). rs ++ behind) more ∙ append_assoc first (item ∷ []) behind) ∙ append_assoc first (item ∷ behind) rest in
    let same : held ≡ item =
    next_same first held item c.next.new.self (behind ++ rest) (sym (l.invariant ∙ ap (λ (rs : List PacketReport). first ++ rs) c.in-Some.ensures.steps) ∙ whole ∙ all) in
    let tied : is_eq (report_cmp held item) ≡ true = ap (λ (r : PacketReport). is_eq (report_cmp r item)) same ∙ ap is_eq (tied_itself report_total item) in
    let bad : true ≡ false = sym c.if-ne.true ∙ c.ne.ensures ∙ ap not tied in
    absurd cc
