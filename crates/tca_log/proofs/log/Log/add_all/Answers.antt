use Rattle.std.proofs.lemmas.Grind.{common_steps}
use Rattle.std.proofs.lemmas.Result.{err_from_is_err_and}
use Rattle.std.proofs.Common.{◌≡◌, ◌≤◌, ◌+◌, ◌++◌, ℕ, List, subst, length, rules, ap, ◌∙◌, arith}
use Rattle.std.proofs.lemmas.Bool.{false≢true}
use Rattle.tca_join.specs.Sets.{in_order}
use Rattle.tca_join.proofs.Sets.{rises_in_order}
use Rattle.tca_report.specs.report.Reports.{PacketReport, report_cmp}
use Rattle.tca_report.proofs.lemmas.report.Order.{report_total, report_exact}
use Rattle.tca_log.specs.Rows.Ordered.{put_each, without_each}
use Rattle.tca_log.specs.Faults.{IsRefusedBy}
use Rattle.tca_log.proofs.OrderedRows.Each.{putting_nothing, without_none, beyond_apart, beyond_rises}
use Rattle.tca_join.proofs.Merge.{in_order_of_rising}
use Rattle.tca_log.specs.Disputes.{disputed}
use Rattle.tca_log.proofs.Uniting.{union_is, union_length}
use Rattle.tca_log.proofs.Gathering.{union_set}
use Rattle.tca_log.proofs.log.Log.add_all.Goals as goal

pub returns-then-new-eq0-clause-ok : goal.returns-then-new-eq0-clause-ok
returns-then-new-eq0-clause-ok g c =
    let news = c.in_ok-news.ensures.news in
    let none : length (without_each report_cmp c.self.inside.rows.rows (in_order report_cmp c.args.reports.items)) ≡ 0 = omega (arith, ap length news, c.len-new.ensures.length) in
    rw (← c.self.view_is)
    (putting_nothing report_cmp report_total (without_each report_cmp c.self.inside.rows.rows (in_order report_cmp c.args.reports.items)) c.self.inside.rows.rows none
    ∙ union_is report_cmp report_total report_exact c.self.inside.rows.rows (in_order report_cmp c.args.reports.items) c.self.invariant.rises
    ∙ union_set c.self.inside.rows.rows c.args.reports.items)

pub returns-in_err-news-clause-nothing : goal.returns-in_err-news-clause-nothing
returns-in_err-news-clause-nothing g c =
    let size = union_length report_cmp report_total report_exact c.self.inside.rows.rows (in_order report_cmp c.args.reports.items) c.self.invariant.rises (rises_in_order report_cmp report_total c.args.reports.items) in
    let same = union_set c.self.inside.rows.rows c.args.reports.items in
    rw (← c.self.view_is) (λ e. absurd (false≢true (c.in_err-news.ensures.nothing (omega (arith, size, ap length same, ap length e)))))

pub returns-in_err-take_in-clause-nothing : goal.returns-in_err-take_in-clause-nothing
returns-in_err-take_in-clause-nothing g c =
    let size = union_length report_cmp report_total report_exact c.self.inside.rows.rows (in_order report_cmp c.args.reports.items) c.self.invariant.rises (rises_in_order report_cmp report_total c.args.reports.items) in
    let same = union_set c.self.inside.rows.rows c.args.reports.items in
    let news = c.in_ok-news.ensures.news in
    rw (← c.self.view_is) (λ e. absurd (omega (arith, size, ap length same, ap length e, ap length news, c.len-new.ensures.length)))

pub returns-in_err-news-clause-fault : goal.returns-in_err-news-clause-fault
returns-in_err-news-clause-fault g c =
    let size = union_length report_cmp report_total report_exact c.self.inside.rows.rows (in_order report_cmp c.args.reports.items) c.self.invariant.rises (rises_in_order report_cmp report_total c.args.reports.items) in
    let same = union_set c.self.inside.rows.rows c.args.reports.items in
    let all : length c.self.inside.rows.rows + length (without_each report_cmp c.self.inside.rows.rows (in_order report_cmp c.args.reports.items)) ≡ length (in_order report_cmp (c.args.self.now ++ c.args.reports.items)) =
    rw (← c.self.view_is) (omega (arith, size, ap length same)) in
    let p = err_from_is_err_and c.from_residual.result c.from_residual.ensures.1 in
    rw (p.1, p.2) (subst (λ (n : ℕ). IsRefusedBy c.in_err-news.field-0.0 n) all c.in_err-news.ensures.fault)

pub news_in-requires : goal.news_in-requires
news_in-requires g c = λ e. rw c.deref.ensures.value at c.are_alone-alone.ensures.rises e

pub take_in-requires-clause-alone : goal.take_in-requires-clause-alone
take_in-requires-clause-alone g c = λ e.
    let reports = c.args.reports.items in
    let none = c.are_alone-alone.ensures.none e in
    let rises = rw c.deref.ensures.value at c.are_alone-alone.ensures.rises e in
    let alone = rw c.deref.ensures.value at c.are_alone-alone.ensures.alone e in
    let all = c.in_ok-news.ensures.news
    ∙ ap (λ (l : List PacketReport). without_each report_cmp l (in_order report_cmp reports)) none
    ∙ without_none report_cmp report_total (in_order report_cmp reports)
    ∙ in_order_of_rising report_cmp report_total report_exact reports rises in
    ap disputed all ∙ alone

pub take_in-requires-clause-apart : goal.take_in-requires-clause-apart
take_in-requires-clause-apart g c = rw c.in_ok-news.ensures.news (beyond_apart report_cmp report_total c.self.inside.rows.rows (in_order report_cmp c.args.reports.items))

pub take_in-requires-clause-rises : goal.take_in-requires-clause-rises
take_in-requires-clause-rises g c = rw c.in_ok-news.ensures.news (beyond_rises report_cmp report_total c.self.inside.rows.rows (in_order report_cmp c.args.reports.items) (rises_in_order report_cmp report_total c.args.reports.items))

pub returns-in_err-take_in-clause-fault : goal.returns-in_err-take_in-clause-fault
returns-in_err-take_in-clause-fault g c =
    let size = union_length report_cmp report_total report_exact c.self.inside.rows.rows (in_order report_cmp c.args.reports.items) c.self.invariant.rises (rises_in_order report_cmp report_total c.args.reports.items) in
    let same = union_set c.self.inside.rows.rows c.args.reports.items in
    let few : length (in_order report_cmp (c.args.self.now ++ c.args.reports.items)) ≤ 4194304 = rw (← c.self.view_is) (omega (arith, size, ap length same, c.in_ok-news.ensures.few)) in
    search rules

pub returns-clause-ok : goal.returns-clause-ok
returns-clause-ok g c =
    rw (← c.self.view_is)
    (c.in_ok-take_in.ensures.ok
    ∙ ap (λ (l : List PacketReport). put_each report_cmp l c.self.inside.rows.rows) c.in_ok-news.ensures.news
    ∙ union_is report_cmp report_total report_exact c.self.inside.rows.rows (in_order report_cmp c.args.reports.items) c.self.invariant.rises
    ∙ union_set c.self.inside.rows.rows c.args.reports.items)

pub returns-clause-count : goal.returns-clause-count
returns-clause-count g c =
    let size = union_length report_cmp report_total report_exact c.self.inside.rows.rows (in_order report_cmp c.args.reports.items) c.self.invariant.rises (rises_in_order report_cmp report_total c.args.reports.items) in
    let news = c.in_ok-news.ensures.news in
    let all = c.in_ok-take_in.ensures.ok ∙ ap (λ (l : List PacketReport). put_each report_cmp l c.self.inside.rows.rows) news ∙ union_is report_cmp report_total report_exact c.self.inside.rows.rows (in_order report_cmp c.args.reports.items) c.self.invariant.rises in
    omega (arith, size, ap length all, ap length news, c.len-new.ensures.length, ap length c.self.view_is)

pub same-self : goal.same-self
same-self g c = grind (arith, common_steps)

pub returns-in_err-news-clause-ok : goal.returns-in_err-news-clause-ok
returns-in_err-news-clause-ok g c = grind (arith, common_steps)

pub returns-in_err-news-clause-count : goal.returns-in_err-news-clause-count
returns-in_err-news-clause-count g c = grind (arith, common_steps)

pub returns-in_err-news-clause-err : goal.returns-in_err-news-clause-err
returns-in_err-news-clause-err g c = grind (arith, common_steps)

pub same-self-then-new-eq0 : goal.same-self-then-new-eq0
same-self-then-new-eq0 g c = grind (arith, common_steps)

pub returns-then-new-eq0-clause-count : goal.returns-then-new-eq0-clause-count
returns-then-new-eq0-clause-count g c = grind (arith, common_steps)

pub returns-then-new-eq0-clause-nothing : goal.returns-then-new-eq0-clause-nothing
returns-then-new-eq0-clause-nothing g c = grind (arith, common_steps)

pub same-news : goal.same-news
same-news g c = grind (arith, common_steps)

pub take_in-requires-clause-log : goal.take_in-requires-clause-log
take_in-requires-clause-log g c = grind (arith, common_steps)

pub take_in-requires-clause-few : goal.take_in-requires-clause-few
take_in-requires-clause-few g c = grind (arith, common_steps)

pub invariant_of-self : goal.invariant_of-self
invariant_of-self g c = grind (arith, common_steps)

pub returns-in_err-take_in-clause-ok : goal.returns-in_err-take_in-clause-ok
returns-in_err-take_in-clause-ok g c = grind (arith, common_steps)

pub returns-in_err-take_in-clause-count : goal.returns-in_err-take_in-clause-count
returns-in_err-take_in-clause-count g c = grind (arith, common_steps)

pub returns-in_err-take_in-clause-err : goal.returns-in_err-take_in-clause-err
returns-in_err-take_in-clause-err g c = grind (arith, common_steps)

pub overflow_cast-result : goal.overflow_cast-result
overflow_cast-result g c = grind (arith, common_steps)

pub invariant_of-self-2 : goal.invariant_of-self-2
invariant_of-self-2 g c = grind (arith, common_steps)

pub returns-clause-nothing : goal.returns-clause-nothing
returns-clause-nothing g c = grind (arith, common_steps)
