use Rattle.std.proofs.Common.{◌≡◌, ◌≤◌, ◌++◌, length, rules, ap, ◌∙◌, arith}
use Rattle.tca_join.specs.Sets.{in_order}
use Rattle.tca_report.specs.report.Reports.{report_cmp}
use Rattle.tca_report.proofs.lemmas.report.Order.{report_total, report_exact}
use Rattle.tca_log.specs.Rows.Ordered.{without_each, put_each}
use Rattle.tca_log.proofs.OrderedRows.Each.{putting_nothing, beyond_apart, beyond_rises}
use Rattle.tca_log.proofs.Uniting.{union_is, union_length}
use Rattle.tca_log.proofs.log.Log.union.Goals as goal

pub returns-then-new-eq0-clause-ok : goal.returns-then-new-eq0-clause-ok
returns-then-new-eq0-clause-ok g c =
    rw (← c.self.view_is, ← c.other.view_is) (putting_nothing report_cmp report_total (without_each report_cmp c.self.inside.rows.rows c.other.inside.rows.rows) c.self.inside.rows.rows (omega arith) ∙ union_is report_cmp report_total report_exact c.self.inside.rows.rows c.other.inside.rows.rows c.self.invariant.rises)

pub returns-then-new-len-clause-fault : goal.returns-then-new-len-clause-fault
returns-then-new-len-clause-fault g c =
    let size = union_length report_cmp report_total report_exact c.self.inside.rows.rows c.other.inside.rows.rows c.self.invariant.rises c.other.invariant.rises in
    rw (← c.self.view_is, ← c.other.view_is) (omega (arith, size))

pub returns-then-new-len-clause-nothing : goal.returns-then-new-len-clause-nothing
returns-then-new-len-clause-nothing g c =
    let size = union_length report_cmp report_total report_exact c.self.inside.rows.rows c.other.inside.rows.rows c.self.invariant.rises c.other.invariant.rises in
    rw (← c.self.view_is, ← c.other.view_is) (λ e. absurd (omega (arith, size, ap length e)))

pub returns-in_err-news-clause-fault : goal.returns-in_err-news-clause-fault
returns-in_err-news-clause-fault g c =
    let size = union_length report_cmp report_total report_exact c.self.inside.rows.rows c.other.inside.rows.rows c.self.invariant.rises c.other.invariant.rises in
    let few : length (in_order report_cmp (c.args.self.now ++ c.args.other.now)) ≤ 4194304 = rw (← c.self.view_is, ← c.other.view_is) (omega (arith, size)) in
    search rules

pub returns-in_err-news-clause-nothing : goal.returns-in_err-news-clause-nothing
returns-in_err-news-clause-nothing g c =
    let size = union_length report_cmp report_total report_exact c.self.inside.rows.rows c.other.inside.rows.rows c.self.invariant.rises c.other.invariant.rises in
    rw (← c.self.view_is, ← c.other.view_is) (λ e. absurd (omega (arith, size, ap length e)))

pub take_in-requires-clause-apart : goal.take_in-requires-clause-apart
take_in-requires-clause-apart g c = rw c.in_ok-news.ensures (beyond_apart report_cmp report_total c.self.inside.rows.rows c.other.inside.rows.rows)

pub take_in-requires-clause-rises : goal.take_in-requires-clause-rises
take_in-requires-clause-rises g c = rw c.in_ok-news.ensures (beyond_rises report_cmp report_total c.self.inside.rows.rows c.other.inside.rows.rows c.other.invariant.rises)

pub returns-in_err-take_in-clause-fault : goal.returns-in_err-take_in-clause-fault
returns-in_err-take_in-clause-fault g c =
    let size = union_length report_cmp report_total report_exact c.self.inside.rows.rows c.other.inside.rows.rows c.self.invariant.rises c.other.invariant.rises in
    let few : length (in_order report_cmp (c.args.self.now ++ c.args.other.now)) ≤ 4194304 = rw (← c.self.view_is, ← c.other.view_is) (omega (arith, size)) in
    search rules

pub returns-in_err-take_in-clause-nothing : goal.returns-in_err-take_in-clause-nothing
returns-in_err-take_in-clause-nothing g c =
    let size = union_length report_cmp report_total report_exact c.self.inside.rows.rows c.other.inside.rows.rows c.self.invariant.rises c.other.invariant.rises in
    rw (← c.self.view_is, ← c.other.view_is) (λ e. absurd (omega (arith, size, ap length e)))

pub returns-clause-ok : goal.returns-clause-ok
returns-clause-ok g c = rw (← c.self.view_is, ← c.other.view_is) (c.in_ok-take_in.ensures.ok ∙ ap (λ l. put_each report_cmp l c.self.inside.rows.rows) c.in_ok-news.ensures ∙ union_is report_cmp report_total report_exact c.self.inside.rows.rows c.other.inside.rows.rows c.self.invariant.rises)

pub returns-clause-count : goal.returns-clause-count
returns-clause-count g c =
    let size = union_length report_cmp report_total report_exact c.self.inside.rows.rows c.other.inside.rows.rows c.self.invariant.rises c.other.invariant.rises in
    let all : c.take_in.new.rows.rows ≡ in_order report_cmp (c.self.inside.rows.rows ++ c.other.inside.rows.rows) = c.in_ok-take_in.ensures.ok ∙ ap (λ l. put_each report_cmp l c.self.inside.rows.rows) c.in_ok-news.ensures ∙ union_is report_cmp report_total report_exact c.self.inside.rows.rows c.other.inside.rows.rows c.self.invariant.rises in
    omega (arith, size, ap length all, ap length c.self.view_is, c.count_beyond-new.ensures)
