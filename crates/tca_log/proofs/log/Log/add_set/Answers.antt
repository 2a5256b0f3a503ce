use Rattle.std.proofs.Common.{◌≡◌, ◌++◌, ◌∙◌, List, length, ap, sym, arith, rules}
use Rattle.std.proofs.lemmas.Grind.{common_steps}
use Rattle.tca_join.specs.Sets.{in_order}
use Rattle.tca_report.specs.report.Reports.{PacketReport, report_cmp}
use Rattle.tca_report.proofs.lemmas.report.Order.{report_total, report_exact}
use Rattle.tca_log.specs.Disputes.{disputed}
use Rattle.tca_log.specs.Rows.Ordered.{put_each, without_each}
use Rattle.tca_log.proofs.OrderedRows.Each.{putting_nothing, without_none, beyond_apart}
use Rattle.tca_log.proofs.Uniting.{union_is, union_length}
use Rattle.tca_log.proofs.log.Log.add_set.Goals as goal

pub returns-then-new-eq0-clause-ok : goal.returns-then-new-eq0-clause-ok
returns-then-new-eq0-clause-ok g c =
    let rows = c.self.inside.rows.rows in
    let set = c.args.set in
    let count = c.count_new-new.ensures ∙ ap (λ (l : List PacketReport). length (without_each report_cmp rows l)) c.as_slice.ensures in
    rw (← c.self.view_is) (putting_nothing report_cmp report_total (without_each report_cmp rows set) rows (omega (arith, count, c.if-new-eq0.true)) ∙ union_is report_cmp report_total report_exact rows set c.self.invariant.rises)

pub returns-then-new-len-clause-full : goal.returns-then-new-len-clause-full
returns-then-new-len-clause-full g c =
    let rows = c.self.inside.rows.rows in
    let set = c.args.set in
    let count = c.count_new-new.ensures ∙ ap (λ (l : List PacketReport). length (without_each report_cmp rows l)) c.as_slice.ensures in
    let size = union_length report_cmp report_total report_exact rows set c.self.invariant.rises c.requires in
    rw (← c.self.view_is) (λ e. omega (arith, size, count, c.if-new-len.true, c.len.ensures.length))

pub take_in-requires-clause-apart : goal.take_in-requires-clause-apart
take_in-requires-clause-apart g c = rw c.in_ok-news.ensures (beyond_apart report_cmp report_total c.self.inside.rows.rows c.args.set)

pub take_in-requires-clause-alone : goal.take_in-requires-clause-alone
take_in-requires-clause-alone g c = λ e.
    let set = c.args.set in
    let all = c.in_ok-news.ensures ∙ ap (λ (l : List PacketReport). without_each report_cmp l set) (c.are_alone-alone.ensures.none e) ∙ without_none report_cmp report_total set in
    ap disputed all ∙ sym (ap disputed c.as_slice-2.ensures) ∙ c.are_alone-alone.ensures.alone e

pub returns-clause-ok : goal.returns-clause-ok
returns-clause-ok g c =
    let rows = c.self.inside.rows.rows in
    rw (← c.self.view_is) (c.in_ok-take_in.ensures.ok ∙ ap (λ (l : List PacketReport). put_each report_cmp l rows) c.in_ok-news.ensures ∙ union_is report_cmp report_total report_exact rows c.args.set c.self.invariant.rises)

pub returns-clause-count : goal.returns-clause-count
returns-clause-count g c =
    let rows = c.self.inside.rows.rows in
    let set = c.args.set in
    let count = c.count_new-new.ensures ∙ ap (λ (l : List PacketReport). length (without_each report_cmp rows l)) c.as_slice.ensures in
    let size = union_length report_cmp report_total report_exact rows set c.self.invariant.rises c.requires in
    let all : c.take_in.new.rows.rows ≡ in_order report_cmp (rows ++ set) = c.in_ok-take_in.ensures.ok ∙ ap (λ (l : List PacketReport). put_each report_cmp l rows) c.in_ok-news.ensures ∙ union_is report_cmp report_total report_exact rows set c.self.invariant.rises in
    omega (arith, size, ap length all, ap length c.self.view_is, count)

pub returns-in_err-news-clause-memory : goal.returns-in_err-news-clause-memory
returns-in_err-news-clause-memory g c =
    let rows = c.self.inside.rows.rows in
    let set = c.args.set in
    let count = c.count_new-new.ensures ∙ ap (λ (l : List PacketReport). length (without_each report_cmp rows l)) c.as_slice.ensures in
    let size = union_length report_cmp report_total report_exact rows set c.self.invariant.rises c.requires in
    rw (← c.self.view_is) (grind (arith, size, count, c.if-new-len.false, c.len.ensures.length, common_steps))

pub returns-in_err-take_in-clause-memory : goal.returns-in_err-take_in-clause-memory
returns-in_err-take_in-clause-memory g c =
    let rows = c.self.inside.rows.rows in
    let set = c.args.set in
    let count = c.count_new-new.ensures ∙ ap (λ (l : List PacketReport). length (without_each report_cmp rows l)) c.as_slice.ensures in
    let size = union_length report_cmp report_total report_exact rows set c.self.invariant.rises c.requires in
    rw (← c.self.view_is) (grind (arith, size, count, c.if-new-len.false, c.len.ensures.length, common_steps))

pub returns-then-new-len-clause-memory : goal.returns-then-new-len-clause-memory
returns-then-new-len-clause-memory g c = search rules
