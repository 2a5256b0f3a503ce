use Rattle.std.proofs.Common.{ap, sym, ◌∙◌, arith}
use Rattle.std.proofs.lemmas.List.{nil_from_length}
use Rattle.tca_report.specs.report.Reports.{report_cmp}
use Rattle.tca_report.proofs.lemmas.report.Order.{report_total}
use Rattle.tca_log.specs.Rows.Ordered.{put_each}
use Rattle.tca_log.proofs.OrderedRows.Each.{put_each_none}
use Rattle.tca_log.proofs.Repeats.{kept_alone}
use Rattle.tca_log.proofs.union.take_in.Goals as goal

pub returns-then-len-eq0-clause-ok : goal.returns-then-len-eq0-clause-ok
returns-then-len-eq0-clause-ok g c =
    let none = nil_from_length c.args.rows.now.rows (omega (arith, c.len.ensures.length, c.if-len-eq0.true)) in
    sym (ap (put_each report_cmp c.args.news.rows) none ∙ put_each_none report_cmp report_total c.args.news.rows c.requires.rises)

pub returns-then-len-eq0-clause-log : goal.returns-then-len-eq0-clause-log
returns-then-len-eq0-clause-log g c = kept_alone c.args.news.rows c.in_ok-disputed.field-0.rows c.requires.rises (omega (arith, c.requires.few)) c.in_ok-disputed.ensures

pub take_with_index-outcome-requires-clause-log : goal.take_with_index-outcome-requires-clause-log
take_with_index-outcome-requires-clause-log g c = c.in_ok-kept.ensures c.args.disputed.now.rows (rw c.take.ensures.value c.requires.log)
