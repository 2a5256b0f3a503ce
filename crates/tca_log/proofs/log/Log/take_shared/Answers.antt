use Rattle.std.proofs.Common.{◌≡◌, [], ap, sym, subst, ◌∙◌, arith, rules}
use Rattle.std.proofs.lemmas.List.{nil_from_length}
use Rattle.std.specs.List.Sorted.{IsStrictlySortedBy}
use Rattle.tca_report.specs.report.Reports.{report_cmp}
use Rattle.tca_report.proofs.lemmas.report.Order.{report_total}
use Rattle.tca_log.specs.Rows.Ordered.{AreApart, put_each}
use Rattle.tca_log.proofs.OrderedRows.Each.{apart_none, put_each_none}
use Rattle.tca_log.proofs.log.Log.take_shared.Goals as goal

pub take_in-requires-clause-apart : goal.take_in-requires-clause-apart
take_in-requires-clause-apart g c =
    let none : c.self.inside.rows.rows ≡ [] = nil_from_length c.self.inside.rows.rows (omega (arith, c.len.ensures.length, c.if-len-gt0.false)) in
    subst (AreApart report_cmp c.in_ok-news.news.rows) (sym none) (apart_none report_cmp report_total c.in_ok-news.news.rows)

pub returns-clause-new : goal.returns-clause-new
returns-clause-new g c =
    let news = c.in_ok-news.news.rows in
    let none : c.self.inside.rows.rows ≡ [] = nil_from_length c.self.inside.rows.rows (omega (arith, c.len.ensures.length, c.if-len-gt0.false)) in
    let is : news ≡ c.args.list.now = c.in_ok-news.ensures ∙ c.in_ok-share.ensures in
    let rises : IsStrictlySortedBy report_cmp news = subst (IsStrictlySortedBy report_cmp) (c.as_slice-2.ensures ∙ sym is) (c.rise.ensures.rises c.if-not-rise.false) in
    λ e. c.in_ok-take_in.ensures.ok ∙ ap (put_each report_cmp news) none ∙ put_each_none report_cmp report_total news rises ∙ is

pub returns-then-len-gt0-clause-all : goal.returns-then-len-gt0-clause-all
returns-then-len-gt0-clause-all g c = search rules
