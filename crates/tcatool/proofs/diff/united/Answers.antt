use Rattle.std.proofs.Common.{◌≡◌, ◌∙◌, ◌++◌, ap, rules}
use Rattle.tca_join.specs.Sets.{in_order}
use Rattle.tca_report.specs.report.Reports.{report_cmp}
use Rattle.tcatool.proofs.diff.united.Goals as goal

pub returns : goal.returns
returns c =
    let all : c.push_all-2.new.all.items ≡ c.args.a.now ++ c.args.b.now = search rules in
    c.set_of.ensures ∙ ap (in_order report_cmp) all
