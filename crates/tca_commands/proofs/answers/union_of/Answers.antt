use Rattle.std.proofs.Common.{◌∙◌, ap}
use Rattle.tca_join.specs.Sets.{in_order}
use Rattle.tca_report.specs.report.Reports.{report_cmp}
use Rattle.tca_commands.proofs.answers.union_of.Goals as goal

pub returns : goal.returns
returns c = c.set_of.ensures ∙ ap (in_order report_cmp) c.in_ok-all.ensures
