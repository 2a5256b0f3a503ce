use Rattle.std.proofs.Common.{rules}
use Rattle.tca_report.proofs.report.Report.new.Goals as goal

pub returns-then-content-le-MOST_DSCP : goal.returns-then-content-le-MOST_DSCP
returns-then-content-le-MOST_DSCP c = search rules

pub invariant_of-result : goal.invariant_of-result
invariant_of-result c = search rules
