use Rattle.std.proofs.Common.{refl}
use Rattle.tca_report.proofs.lemmas.report.Order.{report_total, report_exact}
use Rattle.tca_report.proofs.report.order_is_total.Goals as goal

pub returns-clause-reports : goal.returns-clause-reports
returns-clause-reports c = λ a b. refl

pub returns-clause-identities : goal.returns-clause-identities
returns-clause-identities c = λ a b. refl

pub returns-clause-total : goal.returns-clause-total
returns-clause-total c = report_total

pub returns-clause-exact : goal.returns-clause-exact
returns-clause-exact c = report_exact
