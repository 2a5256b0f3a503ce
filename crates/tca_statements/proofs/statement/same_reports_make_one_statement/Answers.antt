use Rattle.std.proofs.Common.{ap}
use Rattle.tca_accounts.specs.Bills.{bill_of}
use Rattle.tca_log.proofs.Arriving.{set_arrived, same_arrived}
use Rattle.tca_statements.specs.Statements.{statement_text}
use Rattle.tca_statements.proofs.statement.same_reports_make_one_statement.Goals as goal

pub returns : goal.returns
returns c = record {
  set = λ plan arrivals. ap (λ rs. statement_text plan (bill_of plan rs)) (set_arrived arrivals);
  same = λ plan a b same. ap (λ rs. statement_text plan (bill_of plan rs)) (same_arrived a b same);
}
