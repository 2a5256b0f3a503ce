use Rattle.tca_log.proofs.Arriving.{set_arrived, same_arrived}
use Rattle.tca_log.proofs.log.same_reports_make_one_log.Goals as goal

pub returns : goal.returns
returns c = record { set = set_arrived; same = same_arrived }
