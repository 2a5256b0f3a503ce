use Rattle.tca_ingest.proofs.Histories.{history_replica, history_name, history_plan, history_log, history_own, history_part, history_bill, history_asked, history_sent}
use Rattle.tca_ingest.proofs.laws.history_laws.Goals as goal

pub returns : goal.returns
returns c = record { replica = history_replica; name = history_name; plan = history_plan; log = history_log; own = history_own; parts = history_part; bill = history_bill; asked = history_asked; sent = history_sent }
