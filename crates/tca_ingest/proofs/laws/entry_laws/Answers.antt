use Rattle.tca_ingest.proofs.Histories.{history_new, push_took, push_absorbed, push_answered, push_asked, push_sent}
use Rattle.tca_ingest.proofs.laws.entry_laws.Goals as goal

pub returns : goal.returns
returns c = record { new = history_new; took = push_took; absorbed = push_absorbed; answered = push_answered; asked = push_asked; sent = push_sent }
