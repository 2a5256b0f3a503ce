use Rattle.tca_ingest.proofs.Worlds.{closed_world, closed_shows, closed_arrivals, equal_closed, equal_bills}
use Rattle.tca_ingest.proofs.States.{closed_state}
use Rattle.tca_ingest.proofs.Clashes.{clash_is, agree_is}
use Rattle.tca_ingest.proofs.laws.closed_laws.Goals as goal

pub returns : goal.returns
returns c = record { world = closed_world; shows = closed_shows; state = closed_state; arrivals = closed_arrivals; logs = equal_closed; bills = equal_bills; clash = clash_is; test = agree_is }
