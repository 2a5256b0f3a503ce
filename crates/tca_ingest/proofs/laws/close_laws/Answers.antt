use Rattle.tca_ingest.proofs.Interleavings.{closing_interleaves}
use Rattle.tca_ingest.proofs.Statements.{answer_has, delta_has, summary_has}
use Rattle.tca_ingest.proofs.Refusals.{closing_owned, missing_refuses, differing_refuses}
use Rattle.tca_ingest.proofs.Finding.{found_closing}
use Rattle.tca_ingest.proofs.laws.close_laws.Goals as goal

pub returns : goal.returns
returns c = record { interleaves = closing_interleaves; answers = answer_has; asked = summary_has; sent = delta_has; owned = closing_owned; found = found_closing; missing = missing_refuses; differing = differing_refuses }
