use Rattle.tca_templates.proofs.SessionLaws.{reading_found, reading_only}
use Rattle.tca_templates.proofs.FirstFaults.{reading_fault, reading_no_other}
use Rattle.tca_templates.proofs.reading.reading_laws.Goals as goal

pub returns-clause-found : goal.returns-clause-found
returns-clause-found c = reading_found

pub returns-clause-only : goal.returns-clause-only
returns-clause-only c = reading_only

pub returns-clause-fault : goal.returns-clause-fault
returns-clause-fault c = reading_fault

pub returns-clause-no_other : goal.returns-clause-no_other
returns-clause-no_other c = reading_no_other
