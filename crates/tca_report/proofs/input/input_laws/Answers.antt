use Rattle.tca_report.proofs.lemmas.input.CaptureLaws.{input_found, input_only}
use Rattle.tca_report.proofs.lemmas.input.CaptureFaults.{input_fault, input_no_other}
use Rattle.tca_report.proofs.input.input_laws.Goals as goal

pub returns-clause-found : goal.returns-clause-found
returns-clause-found c = input_found

pub returns-clause-only : goal.returns-clause-only
returns-clause-only c = input_only

pub returns-clause-fault : goal.returns-clause-fault
returns-clause-fault c = input_fault

pub returns-clause-no_other : goal.returns-clause-no_other
returns-clause-no_other c = input_no_other
