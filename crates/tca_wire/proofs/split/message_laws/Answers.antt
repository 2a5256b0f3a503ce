use Rattle.tca_wire.proofs.Tiles.{message_found, message_only}
use Rattle.tca_wire.proofs.FirstFaults.{fault_found, fault_only}
use Rattle.tca_wire.proofs.split.message_laws.Goals as goal

pub returns-clause-found : goal.returns-clause-found
returns-clause-found c = message_found

pub returns-clause-only : goal.returns-clause-only
returns-clause-only c = message_only

pub returns-clause-fault : goal.returns-clause-fault
returns-clause-fault c = fault_found

pub returns-clause-no_other : goal.returns-clause-no_other
returns-clause-no_other c = fault_only
