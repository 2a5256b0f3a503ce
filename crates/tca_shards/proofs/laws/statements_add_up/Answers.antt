use Rattle.tca_shards.proofs.Stating.{bills_are_read, says}
use Rattle.tca_shards.proofs.Summing.{statements_add_up, windows_statements_add_up}
use Rattle.tca_shards.proofs.laws.statements_add_up.Goals as goal

pub returns : goal.returns
returns c = record { read = bills_are_read; sum = statements_add_up; windows = windows_statements_add_up; octets = says }
