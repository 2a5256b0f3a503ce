use Rattle.std.proofs.Common.{rules}
use Rattle.tca_gossip.proofs.replica.Replica.merge.Goals as goal

pub returns-clause-ok : goal.returns-clause-ok
returns-clause-ok c = search rules

pub returns-clause-compatible : goal.returns-clause-compatible
returns-clause-compatible c = search rules

pub returns-clause-within : goal.returns-clause-within
returns-clause-within c = search rules

pub returns-clause-err : goal.returns-clause-err
returns-clause-err c = search rules

pub returns-clause-fault : goal.returns-clause-fault
returns-clause-fault c = search rules
