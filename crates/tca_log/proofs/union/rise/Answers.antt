use Rattle.std.proofs.Common.{rules}
use Rattle.tca_log.proofs.union.rise.Goals as goal

pub returns-else-ascends-clause-rises : goal.returns-else-ascends-clause-rises
returns-else-ascends-clause-rises c = search rules

pub returns-else-ascends-clause-all : goal.returns-else-ascends-clause-all
returns-else-ascends-clause-all c = search rules
