use Rattle.std.proofs.Common.{rules}
use Rattle.tca_join.proofs.chain.Chain.extend.Goals as goal

pub returns-clause-ok : goal.returns-clause-ok
returns-clause-ok g c = search rules
