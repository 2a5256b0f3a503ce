use Rattle.std.proofs.Common.{rules}
use Rattle.tca_statements.proofs.issuer.Issuer.new.Goals as goal

pub returns-clause-made : goal.returns-clause-made
returns-clause-made c = search rules
