use Rattle.std.proofs.Common.{rules}
use Rattle.tca_statements.specs.Issues.{issued_for}
use Rattle.tca_statements.proofs.issuer.Issuer.issued.Goals as goal

pub returns-in-Some : goal.returns-in-Some
unfolding issued_for
returns-in-Some c = search rules

pub returns-in-None : goal.returns-in-None
unfolding issued_for
returns-in-None c = search rules
