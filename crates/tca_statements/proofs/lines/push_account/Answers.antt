use Rattle.std.proofs.Common.{arith}
use Rattle.std.proofs.lemmas.Grind.{common_steps}
use Rattle.tca_statements.specs.Statements.{account_lines}
use Rattle.tca_statements.proofs.lines.push_account.Goals as goal

pub returns : goal.returns
unfolding account_lines
returns c = grind (arith, common_steps)
