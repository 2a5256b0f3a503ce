use Rattle.std.proofs.Common.{arith}
use Rattle.std.proofs.lemmas.Grind.{common_steps}
use Rattle.tca_accounts.proofs.account.copied.Goals as goal

pub returns-in_err-list : goal.returns-in_err-list
returns-in_err-list c = grind (arith, common_steps)

pub returns-in_err-copy : goal.returns-in_err-copy
returns-in_err-copy c = grind (arith, common_steps)

pub returns-in_err-push : goal.returns-in_err-push
returns-in_err-push c = grind (arith, common_steps)

pub loop-account-preserved : goal.loop-account-preserved
loop-account-preserved c = grind (arith, common_steps)

pub returns : goal.returns
returns c = grind (arith, common_steps)
