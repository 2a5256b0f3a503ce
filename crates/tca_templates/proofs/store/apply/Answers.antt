use Rattle.std.proofs.Common.{arith}
use Rattle.std.proofs.lemmas.Grind.{common_steps}
use Rattle.tca_templates.proofs.store.apply.Goals as goal

pub returns-in_err-withdraw-in-Gone-clause-last : goal.returns-in_err-withdraw-in-Gone-clause-last
returns-in_err-withdraw-in-Gone-clause-last c = grind (arith, common_steps)

pub returns-in_err-template-in-New-clause-exact : goal.returns-in_err-template-in-New-clause-exact
returns-in_err-template-in-New-clause-exact c = grind (arith, common_steps)

pub returns-in_err-template-in-New-clause-last : goal.returns-in_err-template-in-New-clause-last
returns-in_err-template-in-New-clause-last c = grind (arith, common_steps)

pub returns-in_err-define-in-New-clause-exact : goal.returns-in_err-define-in-New-clause-exact
returns-in_err-define-in-New-clause-exact c = grind (arith, common_steps)

pub returns-in_err-define-in-New-clause-last : goal.returns-in_err-define-in-New-clause-last
returns-in_err-define-in-New-clause-last c = grind (arith, common_steps)

pub returns-in_err-define-in-New-clause-before : goal.returns-in_err-define-in-New-clause-before
returns-in_err-define-in-New-clause-before c = grind (arith, common_steps)

pub returns-in_ok-withdraw-in-Gone-clause-exact : goal.returns-in_ok-withdraw-in-Gone-clause-exact
returns-in_ok-withdraw-in-Gone-clause-exact c = grind (arith, common_steps)

pub returns-in_ok-withdraw-in-Gone-clause-last : goal.returns-in_ok-withdraw-in-Gone-clause-last
returns-in_ok-withdraw-in-Gone-clause-last c = grind (arith, common_steps)

pub returns-in_ok-define-in-New-clause-exact : goal.returns-in_ok-define-in-New-clause-exact
returns-in_ok-define-in-New-clause-exact c = grind (arith, common_steps)

pub returns-in_ok-define-in-New-clause-last : goal.returns-in_ok-define-in-New-clause-last
returns-in_ok-define-in-New-clause-last c = grind (arith, common_steps)

pub returns-in_ok-define-in-New-clause-before : goal.returns-in_ok-define-in-New-clause-before
returns-in_ok-define-in-New-clause-before c = grind (arith, common_steps)
