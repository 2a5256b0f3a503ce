use Rattle.std.proofs.Common.{arith}
use Rattle.std.proofs.lemmas.Grind.{common_steps}
use Rattle.tca_accounts.proofs.draft.read_account.Goals as goal

pub returns-in_default-clause-exact : goal.returns-in_default-clause-exact
returns-in_default-clause-exact c = grind (arith, common_steps)

pub returns-in_default-clause-ok : goal.returns-in_default-clause-ok
returns-in_default-clause-ok c = grind (arith, common_steps)

pub returns-in_err-kind-clause-exact : goal.returns-in_err-kind-clause-exact
returns-in_err-kind-clause-exact c = grind (arith, common_steps)

pub returns-in_err-kind-clause-ok : goal.returns-in_err-kind-clause-ok
returns-in_err-kind-clause-ok c = grind (arith, common_steps)

pub returns-then-not-has_only-clause-exact : goal.returns-then-not-has_only-clause-exact
returns-then-not-has_only-clause-exact c = grind (arith, common_steps)

pub returns-then-not-has_only-clause-ok : goal.returns-then-not-has_only-clause-ok
returns-then-not-has_only-clause-ok c = grind (arith, common_steps)

pub returns-in_err-name-clause-exact : goal.returns-in_err-name-clause-exact
returns-in_err-name-clause-exact c = grind (arith, common_steps)

pub returns-in_err-name-clause-ok : goal.returns-in_err-name-clause-ok
returns-in_err-name-clause-ok c = grind (arith, common_steps)

pub returns-in_err-aware-clause-exact : goal.returns-in_err-aware-clause-exact
returns-in_err-aware-clause-exact c = grind (arith, common_steps)

pub returns-in_err-aware-clause-ok : goal.returns-in_err-aware-clause-ok
returns-in_err-aware-clause-ok c = grind (arith, common_steps)

pub returns-in_err-other-clause-exact : goal.returns-in_err-other-clause-exact
returns-in_err-other-clause-exact c = grind (arith, common_steps)

pub returns-in_err-other-clause-ok : goal.returns-in_err-other-clause-ok
returns-in_err-other-clause-ok c = grind (arith, common_steps)

pub returns-in_err-told-clause-exact : goal.returns-in_err-told-clause-exact
returns-in_err-told-clause-exact c = grind (arith, common_steps)

pub returns-in_err-told-clause-ok : goal.returns-in_err-told-clause-ok
returns-in_err-told-clause-ok c = grind (arith, common_steps)

pub returns-in_err-pairs-clause-exact : goal.returns-in_err-pairs-clause-exact
returns-in_err-pairs-clause-exact c = grind (arith, common_steps)

pub returns-in_err-pairs-clause-ok : goal.returns-in_err-pairs-clause-ok
returns-in_err-pairs-clause-ok c = grind (arith, common_steps)

pub returns-in_err-terms-clause-exact : goal.returns-in_err-terms-clause-exact
returns-in_err-terms-clause-exact c = grind (arith, common_steps)

pub returns-in_err-terms-clause-ok : goal.returns-in_err-terms-clause-ok
returns-in_err-terms-clause-ok c = grind (arith, common_steps)

pub returns-in_err-meter-clause-exact : goal.returns-in_err-meter-clause-exact
returns-in_err-meter-clause-exact c = grind (arith, common_steps)

pub returns-in_err-meter-clause-ok : goal.returns-in_err-meter-clause-ok
returns-in_err-meter-clause-ok c = grind (arith, common_steps)

pub returns-clause-exact : goal.returns-clause-exact
returns-clause-exact c = grind (arith, common_steps)

pub returns-clause-ok : goal.returns-clause-ok
returns-clause-ok c = grind (arith, common_steps)
