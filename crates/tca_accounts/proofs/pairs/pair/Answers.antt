use Rattle.std.proofs.lemmas.Grind.{common_steps}
use Rattle.std.proofs.Common.{arith}
use Rattle.toml.specs.View.{view}
use Rattle.tca_accounts.proofs.PairsOfValues.{not_two}
use Rattle.tca_accounts.proofs.pairs.pair.Goals as goal

pub returns-then-values-ne2 : goal.returns-then-values-ne2
returns-then-values-ne2 c = not_two (view c.args.value.now) c.in_ok-values.values.now c.in_ok-values.ensures c.if-values-ne2.true

pub returns-in_err-values : goal.returns-in_err-values
returns-in_err-values c = grind (arith, common_steps)

pub returns-in_err-domain : goal.returns-in_err-domain
returns-in_err-domain c = grind (arith, common_steps)

pub returns-in_err-iface : goal.returns-in_err-iface
returns-in_err-iface c = grind (arith, common_steps)

pub returns : goal.returns
returns c = grind (arith, common_steps)
