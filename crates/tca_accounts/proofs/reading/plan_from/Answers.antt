use Rattle.toml.specs.View.{items_view}
use Rattle.tca_accounts.proofs.Proper.{all_named, all_owning}
use Rattle.tca_accounts.proofs.reading.plan_from.Goals as goal

pub new-requires-clause-named : goal.new-requires-clause-named
new-requires-clause-named c = all_named 0 (items_view c.args.values.now) c.in_ok-accounts.accounts.items c.in_ok-accounts.ensures.exact

pub new-requires-clause-owning : goal.new-requires-clause-owning
new-requires-clause-owning c = all_owning 0 (items_view c.args.values.now) c.in_ok-accounts.accounts.items c.in_ok-accounts.ensures.exact
