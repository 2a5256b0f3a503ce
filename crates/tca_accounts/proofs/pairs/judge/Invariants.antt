use Rattle.std.proofs.Common.{◌≡◌, drop}
use Rattle.toml.specs.View.{items_view}
use Rattle.tca_accounts.specs.inside.Readings.{each_is_pair}
use Rattle.tca_accounts.proofs.pairs.judge.Given as goal

-- what is left decides
abbrev pub invariant-loop-value : goal.invariant-loop-value
invariant-loop-value l = each_is_pair (items_view l.values) ≡ each_is_pair (items_view (drop l.value-index l.values))
