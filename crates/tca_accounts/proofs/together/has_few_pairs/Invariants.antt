use Rattle.std.proofs.Common.{◌≡◌, ◌+◌, drop, length, nat_le}
use Rattle.toml.specs.View.{items_view}
use Rattle.tca_accounts.specs.Plans.{all_pairs}
use Rattle.tca_accounts.specs.inside.Readings.{are_few, of_accounts}
use Rattle.tca_accounts.proofs.together.has_few_pairs.Given as goal

-- what is left decides, with the pairs so far
abbrev pub invariant-loop-value : goal.invariant-loop-value
invariant-loop-value l = record {
  place : l.account ≡ l.value-index;
  decides : of_accounts are_few 0 (items_view l.values) ≡ of_accounts (λ others. nat_le (l.count + length (all_pairs others)) 4096) l.account (items_view (drop l.value-index l.values));
}
