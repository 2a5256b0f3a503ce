use Rattle.std.proofs.Common.{◌≡◌, ◌+◌, ◌||◌, drop}
use Rattle.std.specs.List.{list_any}
use Rattle.toml.specs.View.{items_view}
use Rattle.tca_accounts.specs.Plans.{owns}
use Rattle.tca_accounts.specs.inside.Readings.{of_accounts}
use Rattle.tca_accounts.proofs.together.is_owned.Given as goal

-- what is left decides, unless the pair was found
abbrev pub invariant-loop-value : goal.invariant-loop-value
invariant-loop-value l = record {
  place : l.account ≡ l.fn.first + l.value-index;
  decides : of_accounts (list_any (λ a. owns a l.sought)) l.fn.first (items_view l.values) ≡ of_accounts (λ others. l.found || list_any (λ a. owns a l.sought) others) l.account (items_view (drop l.value-index l.values));
}
