use Rattle.std.proofs.Common.{◌≡◌, ◌+◌, ◌||◌, drop}
use Rattle.std.specs.List.{list_any}
use Rattle.std.specs.Str.{bytes_eq}
use Rattle.toml.specs.View.{items_view}
use Rattle.tca_accounts.specs.inside.Readings.{of_accounts}
use Rattle.tca_accounts.proofs.together.has_name.Given as goal

-- what is left decides, unless the name was found
abbrev pub invariant-loop-value : goal.invariant-loop-value
invariant-loop-value l = record {
  place : l.account ≡ l.fn.first + l.value-index;
  decides : of_accounts (list_any (λ a. bytes_eq l.name a.name)) l.fn.first (items_view l.values) ≡ of_accounts (λ others. l.found || list_any (λ a. bytes_eq l.name a.name) others) l.account (items_view (drop l.value-index l.values));
}
