use Rattle.std.proofs.Common.{◌≡◌, ◌&&◌, drop}
use Rattle.std.specs.Result.{IsOk}
use Rattle.toml.specs.View.{items_view}
use Rattle.tca_accounts.specs.Documents.{accounts_from}
use Rattle.tca_accounts.specs.inside.Readings.{of_accounts, pairs_differ}
use Rattle.tca_accounts.proofs.together.pairs_differ.Given as goal

-- what is left decides, unless a pair stood twice
abbrev pub invariant-loop-value : goal.invariant-loop-value
invariant-loop-value l = record {
  place : l.next ≡ l.value-index;
  all : IsOk (accounts_from l.next (items_view (drop l.value-index l.values)));
  decides : of_accounts pairs_differ 0 (items_view l.values) ≡ of_accounts (λ others. l.differ && pairs_differ others) l.next (items_view (drop l.value-index l.values));
}
