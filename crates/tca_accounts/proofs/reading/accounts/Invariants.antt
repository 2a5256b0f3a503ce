use Rattle.std.proofs.Common.{◌≡◌, ◌++◌, Ok, drop, length}
use Rattle.toml.specs.View.{items_view}
use Rattle.tca_join.specs.Results.{◌>>=◌}
use Rattle.tca_accounts.specs.Documents.{accounts_from}
use Rattle.tca_accounts.proofs.reading.accounts.Given as goal

-- what is left decides, with the accounts so far in front
abbrev pub invariant-loop-value : goal.invariant-loop-value
invariant-loop-value l = record {
  count : length l.list.items ≡ l.value-index;
  decides : accounts_from 0 (items_view l.values) ≡ (accounts_from l.value-index (items_view (drop l.value-index l.values)) >>= λ rest. Ok (l.list.items ++ rest));
}
