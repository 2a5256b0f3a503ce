use Rattle.std.proofs.Common.{◌≡◌, ◌++◌, Ok, drop}
use Rattle.toml.specs.View.{items_view}
use Rattle.tca_join.specs.Results.{◌>>=◌}
use Rattle.tca_accounts.specs.Documents.{pairs_of}
use Rattle.tca_accounts.proofs.pairs.pairs.Given as goal

-- what is left decides, with the pairs so far in front
abbrev pub invariant-loop-value : goal.invariant-loop-value
invariant-loop-value l =
    pairs_of (items_view l.values) ≡ (pairs_of (items_view (drop l.value-index l.values)) >>= λ rest. Ok (l.list.items ++ rest))
