use Rattle.std.proofs.Common.{◌≡◌, ◌&&◌, drop}
use Rattle.toml.specs.View.{items_view}
use Rattle.tca_join.specs.Results.{◌>>=◌}
use Rattle.tca_accounts.specs.Documents.{pairs_of}
use Rattle.tca_accounts.specs.inside.Readings.{differ_before, differ_from, of_accounts}
use Rattle.tca_accounts.proofs.together.differ_from.Given as goal

-- what is left decides, unless a pair stood twice
abbrev pub invariant-loop-value : goal.invariant-loop-value
invariant-loop-value l = record {
  place : l.next ≡ l.value-index;
  decides : differ_from l.first (items_view l.values) (items_view l.pairs) ≡ (pairs_of (items_view (drop l.value-index l.pairs)) >>= λ pairs. of_accounts (λ others. l.differ && differ_before others pairs) l.first (items_view l.values));
}
