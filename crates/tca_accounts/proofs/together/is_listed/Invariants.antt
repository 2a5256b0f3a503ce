use Rattle.std.proofs.Common.{◌≡◌, ◌||◌, drop}
use Rattle.std.specs.List.{list_any}
use Rattle.toml.specs.View.{items_view}
use Rattle.tca_accounts.specs.Plans.{same_pair}
use Rattle.tca_accounts.specs.inside.Readings.{of_pairs}
use Rattle.tca_accounts.proofs.together.is_listed.Given as goal

-- what is left decides, unless the pair was found
abbrev pub invariant-loop-value : goal.invariant-loop-value
invariant-loop-value l =
    of_pairs (list_any (same_pair l.sought)) (items_view l.pairs) ≡ of_pairs (λ pairs. l.found || list_any (same_pair l.sought) pairs) (items_view (drop l.value-index l.pairs))
