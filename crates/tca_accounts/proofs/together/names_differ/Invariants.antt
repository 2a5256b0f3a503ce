use Rattle.std.proofs.Common.{◌≡◌, ◌&&◌, drop}
use Rattle.toml.specs.View.{items_view}
use Rattle.tca_accounts.specs.inside.Readings.{names_differ, of_accounts}
use Rattle.tca_accounts.proofs.together.names_differ.Given as goal

-- what is left decides, unless a name stood twice
abbrev pub invariant-loop-value : goal.invariant-loop-value
invariant-loop-value l = record {
  place : l.next ≡ l.value-index;
  decides : of_accounts names_differ 0 (items_view l.values) ≡ of_accounts (λ others. l.differ && names_differ others) l.next (items_view (drop l.value-index l.values));
}
