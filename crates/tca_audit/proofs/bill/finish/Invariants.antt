use Rattle.std.proofs.Common.{◌≡◌, ◌++◌}
use Rattle.std.specs.Prelude.{map}
use Rattle.std.specs.List.{AllByRecursion}
use Rattle.tca_accounts.specs.Spans.{Ascend}
use Rattle.tca_audit.specs.inside.Metering.{tally_so_far}
use Rattle.tca_audit.proofs.bill.finish.Given as goal

abbrev pub invariant-loop-account : goal.invariant-loop-account
invariant-loop-account l = record {
  tallies : l.list.items ++ map tally_so_far l.account-iterator.rest.items ≡ map tally_so_far l.fn.accounts.items;
  rise : AllByRecursion (λ r. Ascend (tally_so_far r).spans) l.account-iterator.rest.items;
}
