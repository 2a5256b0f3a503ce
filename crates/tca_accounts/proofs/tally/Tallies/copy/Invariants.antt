use Rattle.std.proofs.Common.{◌≡◌, take}
use Rattle.tca_accounts.proofs.tally.Tallies.copy.Given as goal

abbrev pub invariant-loop-tally : goal.invariant-loop-tally
invariant-loop-tally l = l.list.items ≡ take l.tally-index l.tally-items
