use Rattle.std.proofs.Common.{◌≡◌, take}
use Rattle.tca_accounts.proofs.tally.Tallies.is_same.Given as goal

abbrev pub invariant-loop-i : goal.invariant-loop-i
invariant-loop-i l = take l.i l.self-inside.list.items ≡ take l.i l.other-inside.list.items
