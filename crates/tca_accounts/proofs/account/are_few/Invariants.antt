use Rattle.std.proofs.Common.{◌≡◌, length, nat_le, drop}
use Rattle.tca_accounts.specs.Plans.{all_pairs}
use Rattle.tca_accounts.proofs.account.are_few.Given as goal

-- what is left decides, by the room that is left
abbrev pub invariant-loop-account : goal.invariant-loop-account
invariant-loop-account l = nat_le (length (all_pairs l.accounts)) 4096 ≡ nat_le (length (all_pairs (drop l.account-index l.accounts))) l.room
