use Rattle.std.proofs.Common.{◌≡◌, take}
use Rattle.tca_accounts.proofs.account.copied.Given as goal

abbrev pub invariant-loop-account : goal.invariant-loop-account
invariant-loop-account l = l.list.items ≡ take l.account-index l.accounts
