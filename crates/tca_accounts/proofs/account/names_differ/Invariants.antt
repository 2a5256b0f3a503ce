use Rattle.std.proofs.Common.{◌≡◌, drop}
use Rattle.std.specs.Str.{bytes_eq}
use Rattle.tca_accounts.specs.Plans.{all_differ}
use Rattle.tca_accounts.proofs.account.names_differ.Given as goal

-- what is left decides
abbrev pub invariant-loop-n : goal.invariant-loop-n
invariant-loop-n l = all_differ (λ a b. bytes_eq a.name b.name) l.accounts ≡ all_differ (λ a b. bytes_eq a.name b.name) (drop l.n l.accounts)
