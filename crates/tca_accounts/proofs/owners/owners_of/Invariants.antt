use Rattle.std.proofs.Common.{drop, []}
use Rattle.tca_accounts.specs.inside.Owners.{GoesOn, owned}
use Rattle.tca_accounts.proofs.owners.owners_of.Given as goal

abbrev pub invariant-loop-n : goal.invariant-loop-n
invariant-loop-n l = GoesOn [] (owned 0 l.accounts) l.owners (owned l.n (drop l.n l.accounts))
