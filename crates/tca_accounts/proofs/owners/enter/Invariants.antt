use Rattle.std.proofs.Common.{drop, map}
use Rattle.tca_accounts.specs.inside.Owners.{GoesOn}
use Rattle.tca_accounts.proofs.owners.enter.Given as goal

abbrev pub invariant-loop-pair : goal.invariant-loop-pair
invariant-loop-pair l = GoesOn l.fn.owners (map (λ k. (k, l.account)) l.pairs) l.owners (map (λ k. (k, l.account)) (drop l.pair-index l.pairs))
