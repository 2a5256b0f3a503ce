use Rattle.std.proofs.Common.{refl}
use Rattle.tca_gossip.proofs.billing.Billing.release.Goals as goal

pub returns-then-self-clause-kept : goal.returns-then-self-clause-kept
returns-then-self-clause-kept c = refl
