use Rattle.std.proofs.Common.{rules}
use Rattle.tca_gossip.proofs.billing.Billing.settle.Goals as goal

pub returns-then-self-clause-kept : goal.returns-then-self-clause-kept
returns-then-self-clause-kept c = search rules
