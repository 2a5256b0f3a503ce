use Rattle.tca_gossip.proofs.Worlds.{sent_fault, take_chain, merge_chain}
use Rattle.tca_gossip.proofs.Logs.{equal_in_world}
use Rattle.tca_gossip.proofs.laws.machine_laws.Goals as goal

pub returns : goal.returns
returns c = record { faults = sent_fault; takes = take_chain; merges = merge_chain; equal = equal_in_world }
