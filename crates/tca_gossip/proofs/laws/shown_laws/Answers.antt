use Rattle.tca_gossip.proofs.Members.{log_is}
use Rattle.tca_gossip.proofs.Answering.{delta_answers}
use Rattle.tca_gossip.proofs.Arriving.{only_gaps}
use Rattle.tca_gossip.proofs.MergesInWorlds.{equal_counts_equal_logs}
use Rattle.tca_gossip.proofs.Places.{plan_at}
use Rattle.tca_gossip.proofs.Equals.{equal_bills, equal_summaries}
use Rattle.tca_gossip.proofs.laws.shown_laws.Goals as goal

pub returns : goal.returns
returns c = record { log = log_is; answer = delta_answers; gaps = only_gaps; equal = equal_counts_equal_logs; plan = plan_at; bills = equal_bills; summaries = equal_summaries }
