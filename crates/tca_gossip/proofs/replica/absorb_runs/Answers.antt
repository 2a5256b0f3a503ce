use Rattle.tca_gossip.proofs.AbsorbSteps.{refused_state}
use Rattle.tca_gossip.proofs.replica.absorb_runs.Goals as goal

pub returns-in-Some-clause-state : goal.returns-in-Some-clause-state
returns-in-Some-clause-state c = refused_state c.args.contents.now.replica c.args.runs.now c.in-Some.fault c.in-Some.ensures.refused
