use Rattle.tca_gossip.proofs.Rooms.{pushed, rises_set}
use Rattle.tca_gossip.proofs.chains.push.Goals as goal

pub returns-in-Some-clause-held : goal.returns-in-Some-clause-held
returns-in-Some-clause-held c = pushed c.args.chains.now c.keys-rises.ensures.rises c.args.origin c.args.report c.in-Some.chain.now c.push.new.self c.in-Some.ensures.value c.push.ensures

pub returns-in-Some-clause-rises : goal.returns-in-Some-clause-rises
returns-in-Some-clause-rises c = rises_set c.args.chains.now c.keys-rises.ensures.rises c.args.origin c.push.new.self
