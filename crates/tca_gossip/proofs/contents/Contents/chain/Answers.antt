use Rattle.std.proofs.Common.{◌∙◌, sym}
use Rattle.tca_gossip.proofs.Plains.{chain_held}
use Rattle.tca_gossip.proofs.contents.Contents.chain.Goals as goal

pub returns-clause-items : goal.returns-clause-items
returns-clause-items c = rw (← c.self.view_is) (c.held_of.ensures.items ∙ sym (chain_held c.self.inside.chains c.args.origin c.self.invariant.rises))
