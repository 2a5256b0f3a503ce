use Rattle.std.proofs.Common.{false, [], refl}
use Rattle.tca_join.specs.Chains.{chain}
use Rattle.tca_gossip.proofs.AtOnce.{extended_there, extended_added}
use Rattle.tca_gossip.proofs.chains.extend.Goals as goal

pub returns-in-Some : goal.returns-in-Some
returns-in-Some c = extended_there c.args.chains.now c.keys-rises.ensures.rises c.args.origin c.args.reports c.in-Some.chain.now c.extend.new.self c.extend.result c.in-Some.ensures.value (rw c.as_slice.ensures at c.extend.ensures.ok)

pub returns : goal.returns
returns c = extended_added c.args.chains.now c.keys-rises.ensures.rises c.args.origin c.args.reports (chain [] false) c.of.result c.set.new.self c.set.result c.in_default.ensures.value refl c.of.ensures c.set.ensures.ok
