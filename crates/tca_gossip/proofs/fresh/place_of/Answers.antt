use Rattle.std.proofs.Common.{◌∙◌, arith, sym}
use Rattle.tca_gossip.proofs.Newcomers.{place_found, place_is, place_same}
use Rattle.tca_gossip.proofs.fresh.place_of.Goals as goal

pub returns-then-eq-clause-at : goal.returns-then-eq-clause-at
returns-then-eq-clause-at c = place_same c.args.set.now c.index-set-likely.result c.args.report.now c.args.likely (omega (arith, c.if-likely-set.true)) c.index-set-likely.is (sym c.eq.ensures ∙ c.if-eq.true)

pub unwrap-requires : goal.unwrap-requires
unwrap-requires c = place_found c.args.set.now c.args.report.now c.binary_search.result c.requires.rises c.requires.there c.binary_search.ensures.bound c.binary_search.ensures.position

pub returns-clause-at : goal.returns-clause-at
returns-clause-at c = place_is c.args.set.now c.args.report.now c.binary_search.result c.unwrap.result c.unwrap.ensures c.binary_search.ensures.bound c.binary_search.ensures.position
