use Rattle.std.proofs.Common.{◌≡◌, get_or, subst}
use Rattle.tcatool.specs.declared.pairs.Pair.{Pair}
use Rattle.tcatool.proofs.Pairing.{pair_at, pair_found}
use Rattle.tcatool.proofs.pairs.place_of.Goals as goal

pub unwrap-requires : goal.unwrap-requires
unwrap-requires c = pair_found c.args.pairs.now c.of.result c.binary_search.result c.requires.rises (rw c.of.ensures c.requires.there) c.binary_search.ensures.bound c.binary_search.ensures.position

pub returns-clause-pair : goal.returns-clause-pair
returns-clause-pair c = subst (λ (q : Pair). get_or c.args.pairs.now c.unwrap.result q ≡ q) c.of.ensures (pair_at c.args.pairs.now c.of.result c.binary_search.result c.unwrap.result c.unwrap.ensures c.binary_search.ensures.position)
