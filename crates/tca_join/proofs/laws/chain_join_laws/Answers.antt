use Rattle.tca_join.proofs.Firsts.{clash_is_first, compatible_is_prefix, takes_longer, keeps_longer}
use Rattle.tca_join.proofs.laws.chain_join_laws.Goals as goal

pub returns : goal.returns
returns g c = let eq = g.T.PartialEq.eq in let laws = g.met.T.Eq.laws in record {
  clash = clash_is_first eq;
  compatible = compatible_is_prefix eq laws;
  takes = takes_longer eq laws;
  keeps = keeps_longer eq laws;
}
