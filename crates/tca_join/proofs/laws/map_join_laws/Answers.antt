use Rattle.tca_join.proofs.Firsts.{only_map, sets_one_key, joins_key_by_key, compatible_at_each, clash_is_least, fits_at_each, full_at_some}
use Rattle.tca_join.proofs.laws.map_join_laws.Goals as goal

pub returns : goal.returns
returns g c = record {
  only = only_map g.row.V.Denot;
  sets = sets_one_key g.row.V.Denot;
  joins = joins_key_by_key g.row.V.Denot;
  compatible = compatible_at_each g.row.V.Denot;
  clash = clash_is_least g.row.V.Denot;
  fits = fits_at_each g.row.V.Denot;
  full = full_at_some g.row.V.Denot;
}
