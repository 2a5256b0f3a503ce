use Rattle.tca_join.specs.laws.JoinLaws.{associates_back, above_both, least_above, transitive, antisymmetric}
use Rattle.tca_join.proofs.join.join_laws.Goals as goal

pub returns : goal.returns
returns g c = let l = g.met.J.Join.laws in record {
  commutes = l.commutes;
  associates = l.associates;
  associates_back = associates_back l;
  idempotent = l.again;
  above = above_both l;
  least = least_above l;
  transitive = transitive l;
  antisymmetric = antisymmetric l;
}
