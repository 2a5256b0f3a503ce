use Rattle.std.proofs.Common.{sym, ◌∙◌}
use Rattle.tca_join.proofs.Sets.{is_ordered, ordered_is}
use Rattle.tca_join.proofs.Unions.{union_commutes, union_associates, union_again, union_above, union_least}
use Rattle.tca_join.proofs.laws.set_laws.Goals as goal

pub returns : goal.returns
returns g c = record {
  ordered = λ R e. is_ordered R e.0;
  only = λ R e ks xs ys h k. ordered_is R e.0 e.1 ks xs h ∙ sym (ordered_is R e.0 e.1 ks ys k);
  union_commutes = λ R e. union_commutes R e.0 e.1;
  union_associates = λ R e. union_associates R e.0 e.1;
  union_again = λ R e. union_again R e.0 e.1;
  union_above = λ R e a b. (λ q. (union_above R e.0 e.1 a b q).0, λ q. (union_above R e.0 e.1 a b q).1);
  union_least = λ R e a b d h k q. union_least R e.0 e.1 a b d q (h q) (k q);
}
