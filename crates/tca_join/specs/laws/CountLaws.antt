-- The laws of the greater of two counts.
use Rattle.std.specs.Prelude.{◌≡◌, ℕ, max}
use Rattle.std.proofs.Common.{refl, sym, ◌∙◌, arith}
use Rattle.tca_join.specs.Joins.{IsJoin}
use Rattle.tca_join.specs.Counts.{IsCount, count_clash, count_full}

pub count_laws : IsJoin IsCount count_clash count_full (λ (a b : ℕ). a ≡ b) max
count_laws = record {
  itself = λ a. refl;
  back = λ a b h. sym h;
  through = λ a b c h k. h ∙ k;
  stays = λ a b p q e. omega arith;
  alike = λ a b x y p q r s h k e. ((refl, refl), λ i. max (h i) (k i));
  again = λ a p. ((refl, refl), omega arith);
  commutes = λ a b p q e. ((refl, refl), omega arith);
  associates = λ a b c p q r e f. ((refl, refl), (refl, refl), omega arith);
}
