-- Lists of the same items, and the set of these.
use Rattle.std.proofs.Common.{◌≡◌, Bool, ◌||◌, List, [], ◌∷◌, refl, sym, ap, ◌∙◌}
use Rattle.std.specs.List.{list_any}
use Rattle.std.specs.List.Sorted.{IsStrictlySortedBy}
use Rattle.std.specs.Ordering.{eq_by_cmp}
use Rattle.std.specs.Cmp.{IsTotalOrder}
use Rattle.std.specs.declared.cmp.Ordering.{Ordering}
use Rattle.std.specs.declared.cmp.Ordering.TheVariants.{Less, Equal, Greater}
use Rattle.std.proofs.lemmas.Map.Lookups.{CmpEqualImpliesEq}
use Rattle.tca_join.specs.Alike.{AreAlike}
use Rattle.tca_join.specs.Sets.{by_order, has, put, in_order}
use Rattle.tca_join.proofs.Sets.{or_again, or_swap, has-in_order, only_one, rises_in_order}

module _ {K : Type 0} (R : K → K → Ordering) (exact : CmpEqualImpliesEq R) where
  any_put : (test : K → Bool) (k : K) (xs : List K) → list_any test (put R k xs) ≡ (test k || list_any test xs)
  unfolding put
  any_put test k [] = refl
  any_put test k (x ∷ xs) =
      elim (R k x) as (λ r. R k x ≡ r → list_any test (by_order r (k ∷ x ∷ xs) (x ∷ xs) (x ∷ put R k xs)) ≡ (test k || (test x || list_any test xs))) [
        | Less ↦ λ e. refl
        | Equal ↦ λ e. rw (exact k x e) (or_again (test x) (list_any test xs))
        | Greater ↦ λ e. ap (λ b. test x || b) (any_put test k xs) ∙ or_swap (test x) (test k) (list_any test xs)
      ] refl

  any_in_order : (test : K → Bool) (ks : List K) → list_any test ks ≡ list_any test (in_order R ks)
  unfolding in_order
  any_in_order test [] = refl
  any_in_order test (k ∷ ks) = ap (λ b. test k || b) (any_in_order test ks) ∙ sym (any_put test k (in_order R ks))

  -- a list has the items of its set
  pub alike_in_order : (ks : List K) → AreAlike ks (in_order R ks)
  alike_in_order ks = record { each = λ test. any_in_order test ks }

-- what rises strictly and has the items of a list is its set
pub alike_rising : {K : Type 0} (R : K → K → Ordering) → IsTotalOrder R → CmpEqualImpliesEq R → (ks list : List K) → AreAlike ks list → IsStrictlySortedBy R list → list ≡ in_order R ks
unfolding has
alike_rising R o exact ks list alike rises = only_one R o exact list (in_order R ks) rises (rises_in_order R o ks) (λ q. sym (alike.each (eq_by_cmp R q)) ∙ sym (has-in_order R o ks q))
