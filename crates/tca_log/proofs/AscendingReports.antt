-- Reports that ascend.
use Rattle.std.proofs.Common.{◌≡◌, List, [], ◌∷◌, ◌++◌}
use Rattle.std.specs.List.{AllByRecursion}
use Rattle.std.specs.List.Sorted.{IsStrictlySortedBy}
use Rattle.std.specs.Cmp.{IsTotalOrder}
use Rattle.std.specs.declared.cmp.Ordering.{Ordering}
use Rattle.std.specs.declared.cmp.Ordering.TheVariants.{Less}

module _ {K : Type 0} (R : K → K → Ordering) (o : IsTotalOrder R) where
  all_snoc : (x b r : K) (xs : List K) → R b r ≡ Less → AllByRecursion (λ y. R x y ≡ Less) (xs ++ b ∷ []) → AllByRecursion (λ y. R x y ≡ Less) ((xs ++ b ∷ []) ++ r ∷ [])
  all_snoc x b r [] less h = (h.0, (o.trans x b r h.0 less, tt))
  all_snoc x b r (y ∷ ys) less h = (h.0, all_snoc x b r ys less h.1)

  -- one more behind the last one
  pub rises_snoc : (b r : K) (xs : List K) → R b r ≡ Less → IsStrictlySortedBy R (xs ++ b ∷ []) → IsStrictlySortedBy R ((xs ++ b ∷ []) ++ r ∷ [])
  unfolding IsStrictlySortedBy
  rises_snoc b r [] less h = ((less, tt), (tt, tt))
  rises_snoc b r (x ∷ xs) less h = (all_snoc x b r xs less h.0, rises_snoc b r xs less h.1)

pub rises_alone : {K : Type 0} (R : K → K → Ordering) (x : K) → IsStrictlySortedBy R ([] ++ x ∷ [])
unfolding IsStrictlySortedBy
rises_alone R x = (tt, tt)

pub rises_none : {K : Type 0} (R : K → K → Ordering) → IsStrictlySortedBy R []
unfolding IsStrictlySortedBy
rises_none R = tt
