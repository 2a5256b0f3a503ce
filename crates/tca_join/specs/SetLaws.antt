-- The laws of finite sets and their unions, as statements about a total order that tells each two members apart.
use Rattle.std.specs.Prelude.{◌≡◌, true, List, ◌++◌}
use Rattle.std.specs.List.Sorted.{IsStrictlySortedBy}
use Rattle.std.specs.Cmp.{IsTotalOrder}
use Rattle.std.specs.declared.cmp.Ordering.{Ordering}
use Rattle.std.proofs.lemmas.Map.Lookups.{CmpEqualImpliesEq}
use Rattle.tca_join.specs.Sets.{has, in_order, IsOrdered}

module _ {K : Type 0} (R : K → K → Ordering) where
  -- a total order that ties no two members
  abbrev pub IsExact : Type 0
  IsExact = IsTotalOrder R × CmpEqualImpliesEq R

  -- each list's members in order are a set of just these
  abbrev pub IsASet : Type 0
  IsASet = (ks : List K) → IsOrdered R ks (in_order R ks)

  -- two lists that rise strictly and have just the members of one list are one list
  abbrev pub IsOnly : Type 0
  IsOnly = (ks xs ys : List K) → IsOrdered R ks xs → IsOrdered R ks ys → xs ≡ ys

  -- the union of two sets
  abbrev pub union : List K → List K → List K
  union a b = in_order R (a ++ b)

  -- the order of two sets doesn't matter to their union
  abbrev pub UnionCommutes : Type 0
  UnionCommutes = (a b : List K) → union a b ≡ union b a

  -- nor does which two of three are united first
  abbrev pub UnionAssociates : Type 0
  UnionAssociates = (a b c : List K) → union (union a b) c ≡ union a (union b c)

  -- a set united with itself is that set
  abbrev pub UnionAgain : Type 0
  UnionAgain = (a : List K) → IsStrictlySortedBy R a → union a a ≡ a

  -- each member of a is a member of b
  abbrev pub IsWithin : List K → List K → Type 0
  IsWithin a b = (q : K) → has R a q ≡ true → has R b q ≡ true

  -- a union has all members of both
  abbrev pub UnionAbove : Type 0
  UnionAbove = (a b : List K) → IsWithin a (union a b) × IsWithin b (union a b)

  -- whatever has all members of both has all of the union's
  abbrev pub UnionLeast : Type 0
  UnionLeast = (a b c : List K) → IsWithin a c → IsWithin b c → IsWithin (union a b) c
