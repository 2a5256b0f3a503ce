-- A finite set as the one list that has each member once and rises strictly by a total order.
use Rattle.std.specs.Prelude.{◌≡◌, Bool, List, [], ◌∷◌}
use Rattle.std.specs.List.{list_any}
use Rattle.std.specs.List.Sorted.{IsStrictlySortedBy}
use Rattle.std.specs.Ordering.{eq_by_cmp}
use Rattle.std.specs.declared.cmp.Ordering.{Ordering}
use Rattle.std.specs.declared.cmp.Ordering.TheVariants.{Less, Equal, Greater}

-- the first, the second or the third, by what a comparison answers
abbrev pub by_order : {A : Type 0} → Ordering → A → A → A → A
by_order Less a b c = a
by_order Equal a b c = b
by_order Greater a b c = c

-- whether q is among these
unfoldable pub has : {K : Type 0} → (K → K → Ordering) → List K → K → Bool
has R ks q = list_any (eq_by_cmp R q) ks

-- the list with one more member
unfoldable pub put : {K : Type 0} → (K → K → Ordering) → K → List K → List K
put R k [] = k ∷ []
put R k (x ∷ xs) = by_order (R k x) (k ∷ x ∷ xs) (x ∷ xs) (x ∷ put R k xs)

-- the members of any list, in order
unfoldable pub in_order : {K : Type 0} → (K → K → Ordering) → List K → List K
in_order R [] = []
in_order R (k ∷ ks) = put R k (in_order R ks)

-- list has just the members of ks, each once, and rises strictly
pub record IsOrdered {K : Type 0} (R : K → K → Ordering) (ks list : List K) : Type 0 where
  pub rises : IsStrictlySortedBy R list
  pub members : (q : K) → has R list q ≡ has R ks q
