-- What contracts see of a container of rows, and what its calls do to the rows.
use Rattle.std.specs.Prelude.{◌≡◌, ℕ, if◌then◌else◌, Bool, false, List, [], ◌∷◌, length, filter, not, Option, Some, None}
use Rattle.std.specs.List.{AllByRecursion}
use Rattle.std.specs.Ordering.{eq_by_cmp, is_lt}
use Rattle.std.specs.declared.cmp.Ordering.{Ordering}
use Rattle.tca_join.specs.Sets.{has, put}

-- the most rows of a container
abbrev pub most_rows : ℕ
most_rows = 4194304

-- what a container has in order, and whether it has room for one more
pub record Ordered (K : Type 0) : Type 0 where
  pub rows : List K
  pub ready : Bool

-- the list without the members that tie with k
unfoldable pub without : {K : Type 0} → (K → K → Ordering) → K → List K → List K
without R k xs = filter (λ x. not (eq_by_cmp R k x)) xs

-- how many members come before k
unfoldable pub rank : {K : Type 0} → (K → K → Ordering) → K → List K → ℕ
rank R k xs = length (filter (λ x. is_lt (R x k)) xs)

-- the first member that ties with k
unfoldable pub tied : {K : Type 0} → (K → K → Ordering) → K → List K → Option K
tied R k [] = None
tied R k (x ∷ xs) = if eq_by_cmp R k x then Some x else tied R k xs

-- the list after each of these was put
unfoldable pub put_each : {K : Type 0} → (K → K → Ordering) → List K → List K → List K
put_each R [] xs = xs
put_each R (k ∷ ks) xs = put_each R ks (put R k xs)

-- the list without what ties with any of these
unfoldable pub without_each : {K : Type 0} → (K → K → Ordering) → List K → List K → List K
without_each R ks xs = filter (λ x. not (has R ks x)) xs

-- none of ks ties with a member of xs
abbrev pub AreApart : {K : Type 0} → (K → K → Ordering) → List K → List K → Type 0
AreApart R ks xs = AllByRecursion (λ k. has R xs k ≡ false) ks

-- the members that come before k, and those that don't
unfoldable pub before_key : {K : Type 0} → (K → K → Ordering) → K → List K → List K
before_key R k xs = filter (λ x. is_lt (R x k)) xs

unfoldable pub from_key : {K : Type 0} → (K → K → Ordering) → K → List K → List K
from_key R k xs = filter (λ x. not (is_lt (R x k))) xs

-- a member that is seen before the others, where there is one
abbrev pub seen_first : {K : Type 0} → Option K → List K → List K
seen_first None later = []
seen_first (Some x) later = x ∷ later
