-- A set as a list of chunks. No public contract cites this: it serves the container's fields and its proofs alone.
use Rattle.std.specs.Prelude.{◌≡◌, ℕ, ◌+◌, ◌<◌, ◌≤◌, Bool, true, false, List, [], ◌∷◌, length, get_or, Option, Some, None, IfSome, is_some}
use Rattle.std.specs.List.{flat_map, All}
use Rattle.std.specs.List.Sorted.{IsStrictlySortedBy}
use Rattle.std.specs.Ordering.{is_lt}
use Rattle.std.specs.declared.cmp.Ordering.{Ordering}
use Rattle.tca_log.specs.Rows.Ordered.{most_rows}

-- whether the first member comes after k
abbrev pub starts_after : {K : Type 0} → (K → K → Ordering) → K → List K → Bool
starts_after R k [] = false
starts_after R k (x ∷ xs) = is_lt (R k x)

-- the rows of a chunk: those of the list that it shares, if there is one
abbrev pub rows_of : {K : Type 0} → Option (List K) → List K → List K
rows_of (Some list) own = list
rows_of None own = own

-- a chunk has room for 256 rows, and where it shares a list for all of these, and has none of its own
pub record IsStored {K : Type 0} (shared : Option (List K)) (own : List K) (capacity : ℕ) : Type 0 where
  pub room : 256 ≤ capacity
  pub none : IfSome shared (λ list. own ≡ [])
  pub fits : IfSome shared (λ list. length list ≤ capacity)

-- the chunks, one after another
abbrev pub joined : {K : Type 0} → List (List K) → List K
joined cs = flat_map (λ c. c) cs

-- chunks with something in each, that rise strictly as one list
pub record AreChunks {K : Type 0} (R : K → K → Ordering) (cs : List (List K)) : Type 0 where
  pub rises : IsStrictlySortedBy R (joined cs)
  pub some : All (λ c. 0 < length c) cs

-- where a member is, or would go: the chunk does not start after it, unless it is the first, and the next one does
pub record IsPosition {K : Type 0} (R : K → K → Ordering) (cs : List (List K)) (k : K) (i : ℕ) : Type 0 where
  pub inside : i < length cs
  pub low : 0 < i → starts_after R k (get_or cs i []) ≡ false
  pub high : i + 1 < length cs → starts_after R k (get_or cs (i + 1) []) ≡ true

-- a container of rows within the limit, which it counts. Its spare chunk is empty, and there is a place for it. A chunk has
-- more than 256 rows only where it is the only one, and there is no spare one
pub record AreRows {K : Type 0} (R : K → K → Ordering) (cs : List (List K)) (extra : Option (List K)) (number room : ℕ) : Type 0 where
  pub chunks : AreChunks R cs
  pub count : number ≡ length (joined cs)
  pub limit : length (joined cs) ≤ most_rows
  pub spare : IfSome extra (λ c. c ≡ [])
  pub spare_fits : is_some extra ≡ true → length cs < room
  pub small_with_spare : is_some extra ≡ true → All (λ c. length c ≤ 256) cs
  pub small_if_many : 1 < length cs → All (λ c. length c ≤ 256) cs
