-- Maps by number, as their pairs in order, and their join key by key.
use Rattle.std.specs.Prelude.{◌≡◌, ◌≢◌, ℕ, ◌<◌, ◌≤◌, Option, None, Some, Bool, true, false, cond, List, [], ◌∷◌, ◌==◌, length, get_or, slice_set, map}
use Rattle.std.specs.List.{AllByRecursion, insert, list_any}
use Rattle.std.specs.Ordering.{nat_cmp}
use Rattle.tca_join.specs.Sets.{by_order}

-- what the map has at a key
abbrev pub get : {V : Type 0} → List (ℕ × V) → ℕ → Option V
get [] key = None
get (e ∷ es) key = cond (key == e.0) (Some e.1) (get es key)

-- the keys in order
abbrev pub keys_of : {V : Type 0} → List (ℕ × V) → List ℕ
keys_of es = map (λ e. e.0) es

-- the keys rise strictly
abbrev pub Rises : {V : Type 0} → List (ℕ × V) → Type 0
Rises [] = Unit {0}
Rises (e ∷ es) = AllByRecursion (λ next. e.0 < next.0) es × Rises es

-- with the value at a key, or what f makes of the value there and it
abbrev pub put : {V : Type 0} → (V → V → V) → ℕ → V → List (ℕ × V) → List (ℕ × V)
put f key v [] = (key, v) ∷ []
put f key v (e ∷ es) = by_order (nat_cmp key e.0) ((key, v) ∷ e ∷ es) ((key, f e.1 v) ∷ es) (e ∷ put f key v es)

-- with this value at the key, in place of one before, and all else as it was
abbrev pub with_value : {V : Type 0} → ℕ → V → List (ℕ × V) → List (ℕ × V)
with_value key v es = put (λ _ w. w) key v es

-- key by key; a key that one side lacks has the other side's value
abbrev pub merged : {V : Type 0} → (V → V → V) → List (ℕ × V) → List (ℕ × V) → List (ℕ × V)
merged f es [] = es
merged f es (e ∷ more) = merged f (put f e.0 e.1 es) more

-- what two values that may be missing clash at: only where both are there
abbrev pub clash_with : {V : Type 0} → (V → V → Option ℕ) → Option V → Option V → Option ℕ
clash_with clash None v = None
clash_with clash (Some w) None = None
clash_with clash (Some w) (Some v) = clash w v

-- whether the join of two values that may be missing is too large
abbrev pub full_with : {V : Type 0} → (V → V → Bool) → Option V → Option V → Bool
full_with full None v = false
full_with full (Some w) None = false
full_with full (Some w) (Some v) = full w v

-- the join of two values that may be missing: the other one, where one is
abbrev pub join_with : {V : Type 0} → (V → V → V) → Option V → Option V → Option V
join_with f None v = v
join_with f (Some w) None = Some w
join_with f (Some w) (Some v) = Some (f w v)

-- the key where something clashes at it, else the rest
abbrev pub first_of : Option ℕ → ℕ → Option ℕ → Option ℕ
first_of None key rest = rest
first_of (Some at) key rest = Some key

-- the first key of the second map, and so the least, at which the two clash
abbrev pub clash_key : {V : Type 0} → (V → V → Option ℕ) → List (ℕ × V) → List (ℕ × V) → Option ℕ
clash_key clash es [] = None
clash_key clash es (e ∷ more) = first_of (clash_with clash (get es e.0) (Some e.1)) e.0 (clash_key clash es more)

-- whether at some key the join is too large
abbrev pub map_full : {V : Type 0} → (V → V → Bool) → List (ℕ × V) → List (ℕ × V) → Bool
map_full full es more = list_any (λ e. full_with full (get es e.0) (Some e.1)) more

-- both missing, or both there and the same
abbrev pub OptionSame : {V : Type 0} → (V → V → Type 0) → Option V → Option V → Type 0
OptionSame same None None = Unit {0}
OptionSame same None (Some v) = ⊥
OptionSame same (Some w) None = ⊥
OptionSame same (Some w) (Some v) = same w v

-- the same at each key
abbrev pub MapSame : {V : Type 0} → (V → V → Type 0) → List (ℕ × V) → List (ℕ × V) → Type 0
MapSame same es fs = (key : ℕ) → OptionSame same (get es key) (get fs key)

-- the keys rise, and each value is proper
abbrev pub MapProper : {V : Type 0} → (V → Type 0) → List (ℕ × V) → Type 0
MapProper proper es = Rises es × AllByRecursion (λ e. proper e.1) es

-- the index at which a key is
pub record IsAt {V : Type 0} (es : List (ℕ × V)) (key at : ℕ) : Type 0 where
  pub within : at < length es
  pub has : (e : ℕ × V) → e ≡ get_or es at e → (e.0 ≡ key) × (get es key ≡ Some e.1)
  pub puts : (e : ℕ × V) → e ≡ get_or es at e → (f : V → V → V) (v : V) → put f key v es ≡ slice_set es at (e.0, f e.1 v)

-- the index to which a key would go
pub record IsGap {V : Type 0} (es : List (ℕ × V)) (key at : ℕ) : Type 0 where
  pub within : at ≤ length es
  pub lacks : get es key ≡ None
  pub puts : (f : V → V → V) (v : V) → put f key v es ≡ insert es at (key, v)

-- the maps have values that clash at this key, and at none below it
pub record IsLeastClash {V : Type 0} (clash : V → V → Option ℕ) (a b : List (ℕ × V)) (key : ℕ) : Type 0 where
  pub here : clash_with clash (get a key) (get b key) ≢ None
  pub below : (q : ℕ) → q < key → clash_with clash (get a q) (get b q) ≡ None

module _ (V : Type 0) where
  -- two maps with the same at each key are one
  abbrev pub IsOnlyMap : Type 0
  IsOnlyMap = (a b : List (ℕ × V)) → Rises a → Rises b → ((q : ℕ) → get a q ≡ get b q) → a ≡ b

  -- a value that is set is there, and at each other key is what was
  abbrev pub SetsOneKey : Type 0
  SetsOneKey = (key : ℕ) (v : V) (es : List (ℕ × V)) → Rises es → Rises (with_value key v es) × ((q : ℕ) → get (with_value key v es) q ≡ cond (q == key) (Some v) (get es q))

  -- a join has at each key the join of what the two have there
  abbrev pub JoinsKeyByKey : Type 0
  JoinsKeyByKey = (joined : V → V → V) (a b : List (ℕ × V)) → Rises a → Rises b → Rises (merged joined a b) × ((q : ℕ) → get (merged joined a b) q ≡ join_with joined (get a q) (get b q))

  -- two maps that don't clash do so at no key
  abbrev pub CompatibleAtEach : Type 0
  CompatibleAtEach = (clash : V → V → Option ℕ) (a b : List (ℕ × V)) → clash_key clash a b ≡ None → (q : ℕ) → clash_with clash (get a q) (get b q) ≡ None

  -- what two maps clash at is the least such key
  abbrev pub ClashIsLeast : Type 0
  ClashIsLeast = (clash : V → V → Option ℕ) (a b : List (ℕ × V)) (key : ℕ) → Rises b → clash_key clash a b ≡ Some key → IsLeastClash clash a b key

  -- a join that is not too large is so at no key
  abbrev pub FitsAtEach : Type 0
  FitsAtEach = (full : V → V → Bool) (a b : List (ℕ × V)) → map_full full a b ≡ false → (q : ℕ) → full_with full (get a q) (get b q) ≡ false

  -- one that is too large is so at some key
  abbrev pub FullAtSome : Type 0
  FullAtSome = (full : V → V → Bool) (a b : List (ℕ × V)) → Rises b → map_full full a b ≡ true → (q : ℕ) × (full_with full (get a q) (get b q) ≡ true)
