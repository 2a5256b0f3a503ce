-- How a chain keeps its items: in a list of its own, or in one that others hold too.
use Rattle.std.specs.Prelude.{◌≡◌, ℕ, ◌-◌, ◌<◌, ◌≤◌, Bool, true, List, length, vec_len, vec_capacity}
use Rattle.tca_join.specs.Chains.{most_items}
use Rattle.tca_join.specs.declared.store.Store.{Store}
use Rattle.tca_join.specs.declared.store.Store.TheVariants.{Own, Shared}

module _ {T A : Type 0} where
  -- the items
  abbrev pub stored : Store T A → List T
  stored (Own list) = list.items
  stored (Shared items) = items

  -- for how many items more there is room
  abbrev pub spare : Store T A → ℕ
  spare (Own list) = vec_capacity list - vec_len list
  spare (Shared items) = 0

-- what holds of a chain's fields: it is within the limit, and room that was reserved is there
pub record IsKept {T A : Type 0} (items : Store T A) (ready : Bool) : Type 0 where
  pub within : length (stored items) ≤ most_items
  pub spared : ready ≡ true → 0 < spare items
