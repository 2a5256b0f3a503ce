-- The pairs of values, by how many values there are.
use Rattle.std.proofs.Common.{◌≡◌, ◌≢◌, ◌<◌, true, Some, List, [], ◌∷◌, length, Result, Ok, Err, nat_le, le-leb, refl, arith}
use Rattle.toml.specs.Data.{Data, Items, Members, array, boolean, datetime, float, integer, string, table}
use Rattle.toml.specs.View.{items_view}
use Rattle.toml.specs.declared.value.Value.{Value}
use Rattle.tca_accounts.specs.declared.key.Key.TheVariants as key
use Rattle.tca_accounts.specs.declared.fault.PlanFault.{PlanFault}
use Rattle.tca_accounts.specs.declared.fault.PlanFault.TheVariants as fault
use Rattle.tca_accounts.specs.Documents.{at, count_items, items_of, pair_in, pairs_in, pairs_of}
use Rattle.tca_accounts.specs.inside.Readings.{each_is_pair, passes}

no_pair : (vs : List Value) → length vs ≢ 2 → Err (fault.Wrong key.Keys) ≡ pair_in (array (items_view vs))
no_pair [] h = refl
no_pair (v ∷ []) h = refl
no_pair (v ∷ w ∷ []) h = absurd (h (omega arith))
no_pair (v ∷ w ∷ x ∷ vs) h = refl

-- an array of any other number of elements is no pair
pub not_two : (d : Data) (vs : List Value) → Ok (items_view vs) ≡ items_of key.Keys (Some d) → length vs ≢ 2 → Err (fault.Wrong key.Keys) ≡ pair_in d
not_two (array ds) vs e h =
    let same : items_view vs ≡ ds = cc in
    rw (← same) (no_pair vs h)
not_two (string s) vs e h = cc
not_two (integer z) vs e h = cc
not_two (float x) vs e h = cc
not_two (boolean b) vs e h = cc
not_two (datetime dt) vs e h = cc
not_two (table ms) vs e h = cc

pub count_items-view : (vs : List Value) → count_items (items_view vs) ≡ length vs
count_items-view [] = refl
count_items-view (v ∷ vs) = omega (arith, count_items-view vs)

-- one or more values are the pairs of an account
pub pairs_in-some : (ms : Members) (vs : List Value) → Ok (items_view vs) ≡ items_of key.Keys (at key.Keys ms) → 0 < length vs → pairs_of (items_view vs) ≡ pairs_in ms
pairs_in-some ms vs e some =
    let enough : nat_le 1 (count_items (items_view vs)) ≡ true = le-leb 1 _ (omega (arith, count_items-view vs)) in
    rw (← e, enough) refl

pub fault_kept : {A : Type 0} (e : PlanFault) (r : Result A PlanFault) → Err e ≡ passes r → Err e ≡ r
fault_kept e (Ok x) h = cc
fault_kept e (Err f) h = cc

pub fault_of-each : (ds : Items) (e : PlanFault) → Err e ≡ each_is_pair ds → Err e ≡ pairs_of ds
fault_of-each ds e h = fault_kept e (pairs_of ds) h
