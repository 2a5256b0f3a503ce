-- The slots in which the templates of a session stand, in the order in which these were first seen. Cited by the code and its proofs.
use Rattle.std.specs.Prelude.{◌≡◌, ◌≤◌, ◌<◌, ◌++◌, ◌==◌, ◌&&◌, ℕ, suc, Bool, true, slice_get, List, [], ◌∷◌, length, set, if◌then◌else◌, Option, Some, None, IfSome, ⊤}
use Rattle.std.specs.Option.{is_some, option_map, option_flatten}
use Rattle.std.specs.Map.{lookup}
use mathlib.Core.Bool.{beq}
use Rattle.tca_templates.specs.declared.template.Template.{Template}
use Rattle.tca_templates.specs.declared.ids.Ids.{Ids}
use Rattle.tca_templates.specs.Templates.{Key, same_key}

-- what stands in the slots, without the empty ones
abbrev pub filled : {E : Type 0} → List (Option E) → List E
filled [] = []
filled (None ∷ ss) = filled ss
filled (Some e ∷ ss) = e ∷ filled ss

-- the place of the first slot with this key
abbrev pub place_of : {X : Type 0} → Key → List (Option (Key × X)) → Option ℕ
place_of k [] = None
place_of k (None ∷ ss) = option_map suc (place_of k ss)
place_of k (Some e ∷ ss) = if same_key k e.0 then Some 0 else option_map suc (place_of k ss)

-- no two slots have one key
abbrev pub IsApart : {X : Type 0} → List (Option (Key × X)) → Type 0
IsApart [] = ⊤
IsApart (None ∷ ss) = IsApart ss
IsApart (Some e ∷ ss) = (place_of e.0 ss ≡ None) × IsApart ss

-- the keys with their places; a key whose template was withdrawn may stand there without one
abbrev pub Places : Type 0
Places = List (Key × Option ℕ)

-- the place of a key
abbrev pub held : Places → Key → Option ℕ
held places k = option_flatten (lookup (same_key k) places)

-- whether a key stands there, with or without a place
abbrev pub is_entered : Places → Key → Bool
is_entered places k = is_some (lookup (same_key k) places)

-- The place of each key is that of its slot, no two slots have one key, and so many are filled. There are no more keys than slots.
pub record IsSlotted {X : Type 0} (slots : List (Option (Key × X))) (places : Places) (count : ℕ) : Type 0 where
  pub found : (k : Key) → held places k ≡ place_of k slots
  pub apart : IsApart slots
  pub counted : count ≡ length (filled slots)
  pub few : length places ≤ length slots

-- A step back: the slot of this place stood so.
abbrev pub Step : Type 0 → Type 0
Step X = ℕ × Option (Key × X)

-- the slots before these steps, of which the last is taken back first
abbrev pub undone : {X : Type 0} → List (Step X) → List (Option (Key × X)) → List (Option (Key × X))
undone [] ss = ss
undone (u ∷ us) ss = set (undone us ss) u.0 u.1

-- each step back is to a slot that is there, and leaves no two slots with one key
abbrev pub AreSteps : {X : Type 0} → List (Step X) → List (Option (Key × X)) → Type 0
AreSteps [] ss = ⊤
AreSteps (u ∷ us) ss = AreSteps us ss × (u.0 < length ss) × IsApart (set (undone us ss) u.0 u.1)

-- the steps, where they are noted, with one more
abbrev pub noted : {X : Type 0} → Option (List (Step X)) → ℕ → Option (Key × X) → Option (List (Step X))
noted steps place slot = option_map (λ us. us ++ (place, slot) ∷ []) steps

-- what stood in the slots before the steps, where these are noted
abbrev pub before_of : {X : Type 0} → Option (List (Step X)) → List (Option (Key × X)) → Option (List (Key × X))
before_of steps ss = option_map (λ us. filled (undone us ss)) steps

-- the key of this slot stands among the places
abbrev pub IsEntered : {X : Type 0} → Places → Option (Key × X) → Type 0
IsEntered places None = ⊤
IsEntered places (Some e) = is_entered places e.0 ≡ true

-- so do those of all steps
abbrev pub AreEntered : {X : Type 0} → Places → List (Step X) → Type 0
AreEntered places [] = ⊤
AreEntered places (u ∷ us) = IsEntered places u.1 × AreEntered places us

-- The places are those of the slots, and all steps can be taken back without a key more.
pub record IsKept {X : Type 0} (slots : List (Option (Key × X))) (places : Places) (count : ℕ) (steps : Option (List (Step X))) : Type 0 where
  pub slotted : IsSlotted slots places count
  pub steps_back : IfSome steps (λ us. AreSteps us slots)
  pub entered : IfSome steps (λ us. AreEntered places us)

-- the observation domain of a template, and whether it is an options template
abbrev pub Kind : Type 0
Kind = ℕ × Bool

abbrev pub same_kind : Kind → Kind → Bool
same_kind a b = (a.0 == b.0) && beq a.1 b.1

-- this ID stands in a list, in this place or behind it
abbrev pub StandsFrom : ℕ → List ℕ → ℕ → Type 0
StandsFrom from ids id = (i : ℕ) × (from ≤ i) × (slice_get ids i ≡ Some id)

-- a withdrawal of all goes over this ID
abbrev pub IsAhead : Option Ids → ℕ → Type 0
IsAhead None id = ⊥
IsAhead (Some l) id = StandsFrom l.from l.all.items id

-- this ID is listed, whether or not a withdrawal of all goes over it
abbrev pub IsAmong : Option Ids → ℕ → Type 0
IsAmong None id = ⊥
IsAmong (Some l) id = StandsFrom 0 l.all.items id

-- a withdrawal of all templates of its domain and kind goes over this template
abbrev pub IsListed : List (Kind × Ids) → Option (Key × Template) → Type 0
IsListed xs None = ⊤
IsListed xs (Some e) = IsAhead (lookup (same_kind (e.0.0, e.1.options)) xs) e.0.1

-- the ID of this template is listed
abbrev pub IsNoted : List (Kind × Ids) → Option (Key × Template) → Type 0
IsNoted xs None = ⊤
IsNoted xs (Some e) = IsAmong (lookup (same_kind (e.0.0, e.1.options)) xs) e.0.1

-- so is that of each template of the steps
abbrev pub AreNoted : List (Kind × Ids) → List (Step Template) → Type 0
AreNoted xs [] = ⊤
AreNoted xs (u ∷ us) = IsNoted xs u.1 × AreNoted xs us

-- A withdrawal of all goes over each template of its domain and kind, and the ID of each that a step brings back is listed.
pub record IsCovered (slots : List (Option (Key × Template))) (kinds : List (Kind × Ids)) (steps : Option (List (Step Template))) : Type 0 where
  pub slots_in : (i : ℕ) (s : Option (Key × Template)) → slice_get slots i ≡ Some s → IsListed kinds s
  pub steps_in : IfSome steps (λ us. AreNoted kinds us)
