-- Where the chosen fields of a template stand in its records. Cited inside this crate alone.
use Rattle.std.specs.Prelude.{◌≡◌, ℕ, ◌+◌, suc, ◌==◌, Bool, true, false, not, ◌&&◌, ◌||◌, if◌then◌else◌, List, [], ◌∷◌, take, drop, Option, Some, None, option_map}
use Rattle.std.specs.Option.{is_some, option_or}
use Rattle.tca_templates.specs.declared.template.FieldSpec.{FieldSpec}
use Rattle.tca_templates.specs.declared.layout.Spot.{Spot}
use Rattle.tca_templates.specs.declared.layout.Spots.{Spots}
use Rattle.tca_templates.specs.declared.layout.Choice.{Choice}
use Rattle.tca_templates.specs.Records.{FieldView, field_at, fields_on}
use Rattle.tca_templates.specs.Chosen.{times, sizes, code_points, interfaces, sections, is_field_of, chosen_of}

-- where the value of the first field of this element stands, when so many octets are behind: its offset, and how many octets it has
unfoldable pub spot_in : ℕ → ℕ → List FieldSpec → List ℕ → Option (ℕ × ℕ)
spot_in e used [] octets = None
spot_in e used (s ∷ ss) octets = elim (field_at s.length octets) [
  | None ↦ None
  | Some x ↦ if is_field_of e s then Some (used + x.0, x.1) else spot_in e (used + (x.0 + x.1)) ss (drop (x.0 + x.1) octets)
]

-- the same where each field has a length of its own
unfoldable pub fixed_spot : ℕ → ℕ → List FieldSpec → Option (ℕ × ℕ)
fixed_spot e used [] = None
fixed_spot e used (s ∷ ss) = if is_field_of e s then Some (used, s.length) else fixed_spot e (used + s.length) ss

-- whether no field has a variable length
unfoldable pub are_fixed : List FieldSpec → Bool
are_fixed [] = true
are_fixed (s ∷ ss) = not (s.length == 65535) && are_fixed ss

-- the spot of the element that was chosen
abbrev pub spot_of : Option ℕ → (ℕ → Option (ℕ × ℕ)) → Option Spot
spot_of None places = None
spot_of (Some e) places = option_map (λ p. record { element = e; at = p.0; length = p.1 }) (places e)

-- the spot of this field, if it is one of the element that was chosen
abbrev pub spot_if : Option ℕ → FieldSpec → ℕ → ℕ → Option Spot
spot_if None s at length = None
spot_if (Some e) s at length = if is_field_of e s then Some (record { element = e; at = at; length = length }) else None

-- which elements are chosen of a template
abbrev pub choice_of : List FieldSpec → Choice
choice_of specs = record {
  time = chosen_of times specs;
  size = chosen_of sizes specs;
  code_point = chosen_of code_points specs;
  interface = chosen_of interfaces specs;
  section = chosen_of sections specs;
}

-- what stands where, by the place that each element has
abbrev pub spots_of : Choice → (ℕ → Option (ℕ × ℕ)) → Spots
spots_of c places = record {
  time = spot_of c.time places;
  size = spot_of c.size places;
  code_point = spot_of c.code_point places;
  interface = spot_of c.interface places;
  section = spot_of c.section places;
}

-- the spots that were found, and where one wasn't that of what follows
abbrev pub spots_with : Spots → Spots → Spots
spots_with found more = record {
  time = option_or found.time more.time;
  size = option_or found.size more.size;
  code_point = option_or found.code_point more.code_point;
  interface = option_or found.interface more.interface;
  section = option_or found.section more.section;
}

-- what stands in a spot of a record
abbrev pub value_in : List ℕ → Option Spot → Option (ℕ × List ℕ)
value_in octets spot = option_map (λ s. (s.element, take s.length (drop s.at octets))) spot

-- where the chosen fields stand in every record, unless a field has a variable length
abbrev pub layout_of : Choice → List FieldSpec → Option Spots
layout_of c specs = if are_fixed specs then Some (spots_of c (λ e. fixed_spot e 0 specs)) else None

-- whether this field is one of the element that was chosen
abbrev pub is_of : Option ℕ → FieldSpec → Bool
is_of None s = false
is_of (Some e) s = is_field_of e s

-- the element that was chosen, unless this field has it
abbrev pub left_of : Option ℕ → FieldSpec → Option ℕ
left_of None s = None
left_of (Some e) s = if is_field_of e s then None else Some e

-- whether this field is one of an element that was chosen
abbrev pub is_chosen : Choice → FieldSpec → Bool
is_chosen c s = is_of c.time s || (is_of c.size s || (is_of c.code_point s || (is_of c.interface s || is_of c.section s)))

-- the elements that were chosen, but those that this field has
abbrev pub left_by : Choice → FieldSpec → Choice
left_by c s = record {
  time = left_of c.time s;
  size = left_of c.size s;
  code_point = left_of c.code_point s;
  interface = left_of c.interface s;
  section = left_of c.section s;
}

-- whether records are gone over by this field: it has octets, or is the first of an element that was chosen
abbrev pub is_step : Choice → FieldSpec → Bool
is_step c s = is_chosen c s || not (s.length == 0)

-- the places of the fields that records are gone over by, counted from this number on
unfoldable pub steps_of : Choice → ℕ → List FieldSpec → List ℕ
steps_of c at [] = []
steps_of c at (s ∷ ss) = if is_step c s then at ∷ steps_of (left_by c s) (suc at) ss else steps_of (left_by c s) (suc at) ss

-- No field has a variable length, and these are the spots of every record.
pub record IsLaidOut (c : Choice) (specs : List FieldSpec) (spots : Spots) : Type 0 where
  pub fixed : are_fixed specs ≡ true
  pub spots_are : spots ≡ spots_of c (λ e. fixed_spot e 0 specs)

-- A record stands whole at the front of the octets, and these are its spots.
pub record IsFound (specs : List FieldSpec) (spots : Spots) (octets : List ℕ) : Type 0 where
  pub whole : is_some (fields_on [] 0 specs octets) ≡ true
  pub spots_are : spots ≡ spots_of (choice_of specs) (λ e. spot_in e 0 specs octets)

abbrev pub fields_or : Option (List FieldView × ℕ) → List FieldView
fields_or None = []
fields_or (Some x) = x.0

-- the fields of the record at the front of the octets
abbrev pub fields_in : List FieldSpec → List ℕ → List FieldView
fields_in specs octets = fields_or (fields_on [] 0 specs octets)
