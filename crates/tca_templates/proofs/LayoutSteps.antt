-- The steps of choosing elements and of finding where they stand.
use Rattle.std.proofs.Common.{◌≡◌, ℕ, suc, ◌+◌, ◌<◌, ◌≤◌, Bool, true, false, cond, List, ◌∷◌, length, drop, get_or, Option, Some, None, refl, sym, ap, ◌∙◌, arith, add-one, drop-cons}
use Rattle.std.specs.Prelude.{option_map, ◌≢◌, ◌==◌, not, ◌&&◌}
use Rattle.std.proofs.lemmas.Bool.Decides.{nat_tests}
use Rattle.std.specs.Option.{option_or}
use Rattle.std.specs.List.{list_any}
use Rattle.std.proofs.lemmas.List.{length-drop, nil_from_length}
use Rattle.tca_templates.specs.declared.template.FieldSpec.{FieldSpec}
use Rattle.tca_templates.specs.declared.layout.Spot.{Spot}
use Rattle.tca_templates.specs.declared.layout.Spots.{Spots}
use Rattle.tca_templates.specs.declared.layout.Choice.{Choice}
use Rattle.tca_templates.specs.Records.{field_at}
use Rattle.tca_templates.specs.Chosen.{is_field_of, chosen_of}
use Rattle.tca_templates.specs.inside.Layouts.{spot_in, fixed_spot, are_fixed, spot_of, spot_if, spots_of, spots_with, layout_of}
use Rattle.tca_templates.proofs.Fields.{blank}

-- choosing an element
pub chosen_here : (es : List ℕ) (specs : List FieldSpec) (i : ℕ) → i < length es → list_any (is_field_of (get_or es i 0)) specs ≡ true → chosen_of (drop i es) specs ≡ Some (get_or es i 0)
unfolding chosen_of
chosen_here es specs i lt e =
    ap (λ (l : List ℕ). chosen_of l specs) (drop-cons es i 0 lt)
    ∙ ap (λ b. cond b (Some (get_or es i 0)) (chosen_of (drop (suc i) es) specs)) e

pub chosen_next : (es : List ℕ) (specs : List FieldSpec) (i : ℕ) → i < length es → list_any (is_field_of (get_or es i 0)) specs ≡ false → chosen_of (drop i es) specs ≡ chosen_of (drop (i + 1) es) specs
unfolding chosen_of
chosen_next es specs i lt e =
    rw (add-one)
    (ap (λ (l : List ℕ). chosen_of l specs) (drop-cons es i 0 lt)
    ∙ ap (λ b. cond b (Some (get_or es i 0)) (chosen_of (drop (suc i) es) specs)) e)

pub chosen_nowhere : (es : List ℕ) (specs : List FieldSpec) (i : ℕ) → length es ≤ i → chosen_of (drop i es) specs ≡ None
unfolding chosen_of
chosen_nowhere es specs i le = ap (λ (l : List ℕ). chosen_of l specs) (nil_from_length (drop i es) (omega (arith, length-drop i es)))

-- a spot with one field more
slot_more : (slot : Option Spot) (chosen : Option ℕ) (s : FieldSpec) (at size : ℕ) (places more : ℕ → Option (ℕ × ℕ))
    → ((e : ℕ) → places e ≡ cond (is_field_of e s) (Some (at, size)) (more e))
    → option_or (option_or slot (spot_if chosen s at size)) (spot_of chosen more) ≡ option_or slot (spot_of chosen places)
slot_more (Some x) chosen s at size places more h = refl
slot_more None None s at size places more h = refl
slot_more None (Some e) s at size places more h = go (is_field_of e s) ∙ ap (option_map (λ (p : ℕ × ℕ). record { element = e; at = p.0; length = p.1 })) (sym (h e))
  where
    go : (b : Bool) → option_or (cond b (Some (record { element = e; at = at; length = size })) None) (spot_of (Some e) more)
        ≡ option_map (λ (p : ℕ × ℕ). record { element = e; at = p.0; length = p.1 }) (cond b (Some (at, size)) (more e))
    go true = refl
    go false = refl

slot_whole : (slot : Option Spot) (chosen : Option ℕ) (places : ℕ → Option (ℕ × ℕ)) → ((e : ℕ) → places e ≡ None) → option_or slot (spot_of chosen places) ≡ slot
slot_whole (Some x) chosen places h = refl
slot_whole None None places h = refl
slot_whole None (Some e) places h = ap (option_map (λ (p : ℕ × ℕ). record { element = e; at = p.0; length = p.1 })) (h e)

abbrev pub field_spots : Choice → FieldSpec → ℕ → ℕ → Spots
field_spots c s at size = record {
  time = spot_if c.time s at size;
  size = spot_if c.size s at size;
  code_point = spot_if c.code_point s at size;
  interface = spot_if c.interface s at size;
  section = spot_if c.section s at size;
}

module _ (spots : Spots) (c : Choice) (s : FieldSpec) (at size : ℕ) (places more : ℕ → Option (ℕ × ℕ)) where
  spots_more : ((e : ℕ) → places e ≡ cond (is_field_of e s) (Some (at, size)) (more e))
      → spots_with (spots_with spots (field_spots c s at size)) (spots_of c more)
      ≡ spots_with spots (spots_of c places)
  spots_more h =
      let t = slot_more spots.time c.time s at size places more h in
      let z = slot_more spots.size c.size s at size places more h in
      let p = slot_more spots.code_point c.code_point s at size places more h in
      let i = slot_more spots.interface c.interface s at size places more h in
      let n = slot_more spots.section c.section s at size places more h in
      λ j. record { time = t j; size = z j; code_point = p j; interface = i j; section = n j }

spots_whole : (spots : Spots) (c : Choice) (places : ℕ → Option (ℕ × ℕ)) → ((e : ℕ) → places e ≡ None) → spots_with spots (spots_of c places) ≡ spots
spots_whole spots c places h =
    let t = slot_whole spots.time c.time places h in
    let z = slot_whole spots.size c.size places h in
    let p = slot_whole spots.code_point c.code_point places h in
    let i = slot_whole spots.interface c.interface places h in
    let n = slot_whole spots.section c.section places h in
    λ j. record { time = t j; size = z j; code_point = p j; interface = i j; section = n j }

-- fields that have lengths of their own
pub fixed_more : (spots : Spots) (c : Choice) (specs : List FieldSpec) (i used : ℕ) → i < length specs
    → spots_with (spots_with spots (field_spots c (get_or specs i blank) used (get_or specs i blank).length)) (spots_of c (λ e. fixed_spot e (used + (get_or specs i blank).length) (drop (i + 1) specs)))
    ≡ spots_with spots (spots_of c (λ e. fixed_spot e used (drop i specs)))
unfolding fixed_spot
fixed_more spots c specs i used lt =
    rw (add-one)
    (spots_more spots c (get_or specs i blank) used (get_or specs i blank).length (λ e. fixed_spot e used (drop i specs))
    (λ e. fixed_spot e (used + (get_or specs i blank).length) (drop (suc i) specs))
    (λ e. ap (λ (l : List FieldSpec). fixed_spot e used l) (drop-cons specs i blank lt)))

pub fixed_end : (spots : Spots) (c : Choice) (specs : List FieldSpec) (i used : ℕ) → length specs ≤ i → spots_with spots (spots_of c (λ e. fixed_spot e used (drop i specs))) ≡ spots
unfolding fixed_spot
fixed_end spots c specs i used le =
    spots_whole spots c (λ e. fixed_spot e used (drop i specs)) (λ e. ap (λ (l : List FieldSpec). fixed_spot e used l) (nil_from_length (drop i specs) (omega (arith, length-drop i specs))))

-- fields with the octets that they have
pub found_more : (spots : Spots) (c : Choice) (specs : List FieldSpec) (i used : ℕ) (octets : List ℕ) (x : ℕ × ℕ) → i < length specs → field_at (get_or specs i blank).length octets ≡ Some x
    → spots_with (spots_with spots (field_spots c (get_or specs i blank) (used + x.0) x.1)) (spots_of c (λ e. spot_in e (used + (x.0 + x.1)) (drop (i + 1) specs) (drop (x.0 + x.1) octets)))
    ≡ spots_with spots (spots_of c (λ e. spot_in e used (drop i specs) octets))
unfolding spot_in
found_more spots c specs i used octets x lt here =
    rw (add-one)
    (spots_more spots c (get_or specs i blank) (used + x.0) x.1 (λ e. spot_in e used (drop i specs) octets)
    (λ e. spot_in e (used + (x.0 + x.1)) (drop (suc i) specs) (drop (x.0 + x.1) octets))
    (λ e. ap (λ (l : List FieldSpec). spot_in e used l octets) (drop-cons specs i blank lt) ∙ next e (get_or specs i blank) (drop (suc i) specs) here))
  where
    next : (e : ℕ) (s : FieldSpec) (ss : List FieldSpec) → field_at s.length octets ≡ Some x
        → spot_in e used (s ∷ ss) octets ≡ cond (is_field_of e s) (Some (used + x.0, x.1)) (spot_in e (used + (x.0 + x.1)) ss (drop (x.0 + x.1) octets))
    next e s ss h =
        let F : Option (ℕ × ℕ) → Option (ℕ × ℕ) = λ o. elim o [
          | None ↦ None
          | Some x ↦ cond (is_field_of e s) (Some (used + x.0, x.1)) (spot_in e (used + (x.0 + x.1)) ss (drop (x.0 + x.1) octets))
        ] in
        ap F h

pub found_end : (spots : Spots) (c : Choice) (specs : List FieldSpec) (i used : ℕ) (octets : List ℕ) → length specs ≤ i → spots_with spots (spots_of c (λ e. spot_in e used (drop i specs) octets)) ≡ spots
unfolding spot_in
found_end spots c specs i used octets le =
    spots_whole spots c (λ e. spot_in e used (drop i specs) octets) (λ e. ap (λ (l : List FieldSpec). spot_in e used l octets) (nil_from_length (drop i specs) (omega (arith, length-drop i specs))))

-- whether all are fixed
pub fixed_here : (specs : List FieldSpec) (i : ℕ) → i < length specs → (get_or specs i blank).length ≡ 65535 → are_fixed (drop i specs) ≡ false
unfolding are_fixed
fixed_here specs i lt e =
    ap are_fixed (drop-cons specs i blank lt) ∙ ap (λ n. not (n == 65535) && are_fixed (drop (suc i) specs)) e

pub fixed_next : (specs : List FieldSpec) (i : ℕ) → i < length specs → (get_or specs i blank).length ≢ 65535 → are_fixed (drop i specs) ≡ are_fixed (drop (i + 1) specs)
unfolding are_fixed
fixed_next specs i lt ne =
    rw (add-one)
    (ap are_fixed (drop-cons specs i blank lt)
    ∙ ap (λ b. not b && are_fixed (drop (suc i) specs)) (no_number (get_or specs i blank).length ne))
  where
    no_number : (n : ℕ) → n ≢ 65535 → (n == 65535) ≡ false
    no_number n h = grind (arith, nat_tests, h)

pub fixed_all : (specs : List FieldSpec) (i : ℕ) → length specs ≤ i → are_fixed (drop i specs) ≡ true
unfolding are_fixed
fixed_all specs i le = ap are_fixed (nil_from_length (drop i specs) (omega (arith, length-drop i specs)))

pub laid_so : (c : Choice) (specs : List FieldSpec) → are_fixed specs ≡ true → layout_of c specs ≡ Some (spots_of c (λ e. fixed_spot e 0 specs))
laid_so c specs e = ap (λ b. cond b (Some (spots_of c (λ e. fixed_spot e 0 specs))) None) e

pub laid_not : (c : Choice) (specs : List FieldSpec) → are_fixed specs ≡ false → layout_of c specs ≡ None
laid_not c specs e = ap (λ b. cond b (Some (spots_of c (λ e. fixed_spot e 0 specs))) None) e
