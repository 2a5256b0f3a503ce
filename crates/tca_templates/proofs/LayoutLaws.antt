-- What stands in the spots that were found: the chosen fields of the record.
use Rattle.std.proofs.Common.{◌≡◌, ℕ, ◌+◌, ◌≤◌, Bool, true, false, cond, List, [], ◌∷◌, ◌++◌, length, take, drop, Option, Some, None, refl, sym, ap, ap₂, subst, ◌∙◌, arith}
use Rattle.std.specs.Prelude.{◌==◌, ◌&&◌, ◌||◌, not, nat_lt, slice_index, option_map, IfSome}
use Rattle.byteorder.specs.Endian.{big_number}
use Rattle.std.specs.Option.{is_none, is_some, option_or}
use Rattle.std.specs.List.{list_any}
use Rattle.std.proofs.lemmas.Bool.Decides.{nat_tests}
use Rattle.std.proofs.lemmas.List.{length-drop, drop-drop}
use Rattle.tca_templates.specs.declared.template.FieldSpec.{FieldSpec}
use Rattle.tca_templates.specs.declared.layout.Spot.{Spot}
use Rattle.tca_templates.specs.Templates.{least_of, shortest_of}
use Rattle.tca_templates.specs.Records.{FieldView, fits, field_at, fields_on}
use Rattle.tca_templates.specs.declared.layout.Spots.{Spots}
use Rattle.tca_templates.specs.declared.layout.Choice.{Choice}
use Rattle.tca_templates.specs.Chosen.{times, sizes, code_points, interfaces, sections, first, choice, is_field_of, chosen_of}
use Rattle.tca_templates.specs.inside.Layouts.{spot_in, fixed_spot, are_fixed, spot_of, spots_of, choice_of, value_in, fields_or, fields_in, IsLaidOut, IsFound}
use Rattle.tca_templates.proofs.Choices.{same_some}
use Rattle.tca_templates.proofs.Fields.{field_of, field_holds, fields_next, fields_cut, fields_done}

-- the steps of a search for one element
pub spot_next : (e used : ℕ) (s : FieldSpec) (ss : List FieldSpec) (octets : List ℕ) (x : ℕ × ℕ) → field_at s.length octets ≡ Some x
    → spot_in e used (s ∷ ss) octets ≡ cond (is_field_of e s) (Some (used + x.0, x.1)) (spot_in e (used + (x.0 + x.1)) ss (drop (x.0 + x.1) octets))
unfolding spot_in
spot_next e used s ss octets x h =
    let F : Option (ℕ × ℕ) → Option (ℕ × ℕ) = λ o. elim o [
      | None ↦ None
      | Some x ↦ cond (is_field_of e s) (Some (used + x.0, x.1)) (spot_in e (used + (x.0 + x.1)) ss (drop (x.0 + x.1) octets))
    ] in
    ap F h

pub spot_cut : (e used : ℕ) (s : FieldSpec) (ss : List FieldSpec) (octets : List ℕ) → field_at s.length octets ≡ None → spot_in e used (s ∷ ss) octets ≡ None
unfolding spot_in
spot_cut e used s ss octets h =
    let F : Option (ℕ × ℕ) → Option (ℕ × ℕ) = λ o. elim o [
      | None ↦ None
      | Some x ↦ cond (is_field_of e s) (Some (used + x.0, x.1)) (spot_in e (used + (x.0 + x.1)) ss (drop (x.0 + x.1) octets))
    ] in
    ap F h

spot_done : (e used : ℕ) (octets : List ℕ) → spot_in e used [] octets ≡ None
unfolding spot_in
spot_done e used octets = refl

-- the first field of an element among fields in two parts
first_front : (e : ℕ) (front more : List FieldView) (v : List ℕ) → first e front ≡ Some v → first e (front ++ more) ≡ Some v
unfolding first
first_front e [] more v h = absurd cc
first_front e (f ∷ fs) more v h = go (first_front e fs more v) (is_none f.enterprise && (f.element == e)) h
  where
    go : (first e fs ≡ Some v → first e (fs ++ more) ≡ Some v) → (b : Bool) → cond b (Some f.value) (first e fs) ≡ Some v → cond b (Some f.value) (first e (fs ++ more)) ≡ Some v
    go others true h = h
    go others false h = others h

first_behind : (e : ℕ) (front : List FieldView) (f : FieldView) → first e front ≡ None → first e (front ++ f ∷ []) ≡ cond (is_none f.enterprise && (f.element == e)) (Some f.value) None
unfolding first
first_behind e [] f h = refl
first_behind e (g ∷ gs) f h = go (first_behind e gs f) (is_none g.enterprise && (g.element == e)) h
  where
    go : (first e gs ≡ None → first e (gs ++ f ∷ []) ≡ cond (is_none f.enterprise && (f.element == e)) (Some f.value) None)
        → (b : Bool) → cond b (Some g.value) (first e gs) ≡ None → cond b (Some g.value) (first e (gs ++ f ∷ [])) ≡ cond (is_none f.enterprise && (f.element == e)) (Some f.value) None
    go others true h = absurd cc
    go others false h = others h

-- what was found stays found
first_kept : (e : ℕ) (front : List FieldView) (used : ℕ) (specs : List FieldSpec) (octets : List ℕ) (all : List FieldView) (n : ℕ) (v : List ℕ)
    → fields_on front used specs octets ≡ Some (all, n) → first e front ≡ Some v → first e all ≡ Some v
first_kept e front used [] octets all n v read found =
    let done : List FieldView × ℕ = (front, used) in
    let given : List FieldView × ℕ = (all, n) in
    let same = same_some done given (sym (fields_done front used octets) ∙ read) in
    ap (λ (p : List FieldView × ℕ). first e p.0) (sym same) ∙ found
first_kept e front used (s ∷ ss) octets all n v read found = go (λ more u rest r f. first_kept e more u ss rest all n v r f) (field_at s.length octets) refl
  where
    go : ((more : List FieldView) (u : ℕ) (rest : List ℕ) → fields_on more u ss rest ≡ Some (all, n) → first e more ≡ Some v → first e all ≡ Some v)
        → (o : Option (ℕ × ℕ)) → field_at s.length octets ≡ o → first e all ≡ Some v
    go kept None o =
        let given : List FieldView × ℕ = (all, n) in
        let bad : None ≡ Some given = sym (fields_cut front used s ss octets o) ∙ read in
        absurd cc
    go kept (Some x) o =
        kept (front ++ field_of s x octets ∷ []) (used + (x.0 + x.1)) (drop (x.0 + x.1) octets) (sym (fields_next front used s ss octets x o) ∙ read)
        (first_front e front (field_of s x octets ∷ []) v found)

abbrev value_there : List ℕ → ℕ × ℕ → List ℕ
value_there octets p = take p.1 (drop p.0 octets)

-- the first field of an element stands in the spot that is found for it
first_there : (e : ℕ) (whole : List ℕ) (front : List FieldView) (used : ℕ) (specs : List FieldSpec) (all : List FieldView) (n : ℕ)
    → fields_on front used specs (drop used whole) ≡ Some (all, n) → first e front ≡ None
    → first e all ≡ option_map (value_there whole) (spot_in e used specs (drop used whole))
first_there e whole front used [] all n read none =
    let done : List FieldView × ℕ = (front, used) in
    let given : List FieldView × ℕ = (all, n) in
    let same = same_some done given (sym (fields_done front used (drop used whole)) ∙ read) in
    ap (λ (p : List FieldView × ℕ). first e p.0) (sym same) ∙ none ∙ ap (option_map (value_there whole)) (sym (spot_done e used (drop used whole)))
first_there e whole front used (s ∷ ss) all n read none = go (λ more u r f. first_there e whole more u ss all n r f) (field_at s.length (drop used whole)) refl
  where
    rest : List ℕ
    rest = drop used whole

    go : ((more : List FieldView) (u : ℕ) → fields_on more u ss (drop u whole) ≡ Some (all, n) → first e more ≡ None
        → first e all ≡ option_map (value_there whole) (spot_in e u ss (drop u whole)))
        → (o : Option (ℕ × ℕ)) → field_at s.length rest ≡ o → first e all ≡ option_map (value_there whole) (spot_in e used (s ∷ ss) rest)
    go others None o =
        let given : List FieldView × ℕ = (all, n) in
        let bad : None ≡ Some given = sym (fields_cut front used s ss rest o) ∙ read in
        absurd cc
    go others (Some x) o =
        let on : fields_on (front ++ field_of s x rest ∷ []) (used + (x.0 + x.1)) ss (drop (x.0 + x.1) rest) ≡ Some (all, n) = sym (fields_next front used s ss rest x o) ∙ read in
        case others x on (is_field_of e s) refl
        ∙ ap (option_map (value_there whole)) (sym (spot_next e used s ss rest x o))
      where
        case : ((more : List FieldView) (u : ℕ) → fields_on more u ss (drop u whole) ≡ Some (all, n) → first e more ≡ None
            → first e all ≡ option_map (value_there whole) (spot_in e u ss (drop u whole)))
            → (x : ℕ × ℕ) → fields_on (front ++ field_of s x rest ∷ []) (used + (x.0 + x.1)) ss (drop (x.0 + x.1) rest) ≡ Some (all, n)
            → (b : Bool) → is_field_of e s ≡ b
            → first e all ≡ option_map (value_there whole) (cond (is_field_of e s) (Some (used + x.0, x.1)) (spot_in e (used + (x.0 + x.1)) ss (drop (x.0 + x.1) rest)))
        case others x on true is =
            let here : take x.1 (drop x.0 rest) ≡ value_there whole (used + x.0, x.1) = ap (take x.1) (drop-drop x.0 used whole) in
            let found = first_behind e front (field_of s x rest) none ∙ ap (λ b. cond b (Some (take x.1 (drop x.0 rest))) None) is in
            first_kept e (front ++ field_of s x rest ∷ []) (used + (x.0 + x.1)) ss (drop (x.0 + x.1) rest) all n (take x.1 (drop x.0 rest)) on found
            ∙ ap (λ (v : List ℕ). Some v) here
            ∙ ap (λ b. option_map (value_there whole) (cond b (Some (used + x.0, x.1)) (spot_in e (used + (x.0 + x.1)) ss (drop (x.0 + x.1) rest)))) (sym is)
        case others x on false is =
            let behind : drop (x.0 + x.1) rest ≡ drop (used + (x.0 + x.1)) whole = drop-drop (x.0 + x.1) used whole in
            let none_yet = first_behind e front (field_of s x rest) none ∙ ap (λ b. cond b (Some (take x.1 (drop x.0 rest))) None) is in
            let all_on = ap (λ l. fields_on (front ++ field_of s x rest ∷ []) (used + (x.0 + x.1)) ss l) (sym behind) ∙ on in
            others (front ++ field_of s x rest ∷ []) (used + (x.0 + x.1)) all_on none_yet
            ∙ ap (λ l. option_map (value_there whole) (spot_in e (used + (x.0 + x.1)) ss l)) (sym behind)
            ∙ ap (λ b. option_map (value_there whole) (cond b (Some (used + x.0, x.1)) (spot_in e (used + (x.0 + x.1)) ss (drop (x.0 + x.1) rest)))) (sym is)

-- an element that a template doesn't have stands nowhere
spot_absent : (e used : ℕ) (specs : List FieldSpec) (octets : List ℕ) → list_any (is_field_of e) specs ≡ false → spot_in e used specs octets ≡ None
spot_absent e used [] octets none = spot_done e used octets
spot_absent e used (s ∷ ss) octets none = go (λ u rest h. spot_absent e u ss rest h) (field_at s.length octets) refl (is_field_of e s) refl none
  where
    go : ((u : ℕ) (rest : List ℕ) → list_any (is_field_of e) ss ≡ false → spot_in e u ss rest ≡ None)
        → (o : Option (ℕ × ℕ)) → field_at s.length octets ≡ o → (b : Bool) → is_field_of e s ≡ b → (b || list_any (is_field_of e) ss) ≡ false → spot_in e used (s ∷ ss) octets ≡ None
    go others None o b is h = spot_cut e used s ss octets o
    go others (Some x) o true is h = absurd cc
    go others (Some x) o false is h =
        spot_next e used s ss octets x o
        ∙ ap (λ b. cond b (Some (used + x.0, x.1)) (spot_in e (used + (x.0 + x.1)) ss (drop (x.0 + x.1) octets))) is
        ∙ others (used + (x.0 + x.1)) (drop (x.0 + x.1) octets) h

-- and one that it has stands somewhere in a whole record
spot_present : (e used : ℕ) (specs : List FieldSpec) (octets : List ℕ) (front : List FieldView) (y : List FieldView × ℕ)
    → list_any (is_field_of e) specs ≡ true → fields_on front used specs octets ≡ Some y → (p : ℕ × ℕ) × (spot_in e used specs octets ≡ Some p)
spot_present e used [] octets front y some read = absurd cc
spot_present e used (s ∷ ss) octets front y some read = go (λ u rest more h r. spot_present e u ss rest more y h r) (field_at s.length octets) refl (is_field_of e s) refl some
  where
    go : ((u : ℕ) (rest : List ℕ) (more : List FieldView) → list_any (is_field_of e) ss ≡ true → fields_on more u ss rest ≡ Some y → (p : ℕ × ℕ) × (spot_in e u ss rest ≡ Some p))
        → (o : Option (ℕ × ℕ)) → field_at s.length octets ≡ o → (b : Bool) → is_field_of e s ≡ b → (b || list_any (is_field_of e) ss) ≡ true
        → (p : ℕ × ℕ) × (spot_in e used (s ∷ ss) octets ≡ Some p)
    go others None o b is h =
        let bad : None ≡ Some y = sym (fields_cut front used s ss octets o) ∙ read in
        absurd cc
    go others (Some x) o true is h =
        ((used + x.0, x.1), spot_next e used s ss octets x o ∙ ap (λ b. cond b (Some (used + x.0, x.1)) (spot_in e (used + (x.0 + x.1)) ss (drop (x.0 + x.1) octets))) is)
    go others (Some x) o false is h =
        let more = others (used + (x.0 + x.1)) (drop (x.0 + x.1) octets) (front ++ field_of s x octets ∷ []) h (sym (fields_next front used s ss octets x o) ∙ read) in
        (more.0, spot_next e used s ss octets x o ∙ ap (λ b. cond b (Some (used + x.0, x.1)) (spot_in e (used + (x.0 + x.1)) ss (drop (x.0 + x.1) octets))) is ∙ more.1)

first_none : (e : ℕ) → first e [] ≡ None
unfolding first
first_none e = refl

-- What the chosen element's spot holds is the choice among the record's fields.
pub picked : (es : List ℕ) (specs : List FieldSpec) (octets : List ℕ) (fs : List FieldView) (n : ℕ) → fields_on [] 0 specs octets ≡ Some (fs, n)
    → value_in octets (spot_of (chosen_of es specs) (λ e. spot_in e 0 specs octets)) ≡ choice es fs
unfolding choice chosen_of
picked [] specs octets fs n read = refl
picked (e ∷ es) specs octets fs n read = go (picked es specs octets fs n read) (list_any (is_field_of e) specs) refl
  where
    there : first e fs ≡ option_map (value_there octets) (spot_in e 0 specs octets)
    there = first_there e octets [] 0 specs fs n read (first_none e)

    go : value_in octets (spot_of (chosen_of es specs) (λ e. spot_in e 0 specs octets)) ≡ choice es fs → (b : Bool) → list_any (is_field_of e) specs ≡ b
        → value_in octets (spot_of (cond b (Some e) (chosen_of es specs)) (λ e. spot_in e 0 specs octets)) ≡ option_or (option_map (λ v. (e, v)) (first e fs)) (choice es fs)
    go others true is =
        let p = spot_present e 0 specs octets [] (fs, n) is read in
        ap (λ (o : Option (ℕ × ℕ)). value_in octets (option_map (λ (p : ℕ × ℕ). record { element = e; at = p.0; length = p.1 }) o)) p.1
        ∙ ap (λ (o : Option (List ℕ)). option_or (option_map (λ v. (e, v)) o) (choice es fs)) (sym (there ∙ ap (option_map (value_there octets)) p.1))
    go others false is =
        others
        ∙ ap (λ (o : Option (List ℕ)). option_or (option_map (λ v. (e, v)) o) (choice es fs)) (sym (there ∙ ap (option_map (value_there octets)) (spot_absent e 0 specs octets is)))

-- a spot lies within the record's octets
pub spot_within : (e used : ℕ) (specs : List FieldSpec) (octets : List ℕ) (p : ℕ × ℕ) → spot_in e used specs octets ≡ Some p → p.0 + p.1 ≤ used + length octets
spot_within e used [] octets p h = let bad : None ≡ Some p = sym (spot_done e used octets) ∙ h in absurd cc
spot_within e used (s ∷ ss) octets p h = go (λ u rest k. spot_within e u ss rest p k) (field_at s.length octets) refl (is_field_of e s) refl
  where
    go : ((u : ℕ) (rest : List ℕ) → spot_in e u ss rest ≡ Some p → p.0 + p.1 ≤ u + length rest)
        → (o : Option (ℕ × ℕ)) → field_at s.length octets ≡ o → (b : Bool) → is_field_of e s ≡ b → p.0 + p.1 ≤ used + length octets
    go others None o b is = let bad : None ≡ Some p = sym (spot_cut e used s ss octets o) ∙ h in absurd cc
    go others (Some x) o true is =
        let found : ℕ × ℕ = (used + x.0, x.1) in
        let same : found ≡ p = same_some found p (ap (λ b. cond b (Some found) (spot_in e (used + (x.0 + x.1)) ss (drop (x.0 + x.1) octets))) (sym is) ∙ sym (spot_next e used s ss octets x o) ∙ h) in
        let at : used + x.0 ≡ p.0 = ap (λ (q : ℕ × ℕ). q.0) same in
        let size : x.1 ≡ p.1 = ap (λ (q : ℕ × ℕ). q.1) same in
        omega (arith, at, size, (field_holds s octets x o).0)
    go others (Some x) o false is =
        let more = others (used + (x.0 + x.1)) (drop (x.0 + x.1) octets)
        (ap (λ b. cond b (Some (used + x.0, x.1)) (spot_in e (used + (x.0 + x.1)) ss (drop (x.0 + x.1) octets))) (sym is) ∙ sym (spot_next e used s ss octets x o) ∙ h) in
        omega (arith, more, (field_holds s octets x o).0, length-drop (x.0 + x.1) octets)

-- a field that has a length of its own
pub fixed_at : (s : FieldSpec) (octets : List ℕ) → (s.length == 65535) ≡ false → s.length ≤ length octets → field_at s.length octets ≡ Some (0, s.length)
fixed_at s octets own le =
    ap (λ b. cond b
    (cond (length octets == 0) None
    (cond (nat_lt (slice_index octets 0) 255) (fits octets 1 (slice_index octets 0))
    (cond (nat_lt (length octets) 3) None (fits octets 3 (big_number 2 (drop 1 octets))))))
    (fits octets 0 s.length)) own
    ∙ ap (λ b. cond b None (Some (0, s.length))) (no_less (length octets) (0 + s.length) (omega (arith, le)))
  where
    no_less : (m n : ℕ) → n ≤ m → nat_lt m n ≡ false
    no_less m n h = grind (arith, nat_tests, h)

least_own : (s : FieldSpec) → (s.length == 65535) ≡ false → least_of s ≡ s.length
least_own s own = ap (λ b. cond b 1 s.length) own

both : (a b : Bool) → (not a && b) ≡ true → (a ≡ false) × (b ≡ true)
both true b h = absurd cc
both false b h = (refl, h)

-- Where no field has a variable length each stands at the same place in every record.
pub same_spots : (e used : ℕ) (specs : List FieldSpec) (octets : List ℕ) → are_fixed specs ≡ true → shortest_of specs ≤ length octets → spot_in e used specs octets ≡ fixed_spot e used specs
unfolding are_fixed fixed_spot
same_spots e used [] octets fixed le = spot_done e used octets
same_spots e used (s ∷ ss) octets fixed le =
    let f = both (s.length == 65535) (are_fixed ss) fixed in
    let least = least_own s f.0 in
    let fits_it = fixed_at s octets f.0 (omega (arith, le, least)) in
    let no_more : used + (0 + s.length) ≡ used + s.length = omega arith in
    let more = same_spots e (used + (0 + s.length)) ss (drop (0 + s.length) octets) f.1 (omega (arith, le, least, length-drop (0 + s.length) octets)) in
    spot_next e used s ss octets (0, s.length) fits_it
    ∙ ap₂ (λ (n : ℕ) (o : Option (ℕ × ℕ)). cond (is_field_of e s) (Some (n, s.length)) o) (omega arith)
    (more ∙ ap (λ (n : ℕ). fixed_spot e n ss) no_more)

-- and every record has as many octets as the shortest
pub fixed_whole : (front : List FieldView) (used : ℕ) (specs : List FieldSpec) (octets : List ℕ) → are_fixed specs ≡ true → shortest_of specs ≤ length octets
    → (fs : List FieldView) × (fields_on front used specs octets ≡ Some (fs, used + shortest_of specs))
unfolding are_fixed
fixed_whole front used [] octets fixed le = (front, fields_done front used octets ∙ ap (λ (n : ℕ). Some (front, n)) (omega arith))
fixed_whole front used (s ∷ ss) octets fixed le =
    let f = both (s.length == 65535) (are_fixed ss) fixed in
    let least = least_own s f.0 in
    let fits_it = fixed_at s octets f.0 (omega (arith, le, least)) in
    let more = fixed_whole (front ++ field_of s (0, s.length) octets ∷ []) (used + (0 + s.length)) ss (drop (0 + s.length) octets) f.1 (omega (arith, le, least, length-drop (0 + s.length) octets)) in
    (more.0, fields_next front used s ss octets (0, s.length) fits_it ∙ more.1 ∙ ap (λ (n : ℕ). Some (more.0, n)) (omega (arith, least)))

spot_bound : (chosen : Option ℕ) (specs : List FieldSpec) (octets : List ℕ) (spot : Option Spot) → spot ≡ spot_of chosen (λ e. spot_in e 0 specs octets) → IfSome spot (λ s. s.at + s.length ≤ length octets)
spot_bound None specs octets spot h = subst (λ (o : Option Spot). IfSome o (λ s. s.at + s.length ≤ length octets)) (sym h) tt
spot_bound (Some e) specs octets spot h = go (spot_in e 0 specs octets) refl h
  where
    go : (o : Option (ℕ × ℕ)) → spot_in e 0 specs octets ≡ o → spot ≡ option_map (λ (p : ℕ × ℕ). record { element = e; at = p.0; length = p.1 }) o → IfSome spot (λ s. s.at + s.length ≤ length octets)
    go None there h = subst (λ (o : Option Spot). IfSome o (λ s. s.at + s.length ≤ length octets)) (sym h) tt
    go (Some p) there h =
        let within : p.0 + p.1 ≤ length octets = omega (arith, spot_within e 0 specs octets p there) in
        subst (λ (o : Option Spot). IfSome o (λ s. s.at + s.length ≤ length octets)) (sym h) within

value_is : (es : List ℕ) (specs : List FieldSpec) (octets : List ℕ) (spot : Option Spot) → is_some (fields_on [] 0 specs octets) ≡ true
    → spot ≡ spot_of (chosen_of es specs) (λ e. spot_in e 0 specs octets) → value_in octets spot ≡ choice es (fields_in specs octets)
value_is es specs octets spot whole h = go (fields_on [] 0 specs octets) refl whole
  where
    go : (o : Option (List FieldView × ℕ)) → fields_on [] 0 specs octets ≡ o → is_some o ≡ true → value_in octets spot ≡ choice es (fields_in specs octets)
    go None read w = absurd cc
    go (Some x) read w = ap (value_in octets) h ∙ picked es specs octets x.0 x.1 read ∙ ap (λ (o : Option (List FieldView × ℕ)). choice es (fields_or o)) (sym read)

-- each of a record's spots lies within its octets, and holds the choice
module _ (specs : List FieldSpec) (spots : Spots) (octets : List ℕ) (found : IsFound specs spots octets) where
  pub time_within : IfSome spots.time (λ s. s.at + s.length ≤ length octets)
  time_within = spot_bound _ specs octets spots.time (ap (λ (s : Spots). s.time) found.spots_are)

  pub size_within : IfSome spots.size (λ s. s.at + s.length ≤ length octets)
  size_within = spot_bound _ specs octets spots.size (ap (λ (s : Spots). s.size) found.spots_are)

  pub code_point_within : IfSome spots.code_point (λ s. s.at + s.length ≤ length octets)
  code_point_within = spot_bound _ specs octets spots.code_point (ap (λ (s : Spots). s.code_point) found.spots_are)

  pub interface_within : IfSome spots.interface (λ s. s.at + s.length ≤ length octets)
  interface_within = spot_bound _ specs octets spots.interface (ap (λ (s : Spots). s.interface) found.spots_are)

  pub section_within : IfSome spots.section (λ s. s.at + s.length ≤ length octets)
  section_within = spot_bound _ specs octets spots.section (ap (λ (s : Spots). s.section) found.spots_are)

  pub time_is : value_in octets spots.time ≡ choice times (fields_in specs octets)
  time_is = value_is times specs octets spots.time found.whole (ap (λ (s : Spots). s.time) found.spots_are)

  pub size_is : value_in octets spots.size ≡ choice sizes (fields_in specs octets)
  size_is = value_is sizes specs octets spots.size found.whole (ap (λ (s : Spots). s.size) found.spots_are)

  pub code_point_is : value_in octets spots.code_point ≡ choice code_points (fields_in specs octets)
  code_point_is = value_is code_points specs octets spots.code_point found.whole (ap (λ (s : Spots). s.code_point) found.spots_are)

  pub interface_is : value_in octets spots.interface ≡ choice interfaces (fields_in specs octets)
  interface_is = value_is interfaces specs octets spots.interface found.whole (ap (λ (s : Spots). s.interface) found.spots_are)

  pub section_is : value_in octets spots.section ≡ choice sections (fields_in specs octets)
  section_is = value_is sections specs octets spots.section found.whole (ap (λ (s : Spots). s.section) found.spots_are)

-- the record at the front
pub found_fixed : (c : Choice) (specs : List FieldSpec) (spots : Spots) (octets : List ℕ) → c ≡ choice_of specs → IsLaidOut c specs spots → shortest_of specs ≤ length octets → IsFound specs spots octets
found_fixed c specs spots octets chosen laid le =
    let whole = fixed_whole [] 0 specs octets laid.fixed le in
    record {
      whole = ap is_some whole.1;
      spots_are = laid.spots_are ∙ ap (λ (d : Choice). spots_of d (λ e. fixed_spot e 0 specs)) chosen
          ∙ (λ i. spots_of (choice_of specs) (λ e. sym (same_spots e 0 specs octets laid.fixed le) i));
    }

pub size_fixed : (specs : List FieldSpec) (octets : List ℕ) → are_fixed specs ≡ true → shortest_of specs ≤ length octets → fields_on [] 0 specs octets ≡ Some (fields_in specs octets, shortest_of specs)
size_fixed specs octets fixed le =
    let whole = fixed_whole [] 0 specs octets fixed le in
    whole.1 ∙ ap₂ (λ (fs : List FieldView) (n : ℕ). Some (fs, n)) (sym (ap fields_or whole.1)) (omega arith)

pub found_located : (c : Choice) (specs : List FieldSpec) (octets : List ℕ) (n : ℕ) (spots : Spots) → c ≡ choice_of specs → Some n ≡ option_map (λ x. x.1) (fields_on [] 0 specs octets)
    → spots ≡ spots_of c (λ e. spot_in e 0 specs octets) → IsFound specs spots octets
found_located c specs octets n spots chosen size are = record {
  whole = there (fields_on [] 0 specs octets) size;
  spots_are = are ∙ ap (λ (d : Choice). spots_of d (λ e. spot_in e 0 specs octets)) chosen;
}
  where
    there : (o : Option (List FieldView × ℕ)) → Some n ≡ option_map (λ x. x.1) o → is_some o ≡ true
    there None h = absurd cc
    there (Some x) h = refl

pub size_located : (specs : List FieldSpec) (octets : List ℕ) (n : ℕ) → Some n ≡ option_map (λ x. x.1) (fields_on [] 0 specs octets) → fields_on [] 0 specs octets ≡ Some (fields_in specs octets, n)
size_located specs octets n h = go (fields_on [] 0 specs octets) refl h
  where
    go : (o : Option (List FieldView × ℕ)) → fields_on [] 0 specs octets ≡ o → Some n ≡ option_map (λ x. x.1) o → fields_on [] 0 specs octets ≡ Some (fields_in specs octets, n)
    go None e h = absurd cc
    go (Some x) e h =
        let same : n ≡ x.1 = cc in
        e ∙ ap₂ (λ (fs : List FieldView) (m : ℕ). Some (fs, m)) (sym (ap fields_or e)) (sym same)

pub none_located : (specs : List FieldSpec) (octets : List ℕ) → None ≡ option_map (λ x. x.1) (fields_on [] 0 specs octets) → fields_on [] 0 specs octets ≡ None
none_located specs octets h = go (fields_on [] 0 specs octets) h
  where
    go : (o : Option (List FieldView × ℕ)) → None ≡ option_map (λ x. x.1) o → o ≡ None
    go None h = refl
    go (Some x) h = absurd cc
