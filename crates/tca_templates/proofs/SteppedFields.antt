-- A record is gone over by some of its fields: each of the others has no octets, and isn't the first of a chosen element.
use Rattle.std.proofs.Common.{◌≡◌, ℕ, zero, suc, ◌+◌, ◌<◌, ◌≤◌, Bool, true, false, cond, List, [], ◌∷◌, ◌++◌, length, drop, get_or, map, Option, Some, None, refl, sym, ap, ap₂, subst, ◌∙◌, arith, add-one, drop-cons, append_assoc}
use Rattle.std.specs.Prelude.{◌==◌, ◌||◌, not, option_map}
use Rattle.std.proofs.lemmas.Bool.Decides.{nat_tests}
use Rattle.std.proofs.lemmas.List.{length-drop, nil_from_length, append-nil}
use Rattle.tca_templates.specs.declared.template.FieldSpec.{FieldSpec}
use Rattle.tca_templates.specs.declared.layout.Choice.{Choice}
use Rattle.tca_templates.specs.Records.{FieldView, field_at, fields_on}
use Rattle.tca_templates.specs.Chosen.{is_field_of}
use Rattle.tca_templates.specs.inside.Layouts.{spot_in, spot_of, spots_of, is_of, left_of, is_chosen, left_by, is_step, steps_of}
use Rattle.tca_templates.proofs.Fields.{blank, field_of, fields_next, fields_cut}
use Rattle.tca_templates.proofs.Records.{size_alone}
use Rattle.tca_templates.proofs.LayoutLaws.{fixed_at, spot_next, spot_cut}

-- the fields themselves
unfoldable pub gone_over : Choice → List FieldSpec → List FieldSpec
gone_over c [] = []
gone_over c (s ∷ ss) = cond (is_step c s) (s ∷ gone_over (left_by c s) ss) (gone_over (left_by c s) ss)

neither : (a b : Bool) → (a || b) ≡ false → (a ≡ false) × (b ≡ false)
neither true b e = absurd cc
neither false b e = (refl, e)

-- a field that is left out
no_octets : (c : Choice) (s : FieldSpec) → is_step c s ≡ false → s.length ≡ 0
no_octets c s e = go s.length (neither (is_chosen c s) (not (s.length == 0)) e).1
  where
    go : (n : ℕ) → not (n == 0) ≡ false → n ≡ 0
    go n h = grind (arith, nat_tests, h)

nothing : (s : FieldSpec) (octets : List ℕ) → s.length ≡ 0 → field_at s.length octets ≡ Some (0, 0)
nothing s octets e =
    let pair : ℕ → Option (ℕ × ℕ) = λ n. Some (0, n) in
    fixed_at s octets (ap (λ n. n == 65535) e) (omega (arith, e)) ∙ ap pair e

abbrev size : Option (List FieldView × ℕ) → Option ℕ
size o = option_map (λ x. x.1) o

size_next : (used : ℕ) (s : FieldSpec) (ss : List FieldSpec) (octets : List ℕ) (x : ℕ × ℕ) → field_at s.length octets ≡ Some x
    → size (fields_on [] used (s ∷ ss) octets) ≡ size (fields_on [] (used + (x.0 + x.1)) ss (drop (x.0 + x.1) octets))
size_next used s ss octets x e =
    ap (λ o. size o) (fields_next [] used s ss octets x e) ∙ size_alone (field_of s x octets ∷ []) (used + (x.0 + x.1)) ss (drop (x.0 + x.1) octets)

-- how many octets a record has is known from them
pub same_size : (c : Choice) (specs : List FieldSpec) (used : ℕ) (octets : List ℕ)
    → option_map (λ x. x.1) (fields_on [] used (gone_over c specs) octets) ≡ option_map (λ x. x.1) (fields_on [] used specs octets)
unfolding gone_over
same_size c [] used octets = refl
same_size c (s ∷ ss) used octets = go (λ u rest. same_size (left_by c s) ss u rest) (is_step c s) refl (field_at s.length octets) refl
  where
    go : ((u : ℕ) (rest : List ℕ) → size (fields_on [] u (gone_over (left_by c s) ss) rest) ≡ size (fields_on [] u ss rest))
        → (b : Bool) → is_step c s ≡ b → (o : Option (ℕ × ℕ)) → field_at s.length octets ≡ o
        → size (fields_on [] used (cond b (s ∷ gone_over (left_by c s) ss) (gone_over (left_by c s) ss)) octets) ≡ size (fields_on [] used (s ∷ ss) octets)
    go others true is None o = ap (λ p. size p) (fields_cut [] used s (gone_over (left_by c s) ss) octets o ∙ sym (fields_cut [] used s ss octets o))
    go others true is (Some x) o =
        size_next used s (gone_over (left_by c s) ss) octets x o ∙ others (used + (x.0 + x.1)) (drop (x.0 + x.1) octets) ∙ sym (size_next used s ss octets x o)
    go others false is p o =
        let same : used + (0 + 0) ≡ used = omega arith in
        others used octets ∙ ap (λ n. size (fields_on [] n ss octets)) (sym same)
        ∙ sym (size_next used s ss octets (0, 0) (nothing s octets (no_octets c s is)))

-- where an element stands, as long as no field had it
module _ (chosen : Choice → Option ℕ) (moves : (c : Choice) (s : FieldSpec) → chosen (left_by c s) ≡ left_of (chosen c) s)
    (counts : (c : Choice) (s : FieldSpec) → is_of (chosen c) s ≡ true → is_chosen c s ≡ true) where
  same_spot : (c : Choice) (e : ℕ) → chosen c ≡ Some e → (specs : List FieldSpec) (used : ℕ) (octets : List ℕ) → spot_in e used (gone_over c specs) octets ≡ spot_in e used specs octets
  unfolding gone_over
  same_spot c e has [] used octets = refl
  same_spot c e has (s ∷ ss) used octets = go (λ left u rest. same_spot (left_by c s) e left ss u rest) (is_step c s) refl (field_at s.length octets) refl (is_field_of e s) refl
    where
      left : is_field_of e s ≡ false → chosen (left_by c s) ≡ Some e
      left none = moves c s ∙ ap (λ (o : Option ℕ). left_of o s) has ∙ ap (λ b. cond b None (Some e)) none

      both : (a b : Bool) → a ≡ true → (a || b) ≡ false → ⊥
      both true b t f = absurd cc
      both false b t f = absurd cc

      here : is_field_of e s ≡ true → is_chosen c s ≡ true
      here one = counts c s (ap (λ (o : Option ℕ). is_of o s) has ∙ one)

      go : (chosen (left_by c s) ≡ Some e → (u : ℕ) (rest : List ℕ) → spot_in e u (gone_over (left_by c s) ss) rest ≡ spot_in e u ss rest)
          → (b : Bool) → is_step c s ≡ b → (o : Option (ℕ × ℕ)) → field_at s.length octets ≡ o → (f : Bool) → is_field_of e s ≡ f
          → spot_in e used (cond b (s ∷ gone_over (left_by c s) ss) (gone_over (left_by c s) ss)) octets ≡ spot_in e used (s ∷ ss) octets
      go others true is None o f e_is = spot_cut e used s (gone_over (left_by c s) ss) octets o ∙ sym (spot_cut e used s ss octets o)
      go others true is (Some x) o true e_is =
          let found : List FieldSpec → Bool → Option (ℕ × ℕ) = λ fs b. cond b (Some (used + x.0, x.1)) (spot_in e (used + (x.0 + x.1)) fs (drop (x.0 + x.1) octets)) in
          spot_next e used s (gone_over (left_by c s) ss) octets x o ∙ ap (found (gone_over (left_by c s) ss)) e_is ∙ sym (ap (found ss) e_is) ∙ sym (spot_next e used s ss octets x o)
      go others true is (Some x) o false e_is =
          let found : List FieldSpec → Bool → Option (ℕ × ℕ) = λ fs b. cond b (Some (used + x.0, x.1)) (spot_in e (used + (x.0 + x.1)) fs (drop (x.0 + x.1) octets)) in
          spot_next e used s (gone_over (left_by c s) ss) octets x o ∙ ap (found (gone_over (left_by c s) ss)) e_is
          ∙ others (left e_is) (used + (x.0 + x.1)) (drop (x.0 + x.1) octets)
          ∙ sym (ap (found ss) e_is) ∙ sym (spot_next e used s ss octets x o)
      go others false is p o true e_is = absurd (both (is_chosen c s) (not (s.length == 0)) (here e_is) is)
      go others false is p o false e_is =
          let found : ℕ → Bool → Option (ℕ × ℕ) = λ n b. cond b (Some (used + 0, 0)) (spot_in e n ss octets) in
          let same : used + (0 + 0) ≡ used = omega arith in
          others (left e_is) used octets
          ∙ ap (λ n. spot_in e n ss octets) (sym same) ∙ sym (ap (found (used + (0 + 0))) e_is)
          ∙ sym (spot_next e used s ss octets (0, 0) (nothing s octets (no_octets c s is)))

same_one : (chosen : Option ℕ) (places more : ℕ → Option (ℕ × ℕ)) → ((e : ℕ) → chosen ≡ Some e → places e ≡ more e) → spot_of chosen places ≡ spot_of chosen more
same_one None places more h = refl
same_one (Some e) places more h = ap (option_map (λ (p : ℕ × ℕ). record { element = e; at = p.0; length = p.1 })) (h e refl)

first_of : (a b : Bool) → a ≡ true → (a || b) ≡ true
first_of true b e = refl
first_of false b e = absurd cc

behind_of : (a b : Bool) → b ≡ true → (a || b) ≡ true
behind_of true b e = refl
behind_of false b e = e

-- so all chosen fields stand where they do in the whole record
pub same_spots_all : (c : Choice) (specs : List FieldSpec) (octets : List ℕ) → spots_of c (λ e. spot_in e 0 (gone_over c specs) octets) ≡ spots_of c (λ e. spot_in e 0 specs octets)
same_spots_all c specs octets =
    let places : ℕ → Option (ℕ × ℕ) = λ e. spot_in e 0 (gone_over c specs) octets in
    let more : ℕ → Option (ℕ × ℕ) = λ e. spot_in e 0 specs octets in
    let t = same_one c.time places more (λ e h. same_spot (λ d. d.time) (λ d s. refl) (λ d s y. first_of (is_of d.time s) _ y) c e h specs 0 octets) in
    let z = same_one c.size places more (λ e h. same_spot (λ d. d.size) (λ d s. refl)
    (λ d s y. behind_of (is_of d.time s) _ (first_of (is_of d.size s) _ y)) c e h specs 0 octets) in
    let p = same_one c.code_point places more (λ e h. same_spot (λ d. d.code_point) (λ d s. refl)
    (λ d s y. behind_of (is_of d.time s) _ (behind_of (is_of d.size s) _ (first_of (is_of d.code_point s) _ y))) c e h specs 0 octets) in
    let i = same_one c.interface places more (λ e h. same_spot (λ d. d.interface) (λ d s. refl)
    (λ d s y. behind_of (is_of d.time s) _ (behind_of (is_of d.size s) _ (behind_of (is_of d.code_point s) _ (first_of (is_of d.interface s) _ y)))) c e h specs 0 octets) in
    let n = same_one c.section places more (λ e h. same_spot (λ d. d.section) (λ d s. refl)
    (λ d s y. behind_of (is_of d.time s) _ (behind_of (is_of d.size s) _ (behind_of (is_of d.code_point s) _ (behind_of (is_of d.interface s) _ y)))) c e h specs 0 octets) in
    λ j. record { time = t j; size = z j; code_point = p j; interface = i j; section = n j }

-- the places are those of the fields
abbrev pub field_in : List FieldSpec → ℕ → FieldSpec
field_in specs i = get_or specs i blank

record FrontAt (specs : List FieldSpec) (k : ℕ) (s : FieldSpec) (ss : List FieldSpec) : Type 0 where
  one : get_or specs k blank ≡ s
  rest : drop (suc k) specs ≡ ss
  within : k < length specs

front_at : (specs : List FieldSpec) (k : ℕ) (s : FieldSpec) (ss : List FieldSpec) → drop k specs ≡ s ∷ ss → FrontAt specs k s ss
front_at [] zero s ss e = absurd cc
front_at [] (suc k) s ss e = absurd cc
front_at (x ∷ xs) zero s ss e = record { one = cc; rest = cc; within = omega arith }
front_at (x ∷ xs) (suc k) s ss e = let f = front_at xs k s ss e in record { one = f.one; rest = f.rest; within = omega (arith, f.within) }

pub fields_of_steps : (c : Choice) (k : ℕ) (whole specs : List FieldSpec) → drop k whole ≡ specs → map (field_in whole) (steps_of c k specs) ≡ gone_over c specs
unfolding steps_of gone_over
fields_of_steps c k whole [] e = refl
fields_of_steps c k whole (s ∷ ss) e =
    let f = front_at whole k s ss e in
    go f.one (fields_of_steps (left_by c s) (suc k) whole ss f.rest) (is_step c s)
  where
    go : get_or whole k blank ≡ s → map (field_in whole) (steps_of (left_by c s) (suc k) ss) ≡ gone_over (left_by c s) ss
        → (b : Bool) → map (field_in whole) (cond b (k ∷ steps_of (left_by c s) (suc k) ss) (steps_of (left_by c s) (suc k) ss))
        ≡ cond b (s ∷ gone_over (left_by c s) ss) (gone_over (left_by c s) ss)
    go one others true = ap₂ (λ (x : FieldSpec) (xs : List FieldSpec). x ∷ xs) one others
    go one others false = others

pub step_within : (c : Choice) (k : ℕ) (whole specs : List FieldSpec) → drop k whole ≡ specs → (i : ℕ) → i < length (steps_of c k specs) → get_or (steps_of c k specs) i 0 < length whole
unfolding steps_of
step_within c k whole [] e i lt = absurd (omega (arith, lt))
step_within c k whole (s ∷ ss) e i lt =
    let f = front_at whole k s ss e in
    go f.within (λ j l. step_within (left_by c s) (suc k) whole ss f.rest j l) (is_step c s) i lt
  where
    go : k < length whole → ((j : ℕ) → j < length (steps_of (left_by c s) (suc k) ss) → get_or (steps_of (left_by c s) (suc k) ss) j 0 < length whole)
        → (b : Bool) (i : ℕ) → i < length (cond b (k ∷ steps_of (left_by c s) (suc k) ss) (steps_of (left_by c s) (suc k) ss))
        → get_or (cond b (k ∷ steps_of (left_by c s) (suc k) ss) (steps_of (left_by c s) (suc k) ss)) i 0 < length whole
    go here others true zero lt = here
    go here others true (suc i) lt = others i (omega (arith, lt))
    go here others false i lt = others i lt

pub field_of_step : (specs : List FieldSpec) (steps : List ℕ) (i : ℕ) → i < length steps → get_or (map (field_in specs) steps) i blank ≡ get_or specs (get_or steps i 0) blank
field_of_step specs [] i lt = absurd (omega (arith, lt))
field_of_step specs (n ∷ ns) zero lt = refl
field_of_step specs (n ∷ ns) (suc i) lt = field_of_step specs ns i (omega (arith, lt))

-- the places so far with one more field
pub steps_more : (c : Choice) (specs : List FieldSpec) (i : ℕ) (before : List ℕ) → i < length specs → is_step c (get_or specs i blank) ≡ true
    → (before ++ i ∷ []) ++ steps_of (left_by c (get_or specs i blank)) (i + 1) (drop (i + 1) specs) ≡ before ++ steps_of c i (drop i specs)
unfolding steps_of
steps_more c specs i before lt is =
    rw (add-one)
    (append_assoc before (i ∷ []) (steps_of (left_by c (get_or specs i blank)) (suc i) (drop (suc i) specs))
    ∙ ap (λ (l : List ℕ). before ++ l)
    (sym (ap (λ (l : List FieldSpec). steps_of c i l) (drop-cons specs i blank lt)
    ∙ ap (λ b. cond b (i ∷ steps_of (left_by c (get_or specs i blank)) (suc i) (drop (suc i) specs)) (steps_of (left_by c (get_or specs i blank)) (suc i) (drop (suc i) specs))) is)))

pub steps_past : (c : Choice) (specs : List FieldSpec) (i : ℕ) (before : List ℕ) → i < length specs → is_step c (get_or specs i blank) ≡ false
    → before ++ steps_of (left_by c (get_or specs i blank)) (i + 1) (drop (i + 1) specs) ≡ before ++ steps_of c i (drop i specs)
unfolding steps_of
steps_past c specs i before lt is =
    rw (add-one)
    (ap (λ (l : List ℕ). before ++ l)
    (sym (ap (λ (l : List FieldSpec). steps_of c i l) (drop-cons specs i blank lt)
    ∙ ap (λ b. cond b (i ∷ steps_of (left_by c (get_or specs i blank)) (suc i) (drop (suc i) specs)) (steps_of (left_by c (get_or specs i blank)) (suc i) (drop (suc i) specs))) is)))

pub steps_all : (c : Choice) (specs : List FieldSpec) (i : ℕ) (before : List ℕ) → length specs ≤ i → before ++ steps_of c i (drop i specs) ≡ before
unfolding steps_of
steps_all c specs i before le =
    ap (λ (l : List FieldSpec). before ++ steps_of c i l) (nil_from_length (drop i specs) (omega (arith, length-drop i specs))) ∙ append-nil before

pub length_fields : (specs : List FieldSpec) (steps : List ℕ) → length (map (field_in specs) steps) ≡ length steps
length_fields specs [] = refl
length_fields specs (n ∷ ns) = ap suc (length_fields specs ns)

-- what the places say of a record
pub steps_are : (c : Choice) (specs : List FieldSpec) (steps : List ℕ) → steps ≡ steps_of c 0 specs → map (field_in specs) steps ≡ gone_over c specs
steps_are c specs steps e = ap (map (field_in specs)) e ∙ fields_of_steps c 0 specs specs refl

pub step_there : (c : Choice) (specs : List FieldSpec) (steps : List ℕ) (i : ℕ) → steps ≡ steps_of c 0 specs → i < length steps → get_or steps i 0 < length specs
step_there c specs steps i e lt = subst (λ (l : List ℕ). i < length l → get_or l i 0 < length specs) (sym e) (step_within c 0 specs specs refl i) lt

pub spots_first : (c : Choice) (specs : List FieldSpec) (steps octets : List ℕ) → steps ≡ steps_of c 0 specs
    → spots_of c (λ e. spot_in e 0 (map (field_in specs) steps) octets) ≡ spots_of c (λ e. spot_in e 0 specs octets)
spots_first c specs steps octets e =
    ap (λ (ss : List FieldSpec). spots_of c (λ e. spot_in e 0 ss octets)) (steps_are c specs steps e) ∙ same_spots_all c specs octets

pub size_first : (c : Choice) (specs : List FieldSpec) (steps octets : List ℕ) → steps ≡ steps_of c 0 specs
    → option_map (λ x. x.1) (fields_on [] 0 (map (field_in specs) steps) octets) ≡ option_map (λ x. x.1) (fields_on [] 0 specs octets)
size_first c specs steps octets e =
    ap (λ (ss : List FieldSpec). option_map (λ x. x.1) (fields_on [] 0 ss octets)) (steps_are c specs steps e) ∙ same_size c specs 0 octets
