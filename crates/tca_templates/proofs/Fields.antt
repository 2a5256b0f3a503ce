-- The steps of reading the fields of a record.
use Rattle.std.proofs.Common.{◌≡◌, ℕ, suc, ◌+◌, ◌<◌, ◌≤◌, Bool, true, false, cond, List, [], ◌∷◌, ◌++◌, length, take, drop, get_or, Option, Some, None, refl, sym, ap, ◌∙◌, arith, inl, inr, add-one, drop-cons}
use Rattle.std.specs.Prelude.{nat_lt, ◌==◌, slice_index}
use Rattle.std.proofs.lemmas.Bool.Decides.{nat_tests}
use Rattle.std.proofs.lemmas.List.{length-drop, nil_from_length}
use Rattle.byteorder.specs.Endian.{big_number}
use Rattle.tca_templates.specs.declared.template.FieldSpec.{FieldSpec}
use Rattle.tca_templates.specs.Templates.{least_of, shortest_of}
use Rattle.tca_templates.specs.Records.{FieldView, fits, field_at, fields_on}
use Rattle.tca_templates.proofs.Choices.{chosen, passed, same_some}

fits_holds : (octets : List ℕ) (skip size : ℕ) (x : ℕ × ℕ) → fits octets skip size ≡ Some x → (x.0 + x.1 ≤ length octets) × (x.0 ≡ skip) × (x.1 ≡ size)
fits_holds octets skip size x e =
    let found : ℕ × ℕ = (skip, size) in
    let a = passed (nat_lt (length octets) (skip + size)) (Some found) x e in
    let k = same_some found x a.1 in
    let p : skip ≡ x.0 = ap (λ (y : ℕ × ℕ). y.0) k in
    let q : size ≡ x.1 = ap (λ (y : ℕ × ℕ). y.1) k in
    (grind (arith, nat_tests, a.0, p, q), sym p, sym q)

pub field_holds : (s : FieldSpec) (octets : List ℕ) (x : ℕ × ℕ) → field_at s.length octets ≡ Some x → (x.0 + x.1 ≤ length octets) × (least_of s ≤ x.0 + x.1)
field_holds s octets x e = go (s.length == 65535) e
  where
    go : (b : Bool)
        → cond b
        (cond (length octets == 0) None
        (cond (nat_lt (slice_index octets 0) 255) (fits octets 1 (slice_index octets 0))
        (cond (nat_lt (length octets) 3) None (fits octets 3 (big_number 2 (drop 1 octets))))))
        (fits octets 0 s.length) ≡ Some x
        → (x.0 + x.1 ≤ length octets) × (cond b 1 s.length ≤ x.0 + x.1)
    go false e = let f = fits_holds octets 0 s.length x e in (f.0, omega (arith, f.1, f.2))
    go true e =
        let a = passed (length octets == 0) _ x e in
        elim (chosen (nat_lt (slice_index octets 0) 255) (fits octets 1 (slice_index octets 0)) (cond (nat_lt (length octets) 3) None (fits octets 3 (big_number 2 (drop 1 octets)))) (Some x) a.1) [
          | inl w ↦ let f = fits_holds octets 1 _ x w.1 in (f.0, omega (arith, f.1))
          | inr w ↦
              let b = passed (nat_lt (length octets) 3) _ x w.1 in
              let f = fits_holds octets 3 _ x b.1 in (f.0, omega (arith, f.1))
        ]

abbrev pub field_of : FieldSpec → ℕ × ℕ → List ℕ → FieldView
field_of s x octets = record { element = s.element; enterprise = s.enterprise; value = take x.1 (drop x.0 octets) }

pub fields_next : (fields : List FieldView) (used : ℕ) (s : FieldSpec) (ss : List FieldSpec) (octets : List ℕ) (x : ℕ × ℕ) → field_at s.length octets ≡ Some x
    → fields_on fields used (s ∷ ss) octets ≡ fields_on (fields ++ field_of s x octets ∷ []) (used + (x.0 + x.1)) ss (drop (x.0 + x.1) octets)
unfolding fields_on
fields_next fields used s ss octets x e =
    let F : Option (ℕ × ℕ) → Option (List FieldView × ℕ) = λ o. elim o [
      | None ↦ None
      | Some x ↦ fields_on (fields ++ field_of s x octets ∷ []) (used + (x.0 + x.1)) ss (drop (x.0 + x.1) octets)
    ] in
    ap F e

pub fields_cut : (fields : List FieldView) (used : ℕ) (s : FieldSpec) (ss : List FieldSpec) (octets : List ℕ) → field_at s.length octets ≡ None → fields_on fields used (s ∷ ss) octets ≡ None
unfolding fields_on
fields_cut fields used s ss octets e =
    let F : Option (ℕ × ℕ) → Option (List FieldView × ℕ) = λ o. elim o [
      | None ↦ None
      | Some x ↦ fields_on (fields ++ field_of s x octets ∷ []) (used + (x.0 + x.1)) ss (drop (x.0 + x.1) octets)
    ] in
    ap F e

pub fields_done : (fields : List FieldView) (used : ℕ) (octets : List ℕ) → fields_on fields used [] octets ≡ Some (fields, used)
unfolding fields_on
fields_done fields used octets = refl

-- what reading a record tells
pub record IsRecord (used : ℕ) (specs : List FieldSpec) (octets : List ℕ) (n : ℕ) : Type 0 where
  pub least : used + shortest_of specs ≤ n
  pub within : n ≤ used + length octets

pub fields_holds : (fields : List FieldView) (used : ℕ) (specs : List FieldSpec) (octets : List ℕ) (x : List FieldView × ℕ)
    → fields_on fields used specs octets ≡ Some x → IsRecord used specs octets x.1
fields_holds fields used [] octets x e =
    let done : List FieldView × ℕ = (fields, used) in
    let k : done ≡ x = same_some done x (sym (fields_done fields used octets) ∙ e) in
    let u : used ≡ x.1 = ap (λ (p : List FieldView × ℕ). p.1) k in
    record { least = omega arith; within = omega arith }
fields_holds fields used (s ∷ ss) octets x e = go (λ more u rest h. fields_holds more u ss rest x h) (field_at s.length octets) refl
  where
    go : ((more : List FieldView) (u : ℕ) (rest : List ℕ) → fields_on more u ss rest ≡ Some x → IsRecord u ss rest x.1)
        → (o : Option (ℕ × ℕ)) → field_at s.length octets ≡ o → IsRecord used (s ∷ ss) octets x.1
    go facts None o = let bad : None ≡ Some x = sym (fields_cut fields used s ss octets o) ∙ e in absurd cc
    go facts (Some y) o =
        let r = facts (fields ++ field_of s y octets ∷ []) (used + (y.0 + y.1)) (drop (y.0 + y.1) octets) (sym (fields_next fields used s ss octets y o) ∙ e) in
        let f = field_holds s octets y o in
        record {
          least = omega (arith, r.least, f.1);
          within = omega (arith, r.within, f.0, length-drop (y.0 + y.1) octets);
        }

abbrev pub blank : FieldSpec
blank = record { element = 0; enterprise = None; length = 0 }

-- one more field of a record
pub fields_step : (fields : List FieldView) (used : ℕ) (specs : List FieldSpec) (i : ℕ) (octets : List ℕ) (x : ℕ × ℕ) → i < length specs
    → field_at (get_or specs i blank).length octets ≡ Some x
    → fields_on fields used (drop i specs) octets ≡ fields_on (fields ++ field_of (get_or specs i blank) x octets ∷ []) (used + (x.0 + x.1)) (drop (i + 1) specs) (drop (x.0 + x.1) octets)
fields_step fields used specs i octets x lt e =
    rw (add-one) (ap (λ (ss : List FieldSpec). fields_on fields used ss octets) (drop-cons specs i blank lt) ∙ fields_next fields used (get_or specs i blank) (drop (suc i) specs) octets x e)

pub fields_stop : (fields : List FieldView) (used : ℕ) (specs : List FieldSpec) (i : ℕ) (octets : List ℕ) → i < length specs
    → field_at (get_or specs i blank).length octets ≡ None → fields_on fields used (drop i specs) octets ≡ None
fields_stop fields used specs i octets lt e =
    ap (λ (ss : List FieldSpec). fields_on fields used ss octets) (drop-cons specs i blank lt) ∙ fields_cut fields used (get_or specs i blank) (drop (suc i) specs) octets e

pub fields_all : (fields : List FieldView) (used : ℕ) (specs : List FieldSpec) (i : ℕ) (octets : List ℕ) → length specs ≤ i → fields_on fields used (drop i specs) octets ≡ Some (fields, used)
fields_all fields used specs i octets le =
    ap (λ (ss : List FieldSpec). fields_on fields used ss octets) (nil_from_length (drop i specs) (omega (arith, length-drop i specs))) ∙ fields_done fields used octets
