-- What is found wrong in a template record is so, and what is wrong in it is found.
use Rattle.std.proofs.Common.{◌≡◌, ℕ, ◌+◌, ◌<◌, ◌≤◌, Bool, true, false, cond, List, [], ◌++◌, length, take, drop, Option, Some, None, Result, Ok, Err, refl, sym, ap, subst, ◌∙◌, arith, inl, inr}
use Rattle.std.specs.Prelude.{◌≢◌, ◌⊎◌, nat_lt, ◌==◌, ◌&&◌, ◌||◌, not}
use Rattle.std.specs.Option.{is_none}
use Rattle.std.proofs.lemmas.Bool.Decides.{nat_tests}
use Rattle.std.proofs.lemmas.List.{length-append, drop-append-le, take-append-drop}
use Rattle.tca_wire.specs.Walks.{walk}
use Rattle.tca_templates.specs.declared.template.FieldSpec.{FieldSpec}
use Rattle.tca_templates.specs.declared.fault.DecodeFault.{DecodeFault}
use Rattle.tca_templates.specs.declared.fault.DecodeFault.TheVariants.{TemplateId, TemplateCut, Scope, EmptyTemplate, TooMany}
use Rattle.tca_templates.specs.Templates.{Templates, TemplateView, known, shortest_of}
use Rattle.tca_templates.specs.Specifiers.{ChangeView, AllGone, Gone, New, set_id, specs_on, head_of, defined, behind_head, change_at, changed, template_front}
use Rattle.tca_templates.specs.Parts.{BeginsWith}
use Rattle.tca_templates.specs.TemplateSets.{IsSpecifier, head_size, HasScope, IsDefinition, IsTemplateRecord}
use Rattle.tca_templates.specs.FirstFaults.{id_at, count_at, scope_at, Defines, HasFields, IsFaultyTemplate, BadId, ManyFields, CutHead, BadScope, CutFields, NoOctets, Full}
use Rattle.tca_templates.proofs.Choices.{chosen, refused_by, no_fault}
use Rattle.tca_templates.proofs.PartLaws.{number_front, turn_begins, begins_turn}
use Rattle.tca_templates.proofs.Specs.{specs_refused}
use Rattle.tca_templates.proofs.Changes.{changes_bad, changes_refused}
use Rattle.tca_templates.proofs.TemplateSetLaws.{specs_found, specs_only, head_found, head_least, head_right, scope_front, some_specs}

-- the specifiers behind the head of a definition, so many as it counts
abbrev specs_of : Bool → ℕ → List ℕ → Result (List FieldSpec × ℕ) DecodeFault
specs_of options at octets = specs_on (TemplateCut at) [] (head_size options) (count_at octets) (drop (head_size options) octets)

-- those that were read are its fields
fields_there : (options : Bool) (at : ℕ) (octets : List ℕ) (y : List FieldSpec × ℕ) → head_size options ≤ length octets
    → HasScope options (count_at octets) octets → specs_of options at octets ≡ Ok y → HasFields options y.0 octets
fields_there options at octets y head scope s =
    let rest = drop (head_size options) octets in
    let r = specs_found (TemplateCut at) [] (head_size options) (count_at octets) rest y s in
    let begins = turn_begins IsSpecifier r.more (take r.size rest) (drop r.size rest) r.each in
    let here : BeginsWith IsSpecifier r.more rest = subst (λ (os : List ℕ). BeginsWith IsSpecifier r.more os) (take-append-drop r.size rest) begins in
    record {
      head = head;
      scope = scope;
      count = ap length r.is ∙ r.count;
      fields = subst (λ (ss : List FieldSpec). BeginsWith IsSpecifier ss rest) (sym r.is) here;
    }

-- and its fields are read
fields_read : (options : Bool) (at : ℕ) (octets : List ℕ) (specs : List FieldSpec) → HasFields options specs octets
    → (size : ℕ) × (specs_of options at octets ≡ Ok (specs, size))
fields_read options at octets specs p =
    let n = head_size options in
    let cut = TemplateCut at in
    let f = begins_turn IsSpecifier specs (drop n octets) p.fields in
    let there = ap (λ os. specs_on cut [] n (count_at octets) os) f.whole ∙ ap (λ m. specs_on cut [] n m (f.own ++ f.rest)) (sym p.count) in
    (n + length f.own, there ∙ specs_only cut [] n specs f.own f.rest f.each)

-- so that they are not cut off
fields_whole : (options : Bool) (at : ℕ) (octets : List ℕ) (f : DecodeFault) → specs_of options at octets ≡ Err f
    → (specs : List FieldSpec) → HasFields options specs octets → ⊥
fields_whole options at octets f s specs p =
    let r = fields_read options at octets specs p in
    let found : List FieldSpec × ℕ = (specs, r.0) in
    no_fault found f (sym r.1 ∙ s)

cut_holds : (options : Bool) (at : ℕ) (octets : List ℕ) (f : DecodeFault) → specs_of options at octets ≡ Err f → f ≡ TemplateCut at
cut_holds options at octets f s = specs_refused (TemplateCut at) [] (head_size options) (count_at octets) (drop (head_size options) octets) f s

scope_holds : (n count : ℕ) → ((n == 0) || nat_lt count n) ≡ true → (n ≡ 0) ⊎ (count < n)
scope_holds n count e = go (n == 0) refl e
  where
    go : (b : Bool) → (n == 0) ≡ b → (b || nat_lt count n) ≡ true → (n ≡ 0) ⊎ (count < n)
    go true z e = inl (grind (arith, nat_tests, z))
    go false z e = inr (grind (arith, nat_tests, e))

head_wrong : (domain : ℕ) (options : Bool) (ts : Templates) (at : ℕ) (octets : List ℕ) (f : DecodeFault) → Defines octets → head_of options at (count_at octets) octets ≡ Err f
    → IsFaultyTemplate domain options ts at octets f
head_wrong domain false ts at octets f d e = absurd cc
head_wrong domain true ts at octets f d e =
    elim (refused_by (nat_lt (length octets) 6) (TemplateCut at) _ f e) [
      | inl w ↦ let short : length octets < 6 = grind (arith, nat_tests, w.0) in CutHead d short (sym w.1)
      | inr w ↦ elim (refused_by ((scope_at octets == 0) || nat_lt (count_at octets) (scope_at octets)) (Scope at) (Ok 6) f w.1) [
        | inl v ↦
            let six : 6 ≤ length octets = grind (arith, nat_tests, w.0) in
            BadScope d refl six (scope_holds (scope_at octets) (count_at octets) v.0) (sym v.1)
        | inr v ↦ absurd (no_fault 6 f v.1)
      ]
    ]

definition_wrong : (domain : ℕ) (options : Bool) (ts : Templates) (at : ℕ) (octets : List ℕ) (fault : DecodeFault) → 4 ≤ length octets → Defines octets
    → behind_head (id_at octets) at (count_at octets) octets (head_of options at (count_at octets) octets) ≡ Err fault → IsFaultyTemplate domain options ts at octets fault
definition_wrong domain options ts at octets fault le d e = go (head_of options at (count_at octets) octets) refl e
  where
    of : head_size options ≤ length octets → HasScope options (count_at octets) octets → (r : Result (List FieldSpec × ℕ) DecodeFault)
        → specs_of options at octets ≡ r → defined (id_at octets) r ≡ Err fault → IsFaultyTemplate domain options ts at octets fault
    of head scope (Err f) s e =
        let same : f ≡ fault = cc in
        CutFields d head scope (fields_whole options at octets f s) (sym same ∙ cut_holds options at octets f s)
    of head scope (Ok y) s e =
        let found : ChangeView × ℕ = (New (id_at octets) y.0, y.1) in
        elim (refused_by (shortest_of y.0 == 0) (EmptyTemplate (id_at octets)) (Ok found) fault e) [
          | inl w ↦
              let none : shortest_of y.0 ≡ 0 = grind (arith, nat_tests, w.0) in
              NoOctets d y.0 (fields_there options at octets y head scope s) none (sym w.1)
          | inr w ↦ absurd (no_fault found fault w.1)
        ]

    go : (r : Result ℕ DecodeFault) → head_of options at (count_at octets) octets ≡ r → behind_head (id_at octets) at (count_at octets) octets r ≡ Err fault
        → IsFaultyTemplate domain options ts at octets fault
    go (Err f) h e =
        let same : f ≡ fault = cc in
        subst (λ (g : DecodeFault). IsFaultyTemplate domain options ts at octets g) same (head_wrong domain options ts at octets f d h)
    go (Ok n) h e =
        let k = head_found options at (count_at octets) octets n le h in
        let behind : ℕ → Result (ChangeView × ℕ) DecodeFault = λ m. defined (id_at octets) (specs_on (TemplateCut at) [] m (count_at octets) (drop m octets)) in
        of (omega (arith, k.0, k.1)) k.2 (specs_of options at octets) refl (ap behind (sym k.0) ∙ e)

neither : (id set count : ℕ) → ((id == set) && (count == 0)) ≡ false → id ≡ set → count ≢ 0
neither id set count e same = λ none.
    let t : ((id == set) && (count == 0)) ≡ true = grind (arith, nat_tests, same, none) in
    let bad : true ≡ false = sym t ∙ e in
    absurd cc

pub change_wrong : (domain : ℕ) (options : Bool) (ts : Templates) (at : ℕ) (octets : List ℕ) (fault : DecodeFault) → 4 ≤ length octets → change_at options at octets ≡ Err fault
    → IsFaultyTemplate domain options ts at octets fault
unfolding change_at
change_wrong domain options ts at octets fault le e =
    let id = id_at octets in
    let count = count_at octets in
    let all : ChangeView × ℕ = (AllGone, 4) in
    let gone : ChangeView × ℕ = (Gone id, 4) in
    elim (chosen ((id == set_id options) && (count == 0)) (Ok all) _ (Err fault) e) [
      | inl w ↦ absurd (no_fault all fault w.1)
      | inr w ↦ elim (refused_by (nat_lt id 256) (TemplateId at) _ fault w.1) [
        | inl a ↦ let low : id < 256 = grind (arith, nat_tests, a.0) in BadId low (neither id (set_id options) count w.0) (sym a.1)
        | inr a ↦ elim (chosen (count == 0) (Ok gone) _ (Err fault) a.1) [
          | inl v ↦ absurd (no_fault gone fault v.1)
          | inr v ↦
              let least : 256 ≤ id = grind (arith, nat_tests, a.0) in
              elim (refused_by (nat_lt 512 count) TooMany _ fault v.1) [
                | inl b ↦ let many : 512 < count = grind (arith, nat_tests, b.0) in ManyFields least many (sym b.1)
                | inr b ↦
                    let some : 0 < count = grind (arith, nat_tests, v.0) in
                    let most : count ≤ 512 = grind (arith, nat_tests, b.0) in
                    definition_wrong domain options ts at octets fault le (record { least = least; some = some; most = most }) b.1
              ]
        ]
      ]
    ]

-- a definition in front of other octets
record IsDefinedInFront (options : Bool) (id : ℕ) (specs : List FieldSpec) (octets : List ℕ) : Type 0 where
  same : id_at octets ≡ id
  defines : Defines octets
  fields : HasFields options specs octets

definition_front : (options : Bool) (id : ℕ) (specs : List FieldSpec) (own rest : List ℕ) → IsDefinition options id specs own → IsDefinedInFront options id specs (own ++ rest)
definition_front options id specs own rest p =
    let n = head_size options in
    let four = head_least options in
    let i : id_at (own ++ rest) ≡ id = number_front 2 0 own rest (omega (arith, p.head, four)) ∙ p.id in
    let c : count_at (own ++ rest) ≡ length specs = number_front 2 2 own rest (omega (arith, p.head, four)) ∙ p.count in
    let some = some_specs specs p.some in
    record {
      same = i;
      defines = record { least = omega (arith, i, p.least); some = omega (arith, c, some); most = omega (arith, c, p.most) };
      fields = record {
        head = omega (arith, p.head, length-append own rest);
        scope = subst (λ m. HasScope options m (own ++ rest)) (sym c) (scope_front options (length specs) own rest p.head p.scope);
        count = sym c;
        fields = subst (λ (os : List ℕ). BeginsWith IsSpecifier specs os) (sym (drop-append-le n own rest p.head)) (turn_begins IsSpecifier specs (drop n own) rest p.fields);
      };
    }

full_holds : (o : Option TemplateView) (n : ℕ) → (is_none o && not (nat_lt n 4096)) ≡ true → (o ≡ None) × (4096 ≤ n)
full_holds None n e =
    let full : not (nat_lt n 4096) ≡ true = e in
    (refl, grind (arith, nat_tests, full))
full_holds (Some t) n e = absurd cc

pub changed_wrong : (domain : ℕ) (options : Bool) (ts : Templates) (at : ℕ) (c : ChangeView) (own rest : List ℕ) (fault : DecodeFault)
    → IsTemplateRecord options c own → changed domain options ts c ≡ Err fault → IsFaultyTemplate domain options ts at (own ++ rest) fault
changed_wrong domain options ts at AllGone own rest fault p e = absurd cc
changed_wrong domain options ts at (Gone id) own rest fault p e = absurd cc
changed_wrong domain options ts at (New id specs) own rest fault p e =
    let d = definition_front options id specs own rest p in
    elim (refused_by (is_none (known (domain, id) ts) && not (nat_lt (length ts) 4096)) TooMany _ fault e) [
      | inl w ↦
          let full = full_holds (known (domain, id) ts) (length ts) w.0 in
          Full d.defines specs d.fields p.some (ap (λ n. known (domain, n) ts) d.same ∙ full.0) full.1 (sym w.1)
      | inr w ↦ absurd (no_fault _ fault w.1)
    ]

-- a definition goes on to its head
change_defines : (options : Bool) (at : ℕ) (octets : List ℕ) → Defines octets
    → change_at options at octets ≡ behind_head (id_at octets) at (count_at octets) octets (head_of options at (count_at octets) octets)
unfolding change_at
change_defines options at octets d =
    let t1 : ((id_at octets == set_id options) && (count_at octets == 0)) ≡ false = grind (arith, nat_tests, d.some) in
    let t2 : nat_lt (id_at octets) 256 ≡ false = grind (arith, nat_tests, d.least) in
    let t3 : (count_at octets == 0) ≡ false = grind (arith, nat_tests, d.some) in
    let t4 : nat_lt 512 (count_at octets) ≡ false = grind (arith, nat_tests, d.most) in
    rw (t1, t2, t3, t4) refl

not_both : (id set count : ℕ) → (id ≡ set → count ≢ 0) → ((id == set) && (count == 0)) ≡ false
not_both id set count other = go (id == set) refl (count == 0) refl
  where
    go : (a : Bool) → (id == set) ≡ a → (b : Bool) → (count == 0) ≡ b → (a && b) ≡ false
    go false p b q = refl
    go true p false q = refl
    go true p true q =
        let same : id ≡ set = grind (arith, nat_tests, p) in
        let none : count ≡ 0 = grind (arith, nat_tests, q) in
        absurd (other same none)

bad_id : (options : Bool) (at : ℕ) (octets : List ℕ) → id_at octets < 256 → (id_at octets ≡ set_id options → count_at octets ≢ 0) → change_at options at octets ≡ Err (TemplateId at)
unfolding change_at
bad_id options at octets low other =
    let t1 = not_both (id_at octets) (set_id options) (count_at octets) other in
    let t2 : nat_lt (id_at octets) 256 ≡ true = grind (arith, nat_tests, low) in
    rw (t1, t2) refl

many_fields : (options : Bool) (at : ℕ) (octets : List ℕ) → 256 ≤ id_at octets → 512 < count_at octets → change_at options at octets ≡ Err TooMany
unfolding change_at
many_fields options at octets least many =
    let t1 : ((id_at octets == set_id options) && (count_at octets == 0)) ≡ false = grind (arith, nat_tests, many) in
    let t2 : nat_lt (id_at octets) 256 ≡ false = grind (arith, nat_tests, least) in
    let t3 : (count_at octets == 0) ≡ false = grind (arith, nat_tests, many) in
    let t4 : nat_lt 512 (count_at octets) ≡ true = grind (arith, nat_tests, many) in
    rw (t1, t2, t3, t4) refl

head_cut : (options : Bool) (at count : ℕ) (octets : List ℕ) → 4 ≤ length octets → length octets < head_size options → head_of options at count octets ≡ Err (TemplateCut at)
head_cut false at count octets four short = absurd (omega (arith, four, short))
head_cut true at count octets four short =
    let t : nat_lt (length octets) 6 ≡ true = grind (arith, nat_tests, short) in
    rw t refl

scope_wrong : (n count : ℕ) → (n ≡ 0) ⊎ (count < n) → ((n == 0) || nat_lt count n) ≡ true
scope_wrong n count (inl none) = grind (arith, nat_tests, none)
scope_wrong n count (inr more) = grind (arith, nat_tests, more)

head_scope : (options : Bool) (at count : ℕ) (octets : List ℕ) → options ≡ true → 6 ≤ length octets → (scope_at octets ≡ 0) ⊎ (count < scope_at octets)
    → head_of options at count octets ≡ Err (Scope at)
head_scope false at count octets kind six wrong = absurd cc
head_scope true at count octets kind six wrong =
    let t1 : nat_lt (length octets) 6 ≡ false = grind (arith, nat_tests, six) in
    let t2 = scope_wrong (scope_at octets) count wrong in
    rw (t1, t2) refl

-- a right head goes on to the specifiers
change_head : (options : Bool) (at : ℕ) (octets : List ℕ) → Defines octets → head_size options ≤ length octets → HasScope options (count_at octets) octets
    → change_at options at octets ≡ defined (id_at octets) (specs_of options at octets)
change_head options at octets d head scope =
    change_defines options at octets d ∙ ap (behind_head (id_at octets) at (count_at octets) octets) (head_right options at (count_at octets) octets head scope)

specs_none : (options : Bool) (at : ℕ) (octets : List ℕ) → head_size options ≤ length octets → HasScope options (count_at octets) octets
    → ((specs : List FieldSpec) → HasFields options specs octets → ⊥) → specs_of options at octets ≡ Err (TemplateCut at)
specs_none options at octets head scope none = go (specs_of options at octets) refl
  where
    go : (r : Result (List FieldSpec × ℕ) DecodeFault) → specs_of options at octets ≡ r → specs_of options at octets ≡ Err (TemplateCut at)
    go (Err f) s = s ∙ ap (λ (g : DecodeFault). Err g) (cut_holds options at octets f s)
    go (Ok y) s = absurd (none y.0 (fields_there options at octets y head scope s))

full_only : (o : Option TemplateView) (n : ℕ) → o ≡ None → 4096 ≤ n → (is_none o && not (nat_lt n 4096)) ≡ true
full_only None n none full = let t : not (nat_lt n 4096) ≡ true = grind (arith, nat_tests, full) in t
full_only (Some t) n none full = absurd cc

module _ (domain : ℕ) (options : Bool) (ts : Templates) (at : ℕ) (octets : List ℕ) (fault : DecodeFault) (four : 4 ≤ length octets) where
  refuse : (f : DecodeFault) → change_at options at octets ≡ Err f → fault ≡ f → walk (template_front domain options) ts at octets ≡ Err fault
  refuse f e is = changes_bad domain options ts at octets f four e ∙ ap (λ (g : DecodeFault). Err g) (sym is)

  -- the template record is wrong, and so the walk ends here
  pub record_refused : IsFaultyTemplate domain options ts at octets fault → walk (template_front domain options) ts at octets ≡ Err fault
  record_refused (BadId low other is) = refuse (TemplateId at) (bad_id options at octets low other) is
  record_refused (ManyFields least many is) = refuse TooMany (many_fields options at octets least many) is
  record_refused (CutHead d short is) =
      let head = head_cut options at (count_at octets) octets four short in
      refuse (TemplateCut at) (change_defines options at octets d ∙ ap (behind_head (id_at octets) at (count_at octets) octets) head) is
  record_refused (BadScope d kind six wrong is) =
      let head = head_scope options at (count_at octets) octets kind six wrong in
      refuse (Scope at) (change_defines options at octets d ∙ ap (behind_head (id_at octets) at (count_at octets) octets) head) is
  record_refused (CutFields d head scope none is) =
      refuse (TemplateCut at) (change_head options at octets d head scope ∙ ap (defined (id_at octets)) (specs_none options at octets head scope none)) is
  record_refused (NoOctets d specs p none is) =
      let r = fields_read options at octets specs p in
      let found : ChangeView × ℕ = (New (id_at octets) specs, r.0) in
      let t : (shortest_of specs == 0) ≡ true = grind (arith, nat_tests, none) in
      refuse (EmptyTemplate (id_at octets))
      (change_head options at octets d p.head p.scope ∙ ap (defined (id_at octets)) r.1 ∙ ap (λ b. cond b (Err (EmptyTemplate (id_at octets))) (Ok found)) t) is
  record_refused (Full d specs p some unknown full is) =
      let r = fields_read options at octets specs p in
      let found : ChangeView × ℕ = (New (id_at octets) specs, r.0) in
      let t : (shortest_of specs == 0) ≡ false = grind (arith, nat_tests, some) in
      let read : change_at options at octets ≡ Ok found =
      change_head options at octets d p.head p.scope ∙ ap (defined (id_at octets)) r.1 ∙ ap (λ b. cond b (Err (EmptyTemplate (id_at octets))) (Ok found)) t in
      let u = full_only (known (domain, id_at octets) ts) (length ts) unknown full in
      let refused : changed domain options ts (New (id_at octets) specs) ≡ Err TooMany = rw u refl in
      changes_refused domain options ts at octets found TooMany four read refused ∙ ap (λ (g : DecodeFault). Err g) (sym is)
