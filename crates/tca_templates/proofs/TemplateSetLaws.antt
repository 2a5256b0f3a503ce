-- What is read of a template set is its grammar, and nothing else is.
use Rattle.std.proofs.Common.{◌≡◌, ℕ, zero, suc, ◌+◌, ◌-◌, ◌<◌, ◌≤◌, Bool, true, false, cond, List, [], ◌∷◌, ◌++◌, length, take, drop, Option, Some, None, Result, Ok, Err, refl, sym, ap, ap₂, subst, ◌∙◌, arith, inl, inr, append_assoc, take-add}
use Rattle.std.specs.Prelude.{nat_lt, ◌==◌, ◌&&◌, ◌||◌, if◌then◌else◌}
use Rattle.std.proofs.lemmas.Bool.Decides.{nat_tests}
use Rattle.std.proofs.lemmas.List.{length-drop, length-append, length-take-le, append-nil, drop-take, drop_at, drop-append-le, take-append-drop}
use Rattle.byteorder.specs.Endian.{big_number}
use Rattle.tca_join.specs.Results.{◌>>=◌}
use Rattle.tca_wire.specs.Walks.{walk}
use Rattle.tca_templates.specs.declared.template.FieldSpec.{FieldSpec}
use Rattle.tca_templates.specs.declared.fault.DecodeFault.{DecodeFault}
use Rattle.tca_templates.specs.declared.fault.DecodeFault.TheVariants.{TemplateId, TemplateCut, Scope, EmptyTemplate, TooMany}
use Rattle.tca_templates.specs.Templates.{Templates, shortest_of}
use Rattle.tca_templates.specs.Specifiers.{ChangeView, AllGone, Gone, New, set_id, spec_at, specs_on, head_of, defined, behind_head, change_at, changed, template_front}
use Rattle.tca_templates.specs.Parts.{InTurn}
use Rattle.tca_templates.specs.TemplateSets.{IsSpecifier, head_size, HasScope, IsTemplateRecord, after_changes, IsTemplateSet}
use Rattle.tca_templates.proofs.Choices.{chosen, passed, refused, same_some, same_ok}
use Rattle.tca_templates.proofs.PartLaws.{number_front, number_taken}
use Rattle.tca_templates.proofs.Specs.{spec_size, specs_next, specs_cut, specs_done}
use Rattle.tca_templates.proofs.Changes.{change_holds, changes_end, changes_bad, changes_refused, changes_next}

spec_found : (octets : List ℕ) (x : FieldSpec × ℕ) → spec_at octets ≡ Some x → IsSpecifier x.0 (take x.1 octets)
spec_found octets x e =
    let short : FieldSpec × ℕ = (record { element = big_number 2 octets; enterprise = None; length = big_number 2 (drop 2 octets) }, 4) in
    let long : FieldSpec × ℕ = (record { element = big_number 2 octets - 32768; enterprise = Some (big_number 4 (drop 4 octets)); length = big_number 2 (drop 2 octets) }, 8) in
    let a = passed (nat_lt (length octets) 4) _ x e in
    elim (chosen (nat_lt (big_number 2 octets) 32768) (Some short) (cond (nat_lt (length octets) 8) None (Some long)) (Some x) a.1) [
      | inl w ↦
          let four : 4 ≤ length octets = grind (arith, nat_tests, a.0) in
          let id = number_taken 2 0 4 octets (omega arith) four in
          let free : big_number 2 octets < 32768 = grind (arith, nat_tests, w.0) in
          subst (λ (p : FieldSpec × ℕ). IsSpecifier p.0 (take p.1 octets)) (same_some short x w.1) (inl (record {
            size = length-take-le 4 octets four;
            enterprise = refl;
            free = omega (arith, id, free);
            element = sym id;
            width = sym (number_taken 2 2 4 octets (omega arith) four);
          }))
      | inr w ↦
          let b = passed (nat_lt (length octets) 8) (Some long) x w.1 in
          let eight : 8 ≤ length octets = grind (arith, nat_tests, b.0) in
          let id = number_taken 2 0 8 octets (omega arith) eight in
          let own : 32768 ≤ big_number 2 octets = grind (arith, nat_tests, w.0) in
          subst (λ (p : FieldSpec × ℕ). IsSpecifier p.0 (take p.1 octets)) (same_some long x b.1) (inr (record {
            size = length-take-le 8 octets eight;
            enterprise = ap (λ n. Some n) (sym (number_taken 4 4 8 octets (omega arith) eight));
            element = omega (arith, id, own);
            width = sym (number_taken 2 2 8 octets (omega arith) eight);
          }))
    ]

-- the specifiers that were read, behind others
pub record AreSpecifiers (specs : List FieldSpec) (used n : ℕ) (octets : List ℕ) (x : List FieldSpec × ℕ) : Type 0 where
  pub more : List FieldSpec
  pub size : ℕ
  pub is : x.0 ≡ specs ++ more
  pub all : x.1 ≡ used + size
  pub within : size ≤ length octets
  pub count : length more ≡ n
  pub each : InTurn IsSpecifier more (take size octets)

pub specs_found : (cut : DecodeFault) (specs : List FieldSpec) (used n : ℕ) (octets : List ℕ) (x : List FieldSpec × ℕ)
    → specs_on cut specs used n octets ≡ Ok x → AreSpecifiers specs used n octets x
specs_found cut specs used zero octets x e =
    let done : List FieldSpec × ℕ = (specs, used) in
    let k : done ≡ x = same_ok done x (sym (specs_done cut specs used octets) ∙ e) in
    let u : used ≡ x.1 = ap (λ (p : List FieldSpec × ℕ). p.1) k in
    record {
      more = [];
      size = 0;
      is = sym (ap (λ (p : List FieldSpec × ℕ). p.0) k) ∙ sym (append-nil specs);
      all = omega (arith, u);
      within = omega arith;
      count = refl;
      each = refl;
    }
specs_found cut specs used (suc n) octets x e = go (λ more u rest h. specs_found cut more u n rest x h) (spec_at octets) refl
  where
    go : ((more : List FieldSpec) (u : ℕ) (rest : List ℕ) → specs_on cut more u n rest ≡ Ok x → AreSpecifiers more u n rest x)
        → (o : Option (FieldSpec × ℕ)) → spec_at octets ≡ o → AreSpecifiers specs used (suc n) octets x
    go found None o = let bad : Err cut ≡ Ok x = sym (specs_cut cut specs used n octets o) ∙ e in absurd cc
    go found (Some y) o =
        let r = found (specs ++ y.0 ∷ []) (used + y.1) (drop y.1 octets) (sym (specs_next cut specs used n octets y o) ∙ e) in
        let s = spec_size octets y o in
        record {
          more = y.0 ∷ r.more;
          size = y.1 + r.size;
          is = r.is ∙ append_assoc specs (y.0 ∷ []) r.more;
          all = omega (arith, r.all);
          within = omega (arith, r.within, s, length-drop y.1 octets);
          count = omega (arith, r.count);
          each = record { own = take y.1 octets; rest = take r.size (drop y.1 octets); whole = take-add y.1 r.size octets; is = spec_found octets y o; behind = r.each };
        }

pub head_found : (options : Bool) (at count : ℕ) (octets : List ℕ) (n : ℕ) → 4 ≤ length octets → head_of options at count octets ≡ Ok n
    → (n ≡ head_size options) × (n ≤ length octets) × HasScope options count octets
head_found false at count octets n le e = let k : 4 ≡ n = cc in (sym k, omega (arith, k), tt)
head_found true at count octets n le e =
    let a = refused (nat_lt (length octets) 6) (TemplateCut at) _ n e in
    let b = refused ((big_number 2 (drop 4 octets) == 0) || nat_lt count (big_number 2 (drop 4 octets))) (Scope at) (Ok 6) n a.1 in
    let k : 6 ≡ n = same_ok 6 n b.1 in
    (sym k, grind (arith, nat_tests, a.0, k), (grind (arith, nat_tests, b.0), grind (arith, nat_tests, b.0)))

-- where a scope stands, in octets that others follow
scope_taken : (options : Bool) (count m : ℕ) (octets : List ℕ) → head_size options ≤ m → m ≤ length octets → HasScope options count octets → HasScope options count (take m octets)
scope_taken false count m octets le within h = tt
scope_taken true count m octets le within h =
    let s = number_taken 2 4 m octets (omega arith) within in
    (omega (arith, s, h.0), omega (arith, s, h.1))

pub head_least : (options : Bool) → 4 ≤ head_size options
head_least false = omega arith
head_least true = omega arith

definition_found : (options : Bool) (at : ℕ) (octets : List ℕ) (x : ChangeView × ℕ) → 4 ≤ length octets → 256 ≤ big_number 2 octets → big_number 2 (drop 2 octets) ≤ 512
    → behind_head (big_number 2 octets) at (big_number 2 (drop 2 octets)) octets (head_of options at (big_number 2 (drop 2 octets)) octets) ≡ Ok x
    → IsTemplateRecord options x.0 (take x.1 octets)
definition_found options at octets x le least most e = go (head_of options at count octets) refl e
  where
    id : ℕ
    id = big_number 2 octets

    count : ℕ
    count = big_number 2 (drop 2 octets)

    of : (n : ℕ) → head_of options at count octets ≡ Ok n → (r : Result (List FieldSpec × ℕ) DecodeFault) → specs_on (TemplateCut at) [] n count (drop n octets) ≡ r
        → defined id r ≡ Ok x → IsTemplateRecord options x.0 (take x.1 octets)
    of n h (Err f) s e = absurd cc
    of n h (Ok y) s e =
        let found : ChangeView × ℕ = (New id y.0, y.1) in
        let some = refused (shortest_of y.0 == 0) (EmptyTemplate id) (Ok found) x e in
        let r = specs_found (TemplateCut at) [] n count (drop n octets) y s in
        let k = head_found options at count octets n le h in
        let within : y.1 ≤ length octets = omega (arith, r.all, r.within, k.1, length-drop n octets) in
        let longer : head_size options ≤ y.1 = omega (arith, r.all, k.0) in
        let four : 4 ≤ y.1 = omega (arith, longer, head_least options) in
        let size = length-take-le y.1 octets within in
        let rest : drop (head_size options) (take y.1 octets) ≡ take r.size (drop n octets) =
        ap (λ m. drop m (take y.1 octets)) (sym k.0) ∙ ap (λ m. drop n (take m octets)) r.all ∙ drop-take n r.size octets in
        subst (λ (p : ChangeView × ℕ). IsTemplateRecord options p.0 (take p.1 octets)) (same_ok found x some.1) (record {
          head = omega (arith, longer, size);
          id = number_taken 2 0 y.1 octets (omega (arith, four)) within;
          least = least;
          count = number_taken 2 2 y.1 octets (omega (arith, four)) within ∙ sym r.count ∙ ap length (sym r.is);
          most = omega (arith, most, r.count, ap length r.is);
          scope = scope_taken options (length y.0) y.1 octets longer within (subst (λ m. HasScope options m octets) (sym r.count ∙ ap length (sym r.is)) k.2);
          fields = subst (λ (ss : List FieldSpec). InTurn IsSpecifier ss (drop (head_size options) (take y.1 octets))) (sym r.is) (subst (λ (os : List ℕ). InTurn IsSpecifier r.more os) (sym rest) r.each);
          some = grind (arith, nat_tests, some.0);
        })

    go : (r : Result ℕ DecodeFault) → head_of options at count octets ≡ r → behind_head id at count octets r ≡ Ok x → IsTemplateRecord options x.0 (take x.1 octets)
    go (Err f) h e = absurd cc
    go (Ok n) h e = of n h (specs_on (TemplateCut at) [] n count (drop n octets)) refl e

pub record_found : (options : Bool) (at : ℕ) (octets : List ℕ) (x : ChangeView × ℕ) → 4 ≤ length octets → change_at options at octets ≡ Ok x → IsTemplateRecord options x.0 (take x.1 octets)
unfolding change_at
record_found options at octets x le e =
    let id = big_number 2 octets in
    let count = big_number 2 (drop 2 octets) in
    let all : ChangeView × ℕ = (AllGone, 4) in
    let gone : ChangeView × ℕ = (Gone id, 4) in
    let id_is = number_taken 2 0 4 octets (omega arith) le in
    let count_is = number_taken 2 2 4 octets (omega arith) le in
    let size = length-take-le 4 octets le in
    elim (chosen ((id == set_id options) && (count == 0)) (Ok all) _ (Ok x) e) [
      | inl w ↦
          let same : (id ≡ set_id options) × (count ≡ 0) = both_holds (id == set_id options) id (set_id options) count refl w.0 in
          subst (λ (p : ChangeView × ℕ). IsTemplateRecord options p.0 (take p.1 octets)) (same_ok all x w.1)
          (record { size = size; id = id_is ∙ same.0; none = count_is ∙ same.1 })
      | inr w ↦
          let a = refused (nat_lt id 256) (TemplateId at) _ x w.1 in
          let least : 256 ≤ id = grind (arith, nat_tests, a.0) in
          elim (chosen (count == 0) (Ok gone) _ (Ok x) a.1) [
            | inl v ↦
                let none : count ≡ 0 = grind (arith, nat_tests, v.0) in
                subst (λ (p : ChangeView × ℕ). IsTemplateRecord options p.0 (take p.1 octets)) (same_ok gone x v.1)
                (least, record { size = size; id = id_is; none = count_is ∙ none })
            | inr v ↦
                let b = refused (nat_lt 512 count) TooMany _ x v.1 in
                let most : count ≤ 512 = grind (arith, nat_tests, b.0) in
                definition_found options at octets x le least most b.1
          ]
    ]
  where
    both_holds : (b : Bool) (id set count : ℕ) → b ≡ (id == set) → (b && (count == 0)) ≡ true → (id ≡ set) × (count ≡ 0)
    both_holds true id set count is e = (grind (arith, nat_tests, is), grind (arith, nat_tests, e))
    both_holds false id set count is e = absurd cc

-- what a walk over a template set found, from these templates on
found_for : (most : ℕ) (domain : ℕ) (options : Bool) (ts us : Templates) (at : ℕ) (octets : List ℕ) → length octets < most
    → walk (template_front domain options) ts at octets ≡ Ok us → IsTemplateSet domain options ts us octets
found_for zero domain options ts us at octets lt e = absurd (omega arith)
found_for (suc most) domain options ts us at octets lt e =
    start (λ vs at rest l h. found_for most domain options vs us at rest l h) (nat_lt (length octets) 4) refl
  where
    Further : Type 0
    Further = (vs : Templates) (at : ℕ) (rest : List ℕ) → length rest < most → walk (template_front domain options) vs at rest ≡ Ok us → IsTemplateSet domain options vs us rest

    step : Further → (x : ChangeView × ℕ) → 4 ≤ length octets → change_at options at octets ≡ Ok x → (r : Result Templates DecodeFault) → changed domain options ts x.0 ≡ r → IsTemplateSet domain options ts us octets
    step further x four c (Err f) k = let bad : Err f ≡ Ok us = sym (changes_refused domain options ts at octets x f four c k) ∙ e in absurd cc
    step further x four c (Ok vs) k =
        let facts = change_holds options at octets x four c in
        let r = further vs (at + x.1) (drop x.1 octets) (omega (arith, facts.0, facts.1, length-drop x.1 octets)) (sym (changes_next domain options ts vs at octets x four c k) ∙ e) in
        record {
          changes = x.0 ∷ r.changes;
          records = take x.1 octets ++ r.records;
          padding = r.padding;
          whole = sym (take-append-drop x.1 octets) ∙ ap (λ rest. take x.1 octets ++ rest) r.whole ∙ sym (append_assoc (take x.1 octets) r.records r.padding);
          each = record { own = take x.1 octets; rest = r.records; whole = refl; is = record_found options at octets x four c; behind = r.each };
          few = r.few;
          effect = ap (λ (x : Result Templates DecodeFault). x >>= (λ vs. after_changes domain options vs r.changes)) k ∙ r.effect;
        }

    go : Further → 4 ≤ length octets → (r : Result (ChangeView × ℕ) DecodeFault) → change_at options at octets ≡ r → IsTemplateSet domain options ts us octets
    go further four (Err f) c = let bad : Err f ≡ Ok us = sym (changes_bad domain options ts at octets f four c) ∙ e in absurd cc
    go further four (Ok x) c = step further x four c (changed domain options ts x.0) refl

    start : Further → (b : Bool) → nat_lt (length octets) 4 ≡ b → IsTemplateSet domain options ts us octets
    start further true l =
        let few : length octets < 4 = grind (arith, nat_tests, l) in
        record { changes = []; records = []; padding = octets; whole = refl; each = refl; few = omega arith; effect = sym (changes_end domain options ts at octets few) ∙ e }
    start further false l = go further (grind (arith, nat_tests, l)) (change_at options at octets) refl

pub template_set_found : (domain : ℕ) (options : Bool) (ts us : Templates) (at : ℕ) (octets : List ℕ)
    → walk (template_front domain options) ts at octets ≡ Ok us → IsTemplateSet domain options ts us octets
template_set_found domain options ts us at octets e = found_for (suc (length octets)) domain options ts us at octets (omega arith) e

-- a specifier in front of other octets
spec_front : (s : FieldSpec) (own rest : List ℕ) → IsSpecifier s own → spec_at (own ++ rest) ≡ Some (s, length own)
spec_front s own rest (inl p) =
    let octets = own ++ rest in
    let size = length-append own rest in
    let id = number_front 2 0 own rest (omega (arith, p.size)) in
    let width = number_front 2 2 own rest (omega (arith, p.size)) in
    let t1 : nat_lt (length octets) 4 ≡ false = grind (arith, nat_tests, size, p.size) in
    let t2 : nat_lt (big_number 2 octets) 32768 ≡ true = grind (arith, nat_tests, id, p.free) in
    let found : FieldSpec = record { element = big_number 2 octets; enterprise = None; length = big_number 2 (drop 2 octets) } in
    let e : big_number 2 octets ≡ s.element = id ∙ sym p.element in
    let w : big_number 2 (drop 2 octets) ≡ s.length = width ∙ sym p.width in
    let same : found ≡ s = λ i. record { element = e i; enterprise = sym p.enterprise i; length = w i } in
    let long : Option (FieldSpec × ℕ) = cond (nat_lt (length octets) 8) None (Some (record { element = big_number 2 octets - 32768; enterprise = Some (big_number 4 (drop 4 octets)); length = big_number 2 (drop 2 octets) }, 8)) in
    let more : Option (FieldSpec × ℕ) = cond (nat_lt (big_number 2 octets) 32768) (Some (found, 4)) long in
    let e1 : spec_at octets ≡ more = ap (λ b. cond b None more) t1 in
    let e2 : more ≡ Some (found, 4) = ap (λ b. cond b (Some (found, 4)) long) t2 in
    e1 ∙ e2 ∙ ap₂ (λ (t : FieldSpec) (n : ℕ). Some (t, n)) same (sym p.size)
spec_front s own rest (inr p) =
    let octets = own ++ rest in
    let size = length-append own rest in
    let id = number_front 2 0 own rest (omega (arith, p.size)) in
    let width = number_front 2 2 own rest (omega (arith, p.size)) in
    let t1 : nat_lt (length octets) 4 ≡ false = grind (arith, nat_tests, size, p.size) in
    let t2 : nat_lt (big_number 2 octets) 32768 ≡ false = grind (arith, nat_tests, id, p.element) in
    let t3 : nat_lt (length octets) 8 ≡ false = grind (arith, nat_tests, size, p.size) in
    let short : FieldSpec = record { element = big_number 2 octets; enterprise = None; length = big_number 2 (drop 2 octets) } in
    let found : FieldSpec = record { element = big_number 2 octets - 32768; enterprise = Some (big_number 4 (drop 4 octets)); length = big_number 2 (drop 2 octets) } in
    let e : big_number 2 octets - 32768 ≡ s.element = omega (arith, id, p.element) in
    let n : Some (big_number 4 (drop 4 octets)) ≡ s.enterprise = ap (λ n. Some n) (number_front 4 4 own rest (omega (arith, p.size))) ∙ sym p.enterprise in
    let w : big_number 2 (drop 2 octets) ≡ s.length = width ∙ sym p.width in
    let same : found ≡ s = λ i. record { element = e i; enterprise = n i; length = w i } in
    let long : Option (FieldSpec × ℕ) = cond (nat_lt (length octets) 8) None (Some (found, 8)) in
    let more : Option (FieldSpec × ℕ) = cond (nat_lt (big_number 2 octets) 32768) (Some (short, 4)) long in
    let e1 : spec_at octets ≡ more = ap (λ b. cond b None more) t1 in
    let e2 : more ≡ long = ap (λ b. cond b (Some (short, 4)) long) t2 in
    let e3 : long ≡ Some (found, 8) = ap (λ b. cond b None (Some (found, 8))) t3 in
    e1 ∙ e2 ∙ e3 ∙ ap₂ (λ (t : FieldSpec) (n : ℕ). Some (t, n)) same (sym p.size)

pub specs_only : (cut : DecodeFault) (specs : List FieldSpec) (used : ℕ) (more : List FieldSpec) (own rest : List ℕ) → InTurn IsSpecifier more own
    → specs_on cut specs used (length more) (own ++ rest) ≡ Ok (specs ++ more, used + length own)
specs_only cut specs used [] own rest p =
    let none : length own ≡ 0 = ap length p in
    let all : used ≡ used + length own = omega (arith, none) in
    specs_done cut specs used (own ++ rest) ∙ ap₂ (λ (ss : List FieldSpec) (n : ℕ). Ok (ss, n)) (sym (append-nil specs)) all
specs_only cut specs used (s ∷ more) own rest p =
    let tail = p.rest ++ rest in
    let octets : own ++ rest ≡ p.own ++ tail = ap (λ os. os ++ rest) p.whole ∙ append_assoc p.own p.rest rest in
    let size : length own ≡ length p.own + length p.rest = ap length p.whole ∙ length-append p.own p.rest in
    let all : used + length p.own + length p.rest ≡ used + length own = omega (arith, size) in
    ap (λ os. specs_on cut specs used (suc (length more)) os) octets
    ∙ specs_next cut specs used (length more) (p.own ++ tail) (s, length p.own) (spec_front s p.own tail p.is)
    ∙ ap (λ os. specs_on cut (specs ++ s ∷ []) (used + length p.own) (length more) os) (drop_at p.own tail (length p.own) refl)
    ∙ specs_only cut (specs ++ s ∷ []) (used + length p.own) more p.rest rest p.behind
    ∙ ap₂ (λ (ss : List FieldSpec) (n : ℕ). Ok (ss, n)) (append_assoc specs (s ∷ []) more) all

pub head_right : (options : Bool) (at count : ℕ) (octets : List ℕ) → head_size options ≤ length octets → HasScope options count octets → head_of options at count octets ≡ Ok (head_size options)
head_right false at count octets head scope = refl
head_right true at count octets head scope =
    let n = big_number 2 (drop 4 octets) in
    let t1 : nat_lt (length octets) 6 ≡ false = grind (arith, nat_tests, head) in
    let t2 : ((n == 0) || nat_lt count n) ≡ false = grind (arith, nat_tests, scope.0, scope.1) in
    rw (t1, t2) refl

-- a scope in front of other octets
pub scope_front : (options : Bool) (count : ℕ) (own rest : List ℕ) → head_size options ≤ length own → HasScope options count own → HasScope options count (own ++ rest)
scope_front false count own rest le h = tt
scope_front true count own rest le h =
    let s = number_front 2 4 own rest (omega arith) in
    (omega (arith, s, h.0), omega (arith, s, h.1))

-- the tests of a template record, by its identifier and its count of fields
abbrev change_of : Bool → ℕ → List ℕ → ℕ → ℕ → Result (ChangeView × ℕ) DecodeFault
change_of options at octets id count =
    if (id == set_id options) && (count == 0) then Ok (AllGone, 4)
    else (if nat_lt id 256 then Err (TemplateId at)
    else (if count == 0 then Ok (Gone id, 4)
    else (if nat_lt 512 count then Err TooMany
    else behind_head id at count octets (head_of options at count octets))))

change_by : (options : Bool) (at : ℕ) (octets : List ℕ) (id count : ℕ) → big_number 2 octets ≡ id → big_number 2 (drop 2 octets) ≡ count
    → change_at options at octets ≡ change_of options at octets id count
unfolding change_at
change_by options at octets id count i c = ap₂ (λ i c. change_of options at octets i c) i c

set_below : (options : Bool) → set_id options < 256
set_below false = omega arith
set_below true = omega arith

-- what gives an octet has a specifier
pub some_specs : (ss : List FieldSpec) → 0 < shortest_of ss → 0 < length ss
some_specs [] some = absurd (omega arith)
some_specs (s ∷ ss) some = omega arith

-- a template record in front of other octets
record_front : (options : Bool) (at : ℕ) (c : ChangeView) (own rest : List ℕ) → IsTemplateRecord options c own
    → (change_at options at (own ++ rest) ≡ Ok (c, length own)) × (4 ≤ length own)
record_front options at AllGone own rest p =
    let id = number_front 2 0 own rest (omega (arith, p.size)) ∙ p.id in
    let count = number_front 2 2 own rest (omega (arith, p.size)) ∙ p.none in
    let t : ((set_id options == set_id options) && (0 == 0)) ≡ true = grind (arith, nat_tests) in
    let more : Result (ChangeView × ℕ) DecodeFault = _ in
    (change_by options at (own ++ rest) (set_id options) 0 id count ∙ ap (λ b. cond b (Ok (AllGone, 4)) more) t ∙ ap (λ n. Ok (AllGone, n)) (sym p.size), omega (arith, p.size))
record_front options at (Gone id) own rest p =
    let w = p.1 in
    let octets = own ++ rest in
    let i = number_front 2 0 own rest (omega (arith, w.size)) ∙ w.id in
    let count = number_front 2 2 own rest (omega (arith, w.size)) ∙ w.none in
    let t1 : ((id == set_id options) && (0 == 0)) ≡ false = grind (arith, nat_tests, p.0, set_below options) in
    let t2 : nat_lt id 256 ≡ false = grind (arith, nat_tests, p.0) in
    let rest_of : Result (ChangeView × ℕ) DecodeFault = cond (nat_lt id 256) (Err (TemplateId at)) (Ok (Gone id, 4)) in (
      change_by options at octets id 0 i count ∙ ap (λ b. cond b (Ok (AllGone, 4)) rest_of) t1 ∙ ap (λ b. cond b (Err (TemplateId at)) (Ok (Gone id, 4))) t2 ∙ ap (λ n. Ok (Gone id, n)) (sym w.size),
      omega (arith, w.size),
    )
record_front options at (New id specs) own rest p =
    let octets = own ++ rest in
    let n = head_size options in
    let count = length specs in
    let four = head_least options in
    let i = number_front 2 0 own rest (omega (arith, p.head, four)) ∙ p.id in
    let c = number_front 2 2 own rest (omega (arith, p.head, four)) ∙ p.count in
    let some : 0 < count = some_specs specs p.some in
    let t1 : ((id == set_id options) && (count == 0)) ≡ false = grind (arith, nat_tests, some) in
    let t2 : nat_lt id 256 ≡ false = grind (arith, nat_tests, p.least) in
    let t3 : (count == 0) ≡ false = grind (arith, nat_tests, some) in
    let t4 : nat_lt 512 count ≡ false = grind (arith, nat_tests, p.most) in
    let t5 : (shortest_of specs == 0) ≡ false = grind (arith, nat_tests, p.some) in
    let read = specs_only (TemplateCut at) [] n specs (drop n own) rest p.fields in
    let size : n + length (drop n own) ≡ length own = omega (arith, p.head, length-drop n own) in
    let specs_are : specs_on (TemplateCut at) [] n count (drop n octets) ≡ Ok (specs, length own) =
    ap (λ os. specs_on (TemplateCut at) [] n count os) (drop-append-le n own rest p.head) ∙ read ∙ ap (λ m. Ok (specs, m)) size in
    let l5 : Result (ChangeView × ℕ) DecodeFault = behind_head id at count octets (head_of options at count octets) in
    let l4 : Result (ChangeView × ℕ) DecodeFault = cond (nat_lt 512 count) (Err TooMany) l5 in
    let l3 : Result (ChangeView × ℕ) DecodeFault = cond (count == 0) (Ok (Gone id, 4)) l4 in
    let l2 : Result (ChangeView × ℕ) DecodeFault = cond (nat_lt id 256) (Err (TemplateId at)) l3 in (
      change_by options at octets id count i c
          ∙ ap (λ b. cond b (Ok (AllGone, 4)) l2) t1 ∙ ap (λ b. cond b (Err (TemplateId at)) l3) t2 ∙ ap (λ b. cond b (Ok (Gone id, 4)) l4) t3 ∙ ap (λ b. cond b (Err TooMany) l5) t4
          ∙ ap (behind_head id at count octets) (head_right options at count octets (omega (arith, p.head, length-append own rest)) (scope_front options count own rest p.head p.scope))
          ∙ ap (defined id) specs_are
          ∙ ap (λ b. cond b (Err (EmptyTemplate id)) (Ok (New id specs, length own))) t5,
      omega (arith, p.head, four),
    )

-- template records in front of other octets take effect one after the other
pub changes_pass : (domain : ℕ) (options : Bool) (cs : List ChangeView) (ts us : Templates) (at : ℕ) (records rest : List ℕ)
    → InTurn (IsTemplateRecord options) cs records → after_changes domain options ts cs ≡ Ok us
    → walk (template_front domain options) ts at (records ++ rest) ≡ walk (template_front domain options) us (at + length records) rest
changes_pass domain options [] ts us at records rest p e =
    let none : length records ≡ 0 = ap length p in
    let here : at ≡ at + length records = omega (arith, none) in
    ap (λ os. walk (template_front domain options) ts at (os ++ rest)) p ∙ ap₂ (λ (vs : Templates) (n : ℕ). walk (template_front domain options) vs n rest) (same_ok ts us e) here
changes_pass domain options (c ∷ cs) ts us at records rest p e = go (λ vs at h. changes_pass domain options cs vs us at p.rest rest p.behind h) (changed domain options ts c) refl
  where
    Further : Type 0
    Further = (vs : Templates) (at : ℕ) → after_changes domain options vs cs ≡ Ok us
        → walk (template_front domain options) vs at (p.rest ++ rest) ≡ walk (template_front domain options) us (at + length p.rest) rest

    go : Further → (r : Result Templates DecodeFault) → changed domain options ts c ≡ r
        → walk (template_front domain options) ts at (records ++ rest) ≡ walk (template_front domain options) us (at + length records) rest
    go more (Err f) k = let bad : Err f ≡ Ok us = sym (ap (λ (x : Result Templates DecodeFault). x >>= (λ vs. after_changes domain options vs cs)) k) ∙ e in absurd cc
    go more (Ok vs) k =
        let tail = p.rest ++ rest in
        let octets : records ++ rest ≡ p.own ++ tail = ap (λ os. os ++ rest) p.whole ∙ append_assoc p.own p.rest rest in
        let front = record_front options at c p.own tail p.is in
        let four : 4 ≤ length (p.own ++ tail) = omega (arith, front.1, length-append p.own tail) in
        let size : length records ≡ length p.own + length p.rest = ap length p.whole ∙ length-append p.own p.rest in
        let there : at + length p.own + length p.rest ≡ at + length records = omega (arith, size) in
        ap (λ os. walk (template_front domain options) ts at os) octets
        ∙ changes_next domain options ts vs at (p.own ++ tail) (c, length p.own) four front.0 k
        ∙ ap (λ os. walk (template_front domain options) vs (at + length p.own) os) (drop_at p.own tail (length p.own) refl)
        ∙ more vs (at + length p.own) (sym (ap (λ (x : Result Templates DecodeFault). x >>= (λ vs. after_changes domain options vs cs)) k) ∙ e)
        ∙ ap (λ n. walk (template_front domain options) us n rest) there

pub template_set_only : (domain : ℕ) (options : Bool) (ts us : Templates) (at : ℕ) (octets : List ℕ)
    → IsTemplateSet domain options ts us octets → walk (template_front domain options) ts at octets ≡ Ok us
template_set_only domain options ts us at octets p =
    ap (λ os. walk (template_front domain options) ts at os) p.whole ∙ changes_pass domain options p.changes ts us at p.records p.padding p.each p.effect
    ∙ changes_end domain options us (at + length p.records) p.padding (omega (arith, p.few))
