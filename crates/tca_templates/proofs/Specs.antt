-- The steps of reading specifiers.
use Rattle.std.proofs.Common.{◌≡◌, ℕ, zero, suc, ◌+◌, ◌-◌, ◌≤◌, true, cond, List, [], ◌∷◌, ◌++◌, length, drop, Option, Some, None, Result, Ok, Err, refl, sym, ap, ◌∙◌, arith, inl, inr, append_assoc}
use Rattle.std.specs.Prelude.{nat_lt}
use Rattle.std.specs.Option.{is_some}
use Rattle.std.proofs.lemmas.Bool.Decides.{nat_tests}
use Rattle.std.proofs.lemmas.List.{length-drop, length-append, append-nil}
use Rattle.byteorder.specs.Endian.{big_number}
use Rattle.tca_templates.specs.declared.template.FieldSpec.{FieldSpec}
use Rattle.tca_templates.specs.declared.fault.DecodeFault.{DecodeFault}
use Rattle.tca_templates.specs.Templates.{least_of, shortest_of}
use Rattle.tca_templates.specs.Specifiers.{spec_at, specs_in, specs_on}
use Rattle.tca_templates.proofs.Choices.{chosen, passed, same_some, one_fault, no_fault}

pub spec_size : (octets : List ℕ) (x : FieldSpec × ℕ) → spec_at octets ≡ Some x → x.1 ≤ length octets
spec_size octets x e =
    let short : FieldSpec × ℕ = (record { element = big_number 2 octets; enterprise = None; length = big_number 2 (drop 2 octets) }, 4) in
    let long : FieldSpec × ℕ = (record { element = big_number 2 octets - 32768; enterprise = Some (big_number 4 (drop 4 octets)); length = big_number 2 (drop 2 octets) }, 8) in
    let a = passed (nat_lt (length octets) 4) _ x e in
    elim (chosen (nat_lt (big_number 2 octets) 32768) (Some short) (cond (nat_lt (length octets) 8) None (Some long)) (Some x) a.1) [
      | inl w ↦ let k : 4 ≡ x.1 = ap (λ (p : FieldSpec × ℕ). p.1) (same_some short x w.1) in grind (arith, nat_tests, a.0, k)
      | inr w ↦
          let b = passed (nat_lt (length octets) 8) (Some long) x w.1 in
          let k : 8 ≡ x.1 = ap (λ (p : FieldSpec × ℕ). p.1) (same_some long x b.1) in grind (arith, nat_tests, b.0, k)
    ]

pub specs_next : (cut : DecodeFault) (specs : List FieldSpec) (used n : ℕ) (octets : List ℕ) (x : FieldSpec × ℕ) → spec_at octets ≡ Some x
    → specs_on cut specs used (suc n) octets ≡ specs_on cut (specs ++ x.0 ∷ []) (used + x.1) n (drop x.1 octets)
unfolding specs_on
specs_next cut specs used n octets x e =
    let F : Option (FieldSpec × ℕ) → Result (List FieldSpec × ℕ) DecodeFault = λ o. elim o [
      | None ↦ Err cut
      | Some x ↦ specs_on cut (specs ++ x.0 ∷ []) (used + x.1) n (drop x.1 octets)
    ] in
    ap F e

pub specs_cut : (cut : DecodeFault) (specs : List FieldSpec) (used n : ℕ) (octets : List ℕ) → spec_at octets ≡ None → specs_on cut specs used (suc n) octets ≡ Err cut
unfolding specs_on
specs_cut cut specs used n octets e =
    let F : Option (FieldSpec × ℕ) → Result (List FieldSpec × ℕ) DecodeFault = λ o. elim o [
      | None ↦ Err cut
      | Some x ↦ specs_on cut (specs ++ x.0 ∷ []) (used + x.1) n (drop x.1 octets)
    ] in
    ap F e

pub specs_done : (cut : DecodeFault) (specs : List FieldSpec) (used : ℕ) (octets : List ℕ) → specs_on cut specs used 0 octets ≡ Ok (specs, used)
unfolding specs_on
specs_done cut specs used octets = refl

-- where specifiers are cut off, this is the fault
pub specs_refused : (cut : DecodeFault) (specs : List FieldSpec) (used n : ℕ) (octets : List ℕ) (f : DecodeFault) → specs_on cut specs used n octets ≡ Err f → f ≡ cut
specs_refused cut specs used zero octets f e =
    let done : List FieldSpec × ℕ = (specs, used) in
    absurd (no_fault done f (sym (specs_done cut specs used octets) ∙ e))
specs_refused cut specs used (suc n) octets f e = go (λ more u rest h. specs_refused cut more u n rest f h) (spec_at octets) refl
  where
    go : ((more : List FieldSpec) (u : ℕ) (rest : List ℕ) → specs_on cut more u n rest ≡ Err f → f ≡ cut) → (o : Option (FieldSpec × ℕ)) → spec_at octets ≡ o → f ≡ cut
    go more None o = one_fault (specs_on cut specs used (suc n) octets) f cut e (specs_cut cut specs used n octets o)
    go more (Some x) o = more (specs ++ x.0 ∷ []) (used + x.1) (drop x.1 octets) (sym (specs_next cut specs used n octets x o) ∙ e)

pub specs_in_next : (n : ℕ) (octets : List ℕ) (x : FieldSpec × ℕ) → spec_at octets ≡ Some x → specs_in (suc n) octets ≡ x.0 ∷ specs_in n (drop x.1 octets)
unfolding specs_in
specs_in_next n octets x e =
    let F : Option (FieldSpec × ℕ) → List FieldSpec = λ o. elim o [
      | None ↦ []
      | Some x ↦ x.0 ∷ specs_in n (drop x.1 octets)
    ] in
    ap F e

specs_in_none : (n : ℕ) (octets : List ℕ) → spec_at octets ≡ None → specs_in (suc n) octets ≡ []
unfolding specs_in
specs_in_none n octets e =
    let F : Option (FieldSpec × ℕ) → List FieldSpec = λ o. elim o [
      | None ↦ []
      | Some x ↦ x.0 ∷ specs_in n (drop x.1 octets)
    ] in
    ap F e

pub specs_in_done : (octets : List ℕ) → specs_in 0 octets ≡ []
unfolding specs_in
specs_in_done octets = refl

-- of specifiers that are all there the first one is
pub first_there : (n : ℕ) (octets : List ℕ) → length (specs_in (suc n) octets) ≡ suc n → is_some (spec_at octets) ≡ true
first_there n octets whole = go (spec_at octets) refl
  where
    go : (o : Option (FieldSpec × ℕ)) → spec_at octets ≡ o → is_some o ≡ true
    go None e = absurd (omega (arith, whole, ap length (specs_in_none n octets e)))
    go (Some x) e = refl

pub shortest_behind : (specs : List FieldSpec) (s : FieldSpec) → shortest_of (specs ++ s ∷ []) ≡ shortest_of specs + least_of s
shortest_behind [] s = omega arith
shortest_behind (t ∷ ts) s = omega (arith, shortest_behind ts s)

-- what reading specifiers tells
pub record AreRead (specs : List FieldSpec) (used n : ℕ) (octets : List ℕ) (x : List FieldSpec × ℕ) : Type 0 where
  pub more : used ≤ x.1
  pub within : x.1 ≤ used + length octets
  pub count : length x.0 ≡ length specs + n
  pub are : x.0 ≡ specs ++ specs_in n octets

pub specs_holds : (cut : DecodeFault) (specs : List FieldSpec) (used count : ℕ) (octets : List ℕ) (x : List FieldSpec × ℕ)
    → specs_on cut specs used count octets ≡ Ok x → AreRead specs used count octets x
specs_holds cut specs used zero octets x e =
    let done : List FieldSpec × ℕ = (specs, used) in
    let given : Result (List FieldSpec × ℕ) DecodeFault = Ok done in
    let same : given ≡ Ok x = sym (specs_done cut specs used octets) ∙ e in
    let k : done ≡ x = cc in
    let l : length specs ≡ length x.0 = ap (λ (p : List FieldSpec × ℕ). length p.0) k in
    let u : used ≡ x.1 = ap (λ (p : List FieldSpec × ℕ). p.1) k in
    record {
      more = omega arith;
      within = omega arith;
      count = omega arith;
      are = sym (ap (λ (p : List FieldSpec × ℕ). p.0) k) ∙ sym (append-nil specs) ∙ ap (λ (l : List FieldSpec). specs ++ l) (sym (specs_in_done octets));
    }
specs_holds cut specs used (suc count) octets x e =
    go (λ more u rest h. specs_holds cut more u count rest x h) (spec_at octets) refl
  where
    go : ((more : List FieldSpec) (u : ℕ) (rest : List ℕ) → specs_on cut more u count rest ≡ Ok x → AreRead more u count rest x)
        → (o : Option (FieldSpec × ℕ)) → spec_at octets ≡ o → AreRead specs used (suc count) octets x
    go facts None o = let bad : Err cut ≡ Ok x = sym (specs_cut cut specs used count octets o) ∙ e in absurd cc
    go facts (Some y) o =
        let r = facts (specs ++ y.0 ∷ []) (used + y.1) (drop y.1 octets) (sym (specs_next cut specs used count octets y o) ∙ e) in
        let s = spec_size octets y o in
        record {
          more = omega (arith, r.more);
          within = omega (arith, r.within, s, length-drop y.1 octets);
          count = omega (arith, r.count, length-append specs (y.0 ∷ []));
          are = r.are ∙ append_assoc specs (y.0 ∷ []) (specs_in count (drop y.1 octets)) ∙ ap (λ (l : List FieldSpec). specs ++ l) (sym (specs_in_next count octets y o));
        }

-- what the specifiers that were gone over tell at their end
pub record AreMeasured (cut : DecodeFault) (specs : List FieldSpec) (head used count : ℕ) (octets : List ℕ) : Type 0 where
  pub is : specs_on cut [] head count octets ≡ Ok (specs, used)
  pub are : specs ≡ specs_in count octets
  pub many : length specs ≡ count
  pub more : head ≤ used
  pub within : used ≤ head + length octets

pub specs_measured : (cut : DecodeFault) (specs : List FieldSpec) (head used count left : ℕ) (octets rest : List ℕ) → left ≡ 0
    → specs_on cut specs used left rest ≡ specs_on cut [] head count octets → AreMeasured cut specs head used count octets
specs_measured cut specs head used count left octets rest none e =
    let x : List FieldSpec × ℕ = (specs, used) in
    let is : specs_on cut [] head count octets ≡ Ok x = sym e ∙ ap (λ n. specs_on cut specs used n rest) none ∙ specs_done cut specs used rest in
    let facts = specs_holds cut [] head count octets x is in
    record { is = is; are = facts.are; many = omega (arith, facts.count); more = facts.more; within = facts.within }
