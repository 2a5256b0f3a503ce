-- The steps of reading a template set.
use Rattle.std.proofs.Common.{◌≡◌, ℕ, ◌+◌, ◌<◌, ◌≤◌, Bool, true, false, cond, List, [], length, drop, Result, Ok, Err, refl, sym, ap, subst, ◌∙◌, arith, inl, inr}
use Rattle.std.specs.Prelude.{nat_lt, ◌==◌, ◌&&◌, ◌||◌}
use Rattle.std.specs.Result.{IsOk}
use Rattle.std.proofs.lemmas.Bool.Decides.{nat_tests}
use Rattle.std.proofs.lemmas.List.{length-drop}
use Rattle.byteorder.specs.Endian.{big_number}
use Rattle.tca_wire.specs.Walks.{Ends, Next, walk, Advances}
use Rattle.tca_wire.proofs.Walking.{walk_next, walk_ends, walk_bad}
use Rattle.tca_templates.specs.declared.template.FieldSpec.{FieldSpec}
use Rattle.tca_templates.specs.declared.fault.DecodeFault.{DecodeFault}
use Rattle.tca_templates.specs.declared.fault.DecodeFault.TheVariants.{TemplateId, TemplateCut, Scope, EmptyTemplate, TooMany}
use Rattle.tca_templates.specs.Templates.{Templates, shortest_of}
use Rattle.tca_templates.specs.Specifiers.{ChangeView, AllGone, Gone, New, set_id, head_of, specs_on, defined, behind_head, change_at, changed, onward, after_change, template_front}
use Rattle.tca_templates.specs.Fields.{IsSound}
use Rattle.tca_templates.proofs.Choices.{chosen, refused, same_ok}
use Rattle.tca_templates.proofs.Specs.{specs_holds}

head_holds : (options : Bool) (at count : ℕ) (octets : List ℕ) (n : ℕ) → 4 ≤ length octets → head_of options at count octets ≡ Ok n → (4 ≤ n) × (n ≤ length octets)
head_holds false at count octets n le e = let k : 4 ≡ n = cc in (omega arith, omega arith)
head_holds true at count octets n le e =
    let a = refused (nat_lt (length octets) 6) (TemplateCut at) _ n e in
    let b = refused ((big_number 2 (drop 4 octets) == 0) || nat_lt count (big_number 2 (drop 4 octets))) (Scope at) (Ok 6) n a.1 in
    let k : 6 ≡ n = same_ok 6 n b.1 in
    (omega arith, grind (arith, nat_tests, a.0, k))

defined_holds : (id : ℕ) (r : Result (List FieldSpec × ℕ) DecodeFault) (x : ChangeView × ℕ) → defined id r ≡ Ok x → (y : List FieldSpec × ℕ) × (r ≡ Ok y) × (y.1 ≡ x.1)
defined_holds id (Err f) x e = absurd cc
defined_holds id (Ok y) x e =
    let found : ChangeView × ℕ = (New id y.0, y.1) in
    let a = refused (shortest_of y.0 == 0) (EmptyTemplate id) (Ok found) x e in
    (y, refl, ap (λ (p : ChangeView × ℕ). p.1) (same_ok found x a.1))

behind_holds : (options : Bool) (id at count : ℕ) (octets : List ℕ) (x : ChangeView × ℕ) → 4 ≤ length octets
    → behind_head id at count octets (head_of options at count octets) ≡ Ok x → (4 ≤ x.1) × (x.1 ≤ length octets)
behind_holds options id at count octets x le e = go (head_of options at count octets) refl e
  where
    go : (r : Result ℕ DecodeFault) → head_of options at count octets ≡ r → behind_head id at count octets r ≡ Ok x → (4 ≤ x.1) × (x.1 ≤ length octets)
    go (Err f) h e = absurd cc
    go (Ok n) h e =
        let a = head_holds options at count octets n le h in
        let d = defined_holds id (specs_on (TemplateCut at) [] n count (drop n octets)) x e in
        let s = specs_holds (TemplateCut at) [] n count (drop n octets) d.0 d.1 in
        (omega (arith, a.0, s.more, d.2), omega (arith, a.1, s.within, d.2, length-drop n octets))

pub change_holds : (options : Bool) (at : ℕ) (octets : List ℕ) (x : ChangeView × ℕ) → 4 ≤ length octets → change_at options at octets ≡ Ok x → (4 ≤ x.1) × (x.1 ≤ length octets)
unfolding change_at
change_holds options at octets x le e =
    let id = big_number 2 octets in
    let count = big_number 2 (drop 2 octets) in
    let all : ChangeView × ℕ = (AllGone, 4) in
    let gone : ChangeView × ℕ = (Gone id, 4) in
    elim (chosen ((id == set_id options) && (count == 0)) (Ok all) _ (Ok x) e) [
      | inl w ↦ let k : 4 ≡ x.1 = ap (λ (p : ChangeView × ℕ). p.1) (same_ok all x w.1) in (omega arith, omega arith)
      | inr w ↦
          let a = refused (nat_lt id 256) (TemplateId at) _ x w.1 in
          elim (chosen (count == 0) (Ok gone) _ (Ok x) a.1) [
            | inl v ↦ let k : 4 ≡ x.1 = ap (λ (p : ChangeView × ℕ). p.1) (same_ok gone x v.1) in (omega arith, omega arith)
            | inr v ↦ let b = refused (nat_lt 512 count) TooMany _ x v.1 in behind_holds options id at count octets x le b.1
          ]
    ]

module _ (domain : ℕ) (options : Bool) where
  pub change_advances : Advances (template_front domain options)
  unfolding template_front
  change_advances ts us at n octets e = go (nat_lt (length octets) 4) (change_at options at octets) refl refl e
    where
      onward_holds : (size : ℕ) (r : Result Templates DecodeFault) → onward size r ≡ Next us n → size ≡ n
      onward_holds size (Ok vs) e = cc
      onward_holds size (Err f) e = absurd cc

      go : (b : Bool) (r : Result (ChangeView × ℕ) DecodeFault) → nat_lt (length octets) 4 ≡ b → change_at options at octets ≡ r
          → cond b Ends (after_change domain options ts r) ≡ Next us n → (0 < n) × (n ≤ length octets)
      go true r l f e = absurd cc
      go false (Err g) l f e = absurd cc
      go false (Ok x) l f e =
          let le : 4 ≤ length octets = grind (arith, nat_tests, l) in
          let facts = change_holds options at octets x le f in
          let k = onward_holds x.1 (changed domain options ts x.0) e in
          (omega (arith, facts.0, k), omega (arith, facts.1, k))

  pub changes_end : (ts : Templates) (at : ℕ) (octets : List ℕ) → length octets < 4 → walk (template_front domain options) ts at octets ≡ Ok ts
  unfolding template_front
  changes_end ts at octets lt =
      let l : nat_lt (length octets) 4 ≡ true = grind (arith, nat_tests) in
      walk_ends (template_front domain options) change_advances ts at octets (ap (λ b. cond b Ends (after_change domain options ts (change_at options at octets))) l)

  pub front_more : (ts : Templates) (at : ℕ) (octets : List ℕ) (r : Result (ChangeView × ℕ) DecodeFault) → 4 ≤ length octets → change_at options at octets ≡ r
      → template_front domain options ts at octets ≡ after_change domain options ts r
  unfolding template_front
  front_more ts at octets r le e =
      let l : nat_lt (length octets) 4 ≡ false = grind (arith, nat_tests) in
      ap (λ b. cond b Ends (after_change domain options ts (change_at options at octets))) l ∙ ap (after_change domain options ts) e

  pub front_sound : (ts : Templates) (at : ℕ) (octets : List ℕ) (x : ChangeView × ℕ) → 4 ≤ length octets → change_at options at octets ≡ Ok x
      → IsOk (changed domain options ts x.0) → IsSound (template_front domain options ts at octets)
  front_sound ts at octets x le e ok =
      subst (λ f. IsSound f) (sym (front_more ts at octets (Ok x) le e)) (onward_sound (changed domain options ts x.0) ok)
    where
      onward_sound : (r : Result Templates DecodeFault) → IsOk r → IsSound (onward x.1 r)
      onward_sound (Ok us) ok = tt
      onward_sound (Err f) ok = absurd cc

  pub changes_bad : (ts : Templates) (at : ℕ) (octets : List ℕ) (f : DecodeFault) → 4 ≤ length octets → change_at options at octets ≡ Err f
      → walk (template_front domain options) ts at octets ≡ Err f
  changes_bad ts at octets f le e = walk_bad (template_front domain options) change_advances ts at octets f (front_more ts at octets (Err f) le e)

  pub changes_refused : (ts : Templates) (at : ℕ) (octets : List ℕ) (x : ChangeView × ℕ) (f : DecodeFault) → 4 ≤ length octets → change_at options at octets ≡ Ok x
      → changed domain options ts x.0 ≡ Err f → walk (template_front domain options) ts at octets ≡ Err f
  changes_refused ts at octets x f le e r =
      walk_bad (template_front domain options) change_advances ts at octets f (front_more ts at octets (Ok x) le e ∙ ap (onward x.1) r)

  pub changes_next : (ts us : Templates) (at : ℕ) (octets : List ℕ) (x : ChangeView × ℕ) → 4 ≤ length octets → change_at options at octets ≡ Ok x
      → changed domain options ts x.0 ≡ Ok us → walk (template_front domain options) ts at octets ≡ walk (template_front domain options) us (at + x.1) (drop x.1 octets)
  changes_next ts us at octets x le e r =
      walk_next (template_front domain options) change_advances ts us at x.1 octets (front_more ts at octets (Ok x) le e ∙ ap (onward x.1) r)
