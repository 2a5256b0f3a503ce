-- What is found wrong in a template set is the first template record that is wrong, and nothing else is.
use Rattle.std.proofs.Common.{◌≡◌, ℕ, zero, suc, ◌+◌, ◌<◌, ◌≤◌, Bool, true, false, List, [], ◌∷◌, ◌++◌, length, take, drop, Result, Ok, Err, refl, sym, ap, subst, ◌∙◌, arith, append_assoc}
use Rattle.std.specs.Prelude.{nat_lt}
use Rattle.std.proofs.lemmas.Bool.Decides.{nat_tests}
use Rattle.std.proofs.lemmas.List.{length-drop, length-append, length-take-le, take-append-drop}
use Rattle.tca_join.specs.Results.{◌>>=◌}
use Rattle.tca_wire.specs.Walks.{walk}
use Rattle.tca_templates.specs.declared.fault.DecodeFault.{DecodeFault}
use Rattle.tca_templates.specs.Templates.{Templates}
use Rattle.tca_templates.specs.Specifiers.{ChangeView, change_at, changed, template_front}
use Rattle.tca_templates.specs.TemplateSets.{after_changes}
use Rattle.tca_templates.specs.FirstFaults.{IsFaultyTemplate, IsFaultyTemplateSet}
use Rattle.tca_templates.proofs.Choices.{one_fault, no_fault}
use Rattle.tca_templates.proofs.Changes.{change_holds, changes_end, changes_bad, changes_refused, changes_next}
use Rattle.tca_templates.proofs.TemplateSetLaws.{record_found, changes_pass}
use Rattle.tca_templates.proofs.TemplateFaults.{change_wrong, changed_wrong, record_refused}

fault_for : (most : ℕ) (domain : ℕ) (options : Bool) (ts : Templates) (at : ℕ) (octets : List ℕ) (fault : DecodeFault) → length octets < most
    → walk (template_front domain options) ts at octets ≡ Err fault → IsFaultyTemplateSet domain options ts at octets fault
fault_for zero domain options ts at octets fault lt e = absurd (omega arith)
fault_for (suc most) domain options ts at octets fault lt e =
    start (λ vs at rest l h. fault_for most domain options vs at rest fault l h) (nat_lt (length octets) 4) refl
  where
    Further : Type 0
    Further = (vs : Templates) (at : ℕ) (rest : List ℕ) → length rest < most → walk (template_front domain options) vs at rest ≡ Err fault
        → IsFaultyTemplateSet domain options vs at rest fault

    first : 4 ≤ length octets → IsFaultyTemplate domain options ts at octets fault → IsFaultyTemplateSet domain options ts at octets fault
    first four wrong =
        let here : at ≡ at + 0 = omega arith in
        record {
          changes = [];
          templates = ts;
          records = [];
          rest = octets;
          whole = refl;
          each = refl;
          effect = refl;
          more = four;
          wrong = subst (λ (n : ℕ). IsFaultyTemplate domain options ts n octets fault) here wrong;
        }

    step : Further → (x : ChangeView × ℕ) → 4 ≤ length octets → change_at options at octets ≡ Ok x → (r : Result Templates DecodeFault) → changed domain options ts x.0 ≡ r
        → IsFaultyTemplateSet domain options ts at octets fault
    step further x four c (Err f) k =
        let same = one_fault (walk (template_front domain options) ts at octets) f fault (changes_refused domain options ts at octets x f four c k) e in
        let wrong = changed_wrong domain options ts at x.0 (take x.1 octets) (drop x.1 octets) f (record_found options at octets x four c) k in
        first four (subst (λ (g : DecodeFault). IsFaultyTemplate domain options ts at octets g) same
        (subst (λ (os : List ℕ). IsFaultyTemplate domain options ts at os f) (take-append-drop x.1 octets) wrong))
    step further x four c (Ok vs) k =
        let facts = change_holds options at octets x four c in
        let r = further vs (at + x.1) (drop x.1 octets) (omega (arith, facts.0, facts.1, length-drop x.1 octets)) (sym (changes_next domain options ts vs at octets x four c k) ∙ e) in
        let there : at + x.1 + length r.records ≡ at + length (take x.1 octets ++ r.records) = omega (arith, length-append (take x.1 octets) r.records, length-take-le x.1 octets facts.1) in
        record {
          changes = x.0 ∷ r.changes;
          templates = r.templates;
          records = take x.1 octets ++ r.records;
          rest = r.rest;
          whole = sym (take-append-drop x.1 octets) ∙ ap (λ rest. take x.1 octets ++ rest) r.whole ∙ sym (append_assoc (take x.1 octets) r.records r.rest);
          each = record { own = take x.1 octets; rest = r.records; whole = refl; is = record_found options at octets x four c; behind = r.each };
          effect = ap (λ (x : Result Templates DecodeFault). x >>= (λ vs. after_changes domain options vs r.changes)) k ∙ r.effect;
          more = r.more;
          wrong = subst (λ (n : ℕ). IsFaultyTemplate domain options r.templates n r.rest fault) there r.wrong;
        }

    go : Further → 4 ≤ length octets → (r : Result (ChangeView × ℕ) DecodeFault) → change_at options at octets ≡ r → IsFaultyTemplateSet domain options ts at octets fault
    go further four (Err f) c =
        let same = one_fault (walk (template_front domain options) ts at octets) f fault (changes_bad domain options ts at octets f four c) e in
        first four (subst (λ (g : DecodeFault). IsFaultyTemplate domain options ts at octets g) same (change_wrong domain options ts at octets f four c))
    go further four (Ok x) c = step further x four c (changed domain options ts x.0) refl

    start : Further → (b : Bool) → nat_lt (length octets) 4 ≡ b → IsFaultyTemplateSet domain options ts at octets fault
    start further true l =
        let few : length octets < 4 = grind (arith, nat_tests, l) in
        absurd (no_fault ts fault (sym (changes_end domain options ts at octets few) ∙ e))
    start further false l = go further (grind (arith, nat_tests, l)) (change_at options at octets) refl

pub template_set_fault : (domain : ℕ) (options : Bool) (ts : Templates) (at : ℕ) (octets : List ℕ) (fault : DecodeFault)
    → walk (template_front domain options) ts at octets ≡ Err fault → IsFaultyTemplateSet domain options ts at octets fault
template_set_fault domain options ts at octets fault e = fault_for (suc (length octets)) domain options ts at octets fault (omega arith) e

pub template_set_no_other : (domain : ℕ) (options : Bool) (ts : Templates) (at : ℕ) (octets : List ℕ) (fault : DecodeFault)
    → IsFaultyTemplateSet domain options ts at octets fault → walk (template_front domain options) ts at octets ≡ Err fault
template_set_no_other domain options ts at octets fault p =
    ap (λ os. walk (template_front domain options) ts at os) p.whole ∙ changes_pass domain options p.changes ts p.templates at p.records p.rest p.each p.effect
    ∙ record_refused domain options p.templates (at + length p.records) p.rest fault p.more p.wrong
